-- Series of actions at one column, for the laws of fates: the result of at most n actions in a row, as one move.
use Rattle.std.specs.Prelude.{ℕ, zero, suc}
use Rattle.lamp_line.specs.Tables.{Tables}
use Rattle.lamp_line.specs.declared.Pair.{Pair}
use Rattle.lamp_line.specs.Run.{Move, ends, stays, passes, act}

-- A move; if it stays, then another from the pair at which it stays.
abbrev pub next : Move → (Pair → Move) → Move
next (ends x) more = ends x
next (stays p) more = more p
next (passes p) more = passes p

module _ (t : Tables) (c : ℕ) where
  -- The result of n actions at the column c, or of fewer if one of them ends the run or passes the lamp.
  unfoldable pub series : ℕ → Pair → Move
  series zero p = stays p
  series (suc n) p = next (act t p c) (λ p'. series n p')
