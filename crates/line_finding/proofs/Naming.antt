-- The failing line that is written fits in the buffer, and with it the answer is that of the search.
use mathlib.Core.Path.{◌≡◌, ap, subst, ◌∙◌}
use mathlib.Core.List.{List}
use Prim.Native.Nat.{ℕ, ◌+◌, ◌*◌, ◌≤◌}
use native.Mathlib.Omega.{arith}
use lib.ListN.{length, take}
use lib.Seq.{length-take-le}
use Rattle.lamp_line.specs.declared.FailureKind.{FailureKind}
use Rattle.lamp_line.specs.Tables.{Tables}
use Rattle.lamp_line.specs.inner.WellFormed.{WellFormed}
use Rattle.lamp_line.proofs.Products.{product_le}
use Rattle.check_laws.specs.inner.Search.{line_lamps}
use Rattle.check_laws.proofs.VerdictRight.{failing_short}
use Rattle.plan_search.specs.declared.FailingLine.{FailingLine}
use Rattle.std.specs.Prelude.{Result, Err}
use Rattle.working_list.specs.inner.Placing.{entries, MemberOf, Chained}
use Rattle.plan_search.specs.inner.Searching.{LineMet, Searched}
use Rattle.working_list.proofs.LineLoops.{same_lamps}

-- A line fails.
module _
    {t : Tables} {longest : ℕ} {r : Result ℕ FailingLine} {found : FailingLine} {list : List ℕ}
    (searched : Searched t longest r list) (fails : r ≡ Err found) where
  abbrev kind : FailureKind
  kind = found.failure

  abbrev end : ℕ
  end = found.end

  abbrev n : ℕ
  n = found.count

  abbrev member : ℕ
  member = found.member

  abbrev k : ℕ
  k = found.kind

  abbrev lamps : ℕ
  lamps = found.lamps

  met : LineMet t longest kind end list n member k lamps
  met = (subst (λ (u : Result ℕ FailingLine). Searched t longest u list) fails searched).so

  -- The list has the words from which the line is read.
  pub words_held : n ≤ length list
  words_held = met.room

  -- The first n words of it are n words.
  pub taken_size : length (take n list) ≡ n
  taken_size = length-take-le n list words_held

  member_of : MemberOf (length (take n list)) member k
  member_of = rw taken_size met.member_of

  module _ (wf : WellFormed t) where
    -- The line has at most S·W + 1 lamps, so a buffer with as many bytes has room.
    line_fits : {room : ℕ} → t.states * t.worlds + 1 ≤ room → lamps ≤ room
    line_fits h = omega (arith, met.lamps_are, failing_short t wf met.verdict_is)

    -- It has at most 4,097 lamps.
    pub lamps_few : lamps ≤ 4097
    lamps_few = line_fits (omega (arith, product_le 64 64 t.states t.worlds wf.formed.states_range wf.formed.worlds_range.1))

    -- The precondition of the function that writes the line.
    pub writable :
        {room : ℕ} → t.states * t.worlds + 1 ≤ room →
        Chained (take n list) × MemberOf (length (take n list)) member k × (length (take n list) ≤ 4160) × (lamps ≤ room)
        × ((worlds : ℕ) → lamps ≡ length (line_lamps (entries worlds (take n list)) member k))
    writable enough = (
      met.chained,
      member_of,
      omega (arith, taken_size, met.few),
      line_fits enough,
      λ worlds.
          met.lamps_are
          ∙ ap length (same_lamps t.worlds worlds (take n list) met.chained member_of),
    )
