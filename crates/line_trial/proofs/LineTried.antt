-- What the functions answer on a line that is tried, and one kind of end after the other.
use mathlib.Core.Path.{◌≡◌, subst}
use mathlib.Core.Bool.{true, false}
use mathlib.Core.List.{List}
use Prim.Native.Nat.{ℕ, ◌≤◌}
use native.Mathlib.Omega.{arith}
use Rattle.lamp_line.specs.Tables.{Tables, kinds_of_ends}
use Rattle.lamp_line.specs.declared.Pair.{Pair}
use Rattle.run_laws.specs.inner.Pairs.{pair_number}
use Rattle.search_laws.specs.inner.Entries.{Entry}
use Rattle.check_laws.specs.inner.Fates.{AtEnds, good, bad, at_ends}
use Rattle.check_laws.specs.inner.Search.{finds, visited, tried}
use Rattle.check_laws.proofs.Ends.{EndsSay, ends_say}
use Rattle.std.specs.Prelude.{Option, None, Some, Ok}
use Rattle.std.specs.Option.{is_some}
use Rattle.line_trial.specs.inner.Trials.{Tried, EndsSoFar, EndsNew, Tries, TriesEnd, TriesLine}

-- ---- the answers, case by case

module _
    {t : Tables} {E : List Entry} {member kind : ℕ} {ForNew : Pair → Type 0} {r : Tried} {memory' : List ℕ}
    (tries : Tries t E member kind ForNew r memory') where
  abbrev As : Tried → Type 0
  As u = Tries t E member kind ForNew u memory'

  -- The line reaches its end with a new pair.
  pub tries_new : {p : Pair} → r ≡ Ok (Some p) → ForNew p
  tries_new e = (subst As e tries).so

-- ---- one end after the other

-- The answer of `try_end` for one end.
module _
    {t : Tables} {E : List Entry} {member kind end : ℕ} {words : List ℕ} {r : Tried} {memory' : List ℕ}
    (tries : TriesEnd t E member kind end words r memory') where
  -- This is the highest end: a new pair fails with no end.
  ends_new : {p : Pair} → r ≡ Ok (Some p) → t.ends ≤ end → EndsNew t E member kind words p
  unfolding kinds_of_ends
  ends_new {p} is_new last =
      record { range = so_far.range; unmarked = so_far.unmarked; found = go (at_ends t y) so_far.visits (ends_say t y) }
    where
      so_far : EndsSoFar t E member kind end words p
      so_far = tries_new tries is_new

      y : ℕ
      y = pair_number t.worlds p

      go : (ends : AtEnds) → tried t E member kind ≡ visited y false ends → EndsSay t y ends → tried t E member kind ≡ finds y
      go good f say = f
      go (bad e failure) f say = absurd (so_far.tried_below.none_fails failure e (omega (arith, last, say.is_end)) f)

  -- So what was found with it is what the line finds.
  pub all_ends_tried :
      {found : Option Pair} → r ≡ Ok found → is_some found ≡ true → t.ends ≤ end → TriesLine t E member kind words (Ok found) memory'
  all_ends_tried {found = None} is some last = absurd (let z : ◌≡◌ {A = ℕ} 0 1 = cc in omega arith)
  all_ends_tried {found = Some p} is some last = record { so = ends_new is last; remembers = tries.remembers }
