-- The loop that looks for the end of a group in the list.
use mathlib.Core.Path.{◌≡◌, sym, ap, ◌∙◌}
use mathlib.Core.Bool.{true, false}
use mathlib.Core.List.{List}
use Prim.Native.Nat.{ℕ, suc, ◌+◌, ◌-◌, ◌≤◌, ◌<◌}
use native.Mathlib.Omega.{arith}
use lib.ListN.{length, get_or, take}
use Rattle.search_laws.specs.inner.Entries.{opens, end_from, group_end}
use Rattle.working_list.specs.declared.Placed.{Placed}
use Rattle.working_list.specs.inner.Placing.{unpacked, entries}
use Rattle.working_list.proofs.EntryLaws.{taken_length, entries_opens}

-- The pairs from `from` up to `to` are of the group: it ends where one of the others opens another group.
pub record GroupSoFar (list : List ℕ) (count from to : ℕ) : Type 0 where
  pub held : count ≤ length list
  pub low : from < to
  pub high : to ≤ count
  pub rest :
      (worlds : ℕ) → group_end (entries worlds (take count list)) from ≡ end_from (count - to) (entries worlds (take count list)) to

-- The first pair is of the group.
pub so_far_begins : {list : List ℕ} {count from : ℕ} → from < count → count ≤ length list → GroupSoFar list count from (from + 1)
so_far_begins {list} {count} {from} l held =
    record {
      held = held;
      low = omega arith;
      high = omega arith;
      rest = λ worlds.
          ap (λ (n : ℕ). end_from (n - (from + 1)) (entries worlds (take count list)) (from + 1)) (taken_length worlds list count held);
    }

module _ {list : List ℕ} {count from to : ℕ} (at : GroupSoFar list count from to) where
  module _ (here : to < count) {p : Placed} (is : p ≡ unpacked (get_or list to 0)) where
    more : count - to ≡ suc (count - (to + 1))
    more = omega arith

    -- The next pair opens a group: the group ends there.
    pub ends_here : p.opens ≡ true → (worlds : ℕ) → to ≡ group_end (entries worlds (take count list)) from
    unfolding end_from
    ends_here o worlds =
        let E = entries worlds (take count list) in
        let opened : opens E to ≡ true = entries_opens worlds list count to here at.held ∙ ap (λ (q : Placed). q.opens) (sym is) ∙ o in
        sym (at.rest worlds ∙ rw (more, opened, end_from))

    -- It does not: it is of the group.
    pub so_far_on : p.opens ≡ false → GroupSoFar list count from (to + 1)
    unfolding end_from
    so_far_on o =
        record {
          held = at.held;
          low = omega (arith, at.low);
          high = omega arith;
          rest = λ worlds.
              let E = entries worlds (take count list) in
              let closed : opens E to ≡ false =
              entries_opens worlds list count to here at.held ∙ ap (λ (q : Placed). q.opens) (sym is) ∙ o in
              at.rest worlds ∙ rw (more, closed, end_from);
        }

  -- There is no next pair: the group ends with the list.
  pub ends_last : count ≤ to → (worlds : ℕ) → count ≡ group_end (entries worlds (take count list)) from
  unfolding end_from
  ends_last past worlds =
      let none : count - to ≡ 0 = omega arith in
      let last : count ≡ to = omega (arith, at.high) in
      last ∙ sym (at.rest worlds ∙ rw none)
