-- The links of a walk when an entry is stored: one more link, at the pair that the walk has reached, or the entry of the fate in
-- place of the first link.
use mathlib.Core.Path.{◌≡◌, refl, sym, ap, subst, ◌∙◌}
use mathlib.Core.Logic.{inl, inr}
use mathlib.Core.List.{List}
use Prim.Native.Nat.{ℕ, ◌+◌, ◌≤◌, ◌<◌}
use native.Mathlib.Decide.{dec_lt, ℕ_discrete}
use native.Mathlib.Omega.{arith}
use lib.ListN.{set, length-set}
use Rattle.lamp_line.specs.Tables.{Tables}
use Rattle.lamp_line.specs.declared.Pair.{Pair}
use Rattle.lamp_line.specs.Run.{Walk, lamp_walk}
use Rattle.run_laws.specs.inner.Pairs.{InRange, pair_number}
use Rattle.fate_laws.specs.inner.Fates.{uncounted}
use Rattle.fate_laws.proofs.Series.{stays_within}
use Rattle.fate_laws.proofs.StepFates.{stays_fate}
use Rattle.lamp_fates.specs.inner.Memory.{fate_entry, entry_place, remembered}
use Rattle.lamp_fates.specs.inner.Links.{Asked, After, Link, OnTheWay, Stands, Linked}
use Rattle.lamp_fates.proofs.Entries.{entry_uncounted}
use Rattle.lamp_fates.proofs.Places.{stored}

module _ {t : Tables} {first : Pair} {column : ℕ} (asked : Asked t first column) where
  -- A pair of the walk is one of the tables.
  pub within : (i : ℕ) {p : Pair} → After t first column i p → InRange t p
  within i {p} = stays_within t asked.well_formed column i first p asked.in_range

  -- If v is the first pair's fate, the entry of v is the entry of that fate.
  pub told : {v : Walk} → uncounted (lamp_walk t first column) ≡ v → fate_entry v ≡ fate_entry (lamp_walk t first column)
  told e = ap fate_entry (sym e) ∙ entry_uncounted (lamp_walk t first column)

  -- All pairs of the walk have the same fate.
  pub same_fate :
      (i : ℕ) {p : Pair} → After t first column i p → fate_entry (lamp_walk t p column) ≡ fate_entry (lamp_walk t first column)
  same_fate i {p} after =
      sym (entry_uncounted (lamp_walk t p column))
      ∙ told (stays_fate t asked.well_formed column asked.column_in i first p asked.in_range after)

  -- The same number of actions leads to the same pair.
  one_pair : {i k : ℕ} {p q : Pair} → After t first column i q → After t first column k p → i ≡ k → q ≡ p
  one_pair {q = q} at_q at_p same =
      let here = subst (λ i. After t first column i q) same at_q in
      cc

  -- ---- one more link

  -- The walk has reached p after k actions, and p has no entry yet.
  module _
      {memory : List ℕ} {k : ℕ} {p : Pair} (links : Linked t first column 0 k memory) (after : After t first column k p)
      (none : remembered t memory p column ≡ 0) where
    -- No earlier pair is p, since each of them has a link.
    not_before : (i : ℕ) {q : Pair} → After t first column i q → i < k → ¬ (q ≡ p)
    not_before i {q} at_q i< same =
        omega (arith, (links.link i q (omega arith) i< at_q).names, ap (λ q. remembered t memory q column) same)

    -- Of the pairs up to here, p is the last.
    last_of_all : (i : ℕ) {q : Pair} → After t first column i q → i < k + 1 → q ≡ p → i ≡ k
    last_of_all i at_q i< same = go (dec_lt i k)
      where
        go : Dec (i < k) → i ≡ k
        go (yes h) = absurd (not_before i at_q h same)
        go (no h) = omega arith

    before_last : (i : ℕ) {q : Pair} → After t first column i q → i < k + 1 → ¬ (q ≡ p) → i < k
    before_last i at_q i< other = go (dec_lt i k)
      where
        go : Dec (i < k) → i < k
        go (yes h) = h
        go (no h) = absurd (other (one_pair at_q after (omega arith)))

    once_more : (i j : ℕ) {q : Pair} → i < j → j < k + 1 → After t first column i q → ¬ (After t first column j q)
    once_more i j {q} i<j j< at_q again = go (dec_lt j k)
      where
        go : Dec (j < k) → ⊥
        go (yes h) = links.once i j q (omega arith) i<j h at_q again
        go (no h) = not_before i at_q (omega arith) (one_pair again after (omega arith))

    longer : {q : Pair} {at v : ℕ} → Stands t first column 0 k q at v → Stands t first column 0 (k + 1) q at v
    longer (inl known) = inl known
    longer (inr way) =
        inr (record {
          here = way.here;
          actions = way.actions;
          not_earlier = way.not_earlier;
          before = omega (arith, way.before);
          after = way.after;
        })

    -- The link to the next pair is left at p.
    pub link_left :
        {to : Pair} → After t first column (k + 1) to →
        Linked t first column 0 (k + 1) (set memory (entry_place t p column) (8192 + pair_number t.worlds to))
    link_left {to} next =
        record {
          room = simp length-set links.room;
          link = λ i q h i< at_q.
              stored t p column (within k after) asked.column_in q column (within i at_q) asked.column_in
              (Link t first column i) memory _ links.room
              (λ same. newest (last_of_all i at_q i< same.0))
              (λ other. links.link i q h (before_last i at_q i< (λ same. other (same, refl))) at_q);
          once = λ i j q h i<j j< at_q. once_more i j i<j j< at_q;
          others = λ q at in_range at_in.
              stored t p column (within k after) asked.column_in q at in_range at_in
              (Stands t first column 0 (k + 1) q at) memory _ links.room
              (λ same. inr (on_the_way same.0 same.1))
              (λ other. longer (links.others q at in_range at_in));
        }
      where
        newest : {i : ℕ} → i ≡ k → Link t first column i (8192 + pair_number t.worlds to)
        newest same = rw same (record { to = to; after = next; names = refl })

        on_the_way : {q : Pair} {at : ℕ} → q ≡ p → at ≡ column → OnTheWay t first column 0 (k + 1) q at
        on_the_way same here =
            record { here = here; actions = k; not_earlier = omega arith; before = omega arith; after = rw same after }

  -- ---- one link fewer

  -- The first link is that of p.
  module _
      {memory : List ℕ} {from below : ℕ} {p : Pair}
      (links : Linked t first column from below memory) (after : After t first column from p) where
    shorter :
        {q : Pair} {at v : ℕ} → ¬ ((q ≡ p) × (at ≡ column)) →
        Stands t first column from below q at v → Stands t first column (from + 1) below q at v
    shorter other (inl known) = inl known
    shorter other (inr way) =
        inr (record {
          here = way.here;
          actions = way.actions;
          not_earlier = later (ℕ_discrete way.actions from);
          before = way.before;
          after = way.after;
        })
      where
        later : Dec (way.actions ≡ from) → from + 1 ≤ way.actions
        later (yes same) = absurd (other (one_pair way.after after same, way.here))
        later (no differs) = omega (arith, way.not_earlier)

    -- The entry of the fate is written at p.
    pub fate_written :
        {v : ℕ} → v ≡ fate_entry (lamp_walk t first column) →
        Linked t first column (from + 1) below (set memory (entry_place t p column) v)
    fate_written {v} right =
        record {
          room = simp length-set links.room;
          link = λ i q h i< at_q.
              stored t p column (within from after) asked.column_in q column (within i at_q) asked.column_in
              (Link t first column i) memory v links.room
              (λ same. absurd (links.once from i q (omega arith) (omega arith) i< (rw same.0 after) at_q))
              (λ other. links.link i q (omega arith) i< at_q);
          once = λ i j q h. links.once i j q (omega arith);
          others = λ q at in_range at_in.
              stored t p column (within from after) asked.column_in q at in_range at_in
              (Stands t first column (from + 1) below q at) memory v links.room
              (λ same. inl (inr (rw (same.0, same.1) (right ∙ sym (same_fate from after)))))
              (λ other. shorter other (links.others q at in_range at_in));
        }
