-- The turns of the search over a graph in which a node has one edge or one failure at each kind of lamp. A line is tried from each entry
-- of a group in turn; the first failure among them is the least of all.
use mathlib.Core.Path.{◌≡◌, sym, ap, subst, ◌∙◌}
use mathlib.Core.Logic.{◌≢◌, ◌⊎◌, inl, inr, ⊎_elim}
use mathlib.Core.List.{List}
use Prim.Native.Nat.{ℕ, ◌+◌, ◌≤◌, ◌<◌}
use native.Mathlib.Omega.{arith}
use borrow.Author.Tests.{eqb-true, eqb-false}
use lib.Dec.{eqb}
use lib.ListN.{length}
use Rattle.lamp_line.specs.Lists.{◌≼◌}
use Rattle.search_laws.specs.inner.Lists.{◌▸◌, ◌≺◌}
use Rattle.search_laws.proofs.Lex.{≺_irrefl}
use Rattle.search_laws.proofs.Keys.{stem, key, key_by_end, key_by_start, key_by_failure}
use Rattle.search_laws.specs.inner.Graph.{Graph, Kind, Reach, FailsFrom, Plain}
use Rattle.search_laws.proofs.Graph.{Least}
use Rattle.search_laws.specs.inner.Entries.{Entry, entry_at, node, start, path, grown, onward, group_end}
use Rattle.search_laws.proofs.Table.{stem_of, Known}
use Rattle.search_laws.proofs.Grown.{below_or_not, below_or_last, still_at, was_at, grown_all, grown_pairs, known_new}
use Rattle.search_laws.proofs.Invariant.{Invariant, group_in_table}
use Rattle.search_laws.proofs.Groups.{Marks, Marked, marked_grown, group_end_lem}
use Rattle.search_laws.proofs.GroupMember.{seen, member_done, add}
use Rattle.search_laws.proofs.GroupKind.{FailsNext, group_least, kind_done}
use Rattle.search_laws.proofs.NextGroup.{group_done, none_fails, reached_known}
use Rattle.search_laws.proofs.FirstFailure.{First}

-- Of two entries with the same lamps, the later has the higher start.
abbrev Rising : List Entry → Type 0
Rising E = (i j : ℕ) → i < j → j < length E → path E i ≡ path E j → start E i < start E j

-- The group from a to b is tried with the kind k next: the entries before it were tried with all kinds, and it with the lower ones.
pub record At (g : Graph) (E : List Entry) (a b k : ℕ) : Type 0 where
  pub inv : Invariant g E a b k a (length E)
  pub rising : Rising E
  pub marked : Marked E

-- The group from a to b is being tried with the kind k: its entries before m were tried and do not fail, and the entries from n on were
-- found by them.
pub record Sweep (g : Graph) (E : List Entry) (a b k m n : ℕ) : Type 0 where
  pub inv : Invariant g E a b k m n
  pub rising : Rising E
  pub marked : Marked E
  pub lamps_good : (i f : ℕ) → a ≤ i → i < m → ¬ (g.Bad (node E i) k f)
  -- The entries that were found have lower starts than the entries that are left.
  pub ahead : (i j : ℕ) → n ≤ i → i < length E → m ≤ j → j < b → start E i < start E j

-- No entry of the group is tried yet.
pub sweep_begins : {g : Graph} {E : List Entry} {a b k : ℕ} → At g E a b k → Sweep g E a b k a (length E)
sweep_begins at =
    record {
      inv = at.inv;
      rising = at.rising;
      marked = at.marked;
      lamps_good = λ i f x l. absurd (omega arith);
      ahead = λ i j x l. absurd (omega arith);
    }

module _ {g : Graph} {E : List Entry} {a b k m n : ℕ} (sweep : Sweep g E a b k m n) where
  -- Within the group, a later entry has a higher start.
  group_rises : (i j : ℕ) → a ≤ i → i < j → j < b → start E i < start E j
  group_rises i j x l y =
      sweep.rising i j l (group_in_table sweep.inv j y)
      (sweep.inv.one_line i x (omega arith) ∙ sym (sweep.inv.one_line j (omega arith) y))

  -- The first failure of the entries from m on is the least of all failures.
  pub sweep_least :
      {w e f : ℕ} → Kind g.kinds k → First (FailsNext g E k) m b w e f → Least g (path E w ▸ k) e (start E w) f
  sweep_least {w} {e} {f} kind first =
      group_least sweep.inv sweep.lamps_good w e f kind first.low first.high first.fails least
    where
      from_a : (i : ℕ) → m ≤ i → a ≤ i
      from_a i x = omega (arith, sweep.inv.a≤m)

      least :
          (i e' f' : ℕ) → m ≤ i → i < b → FailsNext g E k i e' f' → key (path E w ▸ k) e (start E w) f ≼ key (path E i ▸ k) e' (start E i) f'
      least i e' f' x y h = by (first.first i e' f' x y h)
        where
          line : path E w ▸ k ≡ path E i ▸ k
          line =
              ap (λ (p : List ℕ). p ▸ k)
              (sweep.inv.one_line w (from_a w first.low) first.high ∙ sym (sweep.inv.one_line i (from_a i x) y))

          by :
              (e < e') ⊎ ((e ≡ e') × ((w < i) ⊎ ((w ≡ i) × (f ≤ f')))) →
              key (path E w ▸ k) e (start E w) f ≼ key (path E i ▸ k) e' (start E i) f'
          by (inl lower) = key_by_end (path E w ▸ k) (path E i ▸ k) e e' (start E w) (start E i) f f' line lower
          by (inr (same, inl before)) =
              key_by_start (path E w ▸ k) (path E i ▸ k) e e' (start E w) (start E i) f f' line same
              (group_rises w i (from_a w first.low) before y)
          by (inr (same, inr (here, no_higher))) =
              key_by_failure (path E w ▸ k) (path E i ▸ k) e e' (start E w) (start E i) f f' line same (ap (start E) here) no_higher

  -- The entry m is tried, and does not fail at the lamp.
  module _ (here : m < b) (good : (f : ℕ) → ¬ (g.Bad (node E m) k f)) where
    quiet_up_to : (i f : ℕ) → a ≤ i → i < m + 1 → ¬ (g.Bad (node E i) k f)
    quiet_up_to i f x l h =
        ⊎_elim (λ u. sweep.lamps_good i f x u h) (λ (u : i ≡ m). good f (subst (λ (j : ℕ). g.Bad (node E j) k f) u h))
        (below_or_last i m l)

    -- Every node to which it leads is in the table: the next entry is tried.
    pub sweep_on : ((y : ℕ) → g.To (node E m) k y → (j : ℕ) × (j < length E) × (node E j ≡ y)) → Sweep g E a b k (m + 1) n
    sweep_on met =
        record {
          inv = member_done sweep.inv here (λ y t. let (j, l, e) = met y t in seen sweep.inv here j y l e);
          rising = sweep.rising;
          marked = sweep.marked;
          lamps_good = quiet_up_to;
          ahead = λ i j x l y. sweep.ahead i j x l (omega arith);
        }

    -- It leads to a new node, which fails at no end: the node is added, and the next entry is tried.
    pub sweep_adds :
        Plain g → Kind g.kinds k → (y : ℕ) → ((i : ℕ) → i < length E → node E i ≢ y) → g.To (node E m) k y →
        ((e f : ℕ) → e < g.end_count → ¬ (g.BadEnd y e f)) →
        Sweep g (grown E (onward E m k y (eqb (length E) n))) a b k (m + 1) n
    sweep_adds plain kind y new to ends =
        record {
          inv = member_done (add sweep.inv here kind y new to ends (eqb (length E) n)) here known;
          rising = grown_pairs E z (λ u v. u.path ≡ v.path → u.start < v.start) sweep.rising rises;
          marked = marked_grown E z sweep.marked marks;
          lamps_good = λ i f x l h.
              quiet_up_to i f x l (was_at E z i (group_in_table sweep.inv i (omega arith)) (λ v. g.Bad v.node k f) h);
          ahead = λ i j x l x' l'.
              still_at E z j (group_in_table sweep.inv j l') (λ v. start (grown E z) i < v.start)
              (grown_all E z (λ i v. n ≤ i → v.start < start E j)
              (λ i l x. sweep.ahead i j x l (omega arith) l') (λ x. group_rises m j sweep.inv.a≤m (omega arith) l') i l x);
        }
      where
        z : Entry
        z = onward E m k y (eqb (length E) n)

        in_table : m < length E
        in_table = group_in_table sweep.inv m here

        line : path E m ▸ k ≡ path E a ▸ k
        line = ap (λ (p : List ℕ). p ▸ k) (sweep.inv.one_line m sweep.inv.a≤m here)

        known : (y' : ℕ) → g.To (node (grown E z) m) k y' → Known (grown E z) y' (start (grown E z) m) (path (grown E z) m ▸ k)
        known y' t' =
            let same : y ≡ y' = plain.to_one (node E m) k y y' to (was_at E z m in_table (λ v. g.To v.node k y') t') in
            still_at E z m in_table (λ v. Known (grown E z) y' v.start (v.path ▸ k))
            (subst (λ (x : ℕ). Known (grown E z) x (start E m) (path E m ▸ k)) same (known_new E z))

        -- The entries before n have other lamps.
        old_other : (i : ℕ) → i < n → path E m ▸ k ≢ path E i
        old_other i l same =
            ≺_irrefl (stem_of E i) (subst (λ (p : List ℕ). stem_of E i ≺ stem p) (sym line ∙ same) (sweep.inv.old_stems i l))

        rises : (i : ℕ) → i < length E → path E i ≡ path E m ▸ k → start E i < start E m
        rises i l same =
            ⊎_elim (λ u. absurd (old_other i u (sym same))) (λ u. sweep.ahead i m u l (omega arith) here) (below_or_not i n)

        marks : (i : ℕ) → i + 1 ≡ length E → Marks (entry_at E i) z
        marks i last =
            record {
              other_lamps = λ o. old_other i (omega (arith, eqb-true (length E) n o));
              same_lamps = λ o.
                  line ∙ sym (sweep.inv.new_lines i (omega (arith, eqb-false (length E) n o, sweep.inv.n≤length)) (omega arith));
            }

-- All entries of the group were tried with this kind: the next kind is tried.
pub sweep_done : {g : Graph} {E : List Entry} {a b k n : ℕ} → Sweep g E a b k b n → At g E a b (k + 1)
sweep_done sweep = record { inv = kind_done sweep.inv sweep.lamps_good; rising = sweep.rising; marked = sweep.marked }

-- The group was tried with all kinds.
module _ {g : Graph} {E : List Entry} {a b : ℕ} (at : At g E a b (g.kinds + 1)) where
  -- There is a next group: it is tried from the first kind on.
  pub next_group : b < length E → At g E b (group_end E b) 1
  next_group l =
      let group = group_end_lem E b at.marked l in
      record {
        inv = group_done at.inv (group_end E b) group.some group.within group.same group.other;
        rising = at.rising;
        marked = at.marked;
      }

  module _ (end : length E ≤ b) where
    -- There is no further group: no line fails.
    pub accepted : (s : ℕ) (l : List ℕ) (e f : ℕ) → ¬ (FailsFrom g s l e f)
    accepted = none_fails at.inv end

    -- There is no further group: every node that is reached is in the table.
    pub reached_in_table : {s x : ℕ} {p : List ℕ} → Reach g s p x → (j : ℕ) × (j < length E) × (node E j ≡ x)
    reached_in_table r = let k = reached_known at.inv end r in (k.place, k.there, k.same)
