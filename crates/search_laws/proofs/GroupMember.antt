-- One entry of a group, tried with one kind of lamp: each node to which it leads is already in the table, or is added.
use mathlib.Core.Path.{◌≡◌, sym, ap, subst}
use mathlib.Core.Logic.{◌≢◌, ◌⊎◌, inl, inr, ⊎_elim}
use mathlib.Core.Bool.{Bool}
use mathlib.Core.List.{List, [], ◌∷◌}
use Prim.Native.Nat.{ℕ, ◌+◌, ◌≤◌, ◌<◌}
use native.Mathlib.Omega.{arith}
use lib.ListN.{length, length-append}
use Rattle.lamp_line.specs.Lists.{◌≼◌}
use Rattle.search_laws.specs.inner.Lists.{◌▸◌, ◌≺◌}
use Rattle.search_laws.proofs.Lex.{≼_refl}
use Rattle.search_laws.proofs.Keys.{stem, line_key, stem_longer, key_by_stem, key_more}
use Rattle.search_laws.specs.inner.Graph.{Graph, Kind, Reach, past_lamp}
use Rattle.search_laws.specs.inner.Entries.{Entry, entry_at, node, start, path, grown, onward}
use Rattle.search_laws.proofs.Table.{entry_key, entry_stem, key_of, stem_of, key_on, stem_on, Known}
use Rattle.search_laws.proofs.Grown.{below_or_not, below_or_last, grown_length, still_at, was_at, grown_all, grown_pairs, known_grown}
use Rattle.search_laws.proofs.Invariant.{IsTried, GroupTried, Invariant, group_in_table}

tried_more : (a b k m i c : ℕ) → IsTried a b k (m + 1) i c → IsTried a b k m i c ⊎ ((i ≡ m) × (c ≡ k))
tried_more a b k m i c (inl x) = inl (inl x)
tried_more a b k m i c (inr (x, inl y)) = inl (inr (x, inl y))
tried_more a b k m i c (inr (x, inr (y, z))) = ⊎_elim (λ w. inl (inr (x, inr (y, w)))) (λ w. inr (w, y)) (below_or_last i m z)

module _ {g : Graph} {E : List Entry} {a b k m n : ℕ} (inv : Invariant g E a b k m n) (here : m < b) where
  -- The line that is tried, read off this entry.
  line_tried_lem : path E m ▸ k ≡ path E a ▸ k
  line_tried_lem = ap (λ (p : List ℕ). p ▸ k) (inv.one_line m inv.a≤m here)

  -- Every entry comes no later than the line that is tried.
  all_early : (j : ℕ) → j < length E → key_of E j ≼ key_on E m k
  all_early j l = go (below_or_not j n)
    where
      go : (j < n) ⊎ (n ≤ j) → key_of E j ≼ key_on E m k
      go (inl h) =
          key_by_stem (path E j) (path E m ▸ k) 0 0 (start E j) (start E m) 0 0
          (subst (λ (z : List ℕ). stem_of E j ≺ stem z) (sym line_tried_lem) (inv.old_stems j h))
      go (inr h) = inv.new_early j m h l (omega arith) here

  -- A node of the table was found early enough to be known for this line.
  pub seen : (j y : ℕ) → j < length E → node E j ≡ y → Known E y (start E m) (path E m ▸ k)
  seen j y l e = record { place = j; there = l; same = e; early = all_early j l }

  -- All nodes to which this entry leads are known: the next entry of the group is tried.
  pub member_done :
      ((y : ℕ) → g.To (node E m) k y → Known E y (start E m) (path E m ▸ k)) → Invariant g E a b k (m + 1) n
  member_done to =
      record {
        covers = record { roots = inv.covers.roots; on = on };
        lamps_good = inv.lamps_good;
        ends_good = inv.ends_good;
        real = inv.real;
        sorted = inv.sorted;
        one_line = inv.one_line;
        later_stems = inv.later_stems;
        old_stems = inv.old_stems;
        new_lines = inv.new_lines;
        new_early = λ i j x l y. inv.new_early i j x l (omega arith);
        distinct = inv.distinct;
        a<b = inv.a<b;
        a≤m = omega (arith, inv.a≤m);
        b≤n = inv.b≤n;
        n≤length = inv.n≤length;
      }
    where
      on :
          (i c y : ℕ) → i < length E → Kind g.kinds c → IsTried a b k (m + 1) i c → g.To (node E i) c y →
          Known E y (start E i) (path E i ▸ c)
      on i c y l kind d t = go (tried_more a b k m i c d)
        where
          go : IsTried a b k m i c ⊎ ((i ≡ m) × (c ≡ k)) → Known E y (start E i) (path E i ▸ c)
          go (inl u) = inv.covers.on i c y l kind u t
          go (inr (u, v)) = rw (u, v) (to y (rw (u, v) at t))

  -- ---- a new node

  -- The entry leads to the node y, which is not in the table and fails at no end.
  module _
      (kind : Kind g.kinds k) (y : ℕ) (new : (i : ℕ) → i < length E → node E i ≢ y) (to : g.To (node E m) k y)
      (good : (e f : ℕ) → e < g.end_count → ¬ (g.BadEnd y e f)) (o : Bool) where
    z : Entry
    z = onward E m k y o

    still : (i : ℕ) → i < length E → (P : Entry → Type 0) → P (entry_at E i) → P (entry_at (grown E z) i)
    still = still_at E z

    was : (i : ℕ) → i < length E → (P : Entry → Type 0) → P (entry_at (grown E z) i) → P (entry_at E i)
    was = was_at E z

    tried_old : (i c : ℕ) → IsTried a b k m i c → i < length E
    tried_old i c (inl x) = group_in_table inv i (omega (arith, inv.a<b))
    tried_old i c (inr (x, y)) = group_in_table inv i x

    group_old : (i c : ℕ) → GroupTried a b k i c → i < length E
    group_old i c (inl x) = group_in_table inv i (omega (arith, inv.a<b))
    group_old i c (inr (x, y)) = group_in_table inv i x

    first_old : a < length E
    first_old = group_in_table inv a inv.a<b

    -- The node is added.
    pub add : Invariant g (grown E (onward E m k y o)) a b k m n
    unfolding z
    add =
        record {
          covers = record {
            roots = λ s x st. known_grown E z (inv.covers.roots s x st);
            on = λ i c y' l kc d t'.
                still i (tried_old i c d) (λ v. Known (grown E z) y' v.start (v.path ▸ c))
                (known_grown E z
                (inv.covers.on i c y' (tried_old i c d) kc d (was i (tried_old i c d) (λ v. g.To v.node c y') t')));
          };
          lamps_good = λ i c f l kc d x.
              inv.lamps_good i c f (group_old i c d) kc d (was i (group_old i c d) (λ v. g.Bad v.node c f) x);
          ends_good = λ i e f l.
              grown_all E z (λ j v. e < g.end_count → ¬ (g.BadEnd v.node e f)) (λ j l. inv.ends_good j e f l) (good e f) i l;
          real =
              grown_all E z (λ j v. Reach g v.start v.path v.node) inv.real
              (past_lamp (inv.real m (group_in_table inv m here)) kind to);
          sorted = grown_pairs E z (λ u v. entry_key u ≼ entry_key v) inv.sorted all_early;
          one_line = λ i x l.
              still i (group_in_table inv i l) (λ v. v.path ≡ path (grown E z) a)
              (still a first_old (λ v. path E i ≡ v.path) (inv.one_line i x l));
          later_stems = λ i x l.
              still a first_old (λ v. entry_stem v ≺ stem_of (grown E z) i)
              (grown_all E z (λ i v. b ≤ i → stem_of E a ≺ entry_stem v) (λ i l x. inv.later_stems i x l) (λ x. longer) i l x);
          old_stems = λ i l.
              still a first_old (λ v. stem_of (grown E z) i ≺ stem (v.path ▸ k))
              (still i (omega (arith, inv.n≤length)) (λ v. entry_stem v ≺ stem_on E a k) (inv.old_stems i l));
          new_lines = λ i x l.
              still a first_old (λ v. path (grown E z) i ≡ v.path ▸ k)
              (grown_all E z (λ i v. n ≤ i → v.path ≡ path E a ▸ k) (λ i l x. inv.new_lines i x l) (λ x. line_tried_lem) i l x);
          new_early = λ i j x l x' l'.
              still j (group_in_table inv j l') (λ v. key_of (grown E z) i ≼ line_key (v.path ▸ k) v.start)
              (grown_all E z (λ i v. n ≤ i → entry_key v ≼ key_on E j k)
              (λ i l x. inv.new_early i j x l x' l') (λ x. no_later j x' l') i l x);
          distinct = grown_pairs E z (λ u v. u.node ≢ v.node) inv.distinct new;
          a<b = inv.a<b;
          a≤m = inv.a≤m;
          b≤n = inv.b≤n;
          n≤length = omega (arith, inv.n≤length, grown_length E z);
        }
      where
        longer : stem_of E a ≺ stem_on E m k
        longer =
            subst (λ (p : List ℕ). stem p ≺ stem_on E m k) (inv.one_line m inv.a≤m here)
            (stem_longer (path E m) (path E m ▸ k) (omega (arith, length-append (path E m) (k ∷ []))))

        at_or_after : (j : ℕ) → (m < j) ⊎ (m ≡ j) → j < length E → key_of E m ≼ key_of E j
        at_or_after j (inl u) l = inv.sorted m j u l
        at_or_after j (inr u) l = subst (λ (i : ℕ). key_of E m ≼ key_of E i) u (≼_refl (key_of E m))

        no_later : (j : ℕ) → m ≤ j → j < b → key_on E m k ≼ key_on E j k
        no_later j x l =
            key_more (start E m) (start E j) (path E m) (path E j) k
            (at_or_after j (below_or_last m j (omega arith)) (group_in_table inv j l))
