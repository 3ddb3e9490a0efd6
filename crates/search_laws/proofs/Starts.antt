-- The beginning of the search: the starts are tried in order with the empty line, and each that does not fail is taken into the table
-- with its node. The first failure among them is the least of all; if none fails, they are the first group.
use mathlib.Core.Path.{◌≡◌, refl, sym, ap, subst}
use mathlib.Core.Logic.{◌≢◌, ◌⊎◌, inl, inr, ⊎_elim}
use mathlib.Core.Bool.{Bool, false}
use mathlib.Core.List.{List, [], ◌∷◌}
use Prim.Native.Nat.{ℕ, ◌+◌, ◌≤◌, ◌<◌}
use native.Mathlib.Omega.{arith}
use lib.ListN.{length, length-append}
use Rattle.lamp_line.specs.Lists.{◌≼◌}
use Rattle.lamp_line.specs.Tables.{Kinds}
use Rattle.search_laws.specs.inner.Lists.{◌▸◌}
use Rattle.search_laws.proofs.Keys.{key, stem_longer, key_by_stem, key_by_end, key_by_start, key_by_failure}
use Rattle.search_laws.specs.inner.Graph.{Graph, Kind, FailsAlong, bad_end, Reach, from_start, FailsFrom, OwnStarts}
use Rattle.search_laws.proofs.Graph.{Least}
use Rattle.search_laws.specs.inner.Entries.{Entry, entry, node, start, path, opens, grown, group_end}
use Rattle.search_laws.proofs.Table.{key_of, Known}
use Rattle.search_laws.proofs.Grown.{below_or_not, below_or_last, grown_all, grown_pairs, known_grown, known_new}
use Rattle.search_laws.proofs.Groups.{Marked, Group, group_end_lem}
use Rattle.search_laws.proofs.Invariant.{IsTried, GroupTried}
use Rattle.search_laws.proofs.NextGroup.{stems_after_later}
use Rattle.search_laws.proofs.FirstFailure.{First}
use Rattle.search_laws.proofs.Turns.{At}

-- The starts below q are taken, and none of them fails on the empty line.
pub record StartsTaken (g : Graph) (E : List Entry) (q : ℕ) : Type 0 where
  -- Their nodes are in the table, with the empty line, and none but the first may open a group.
  pub roots : (s x : ℕ) → s < q → g.Start s x → Known E x s []
  pub empty : (i : ℕ) → i < length E → path E i ≡ []
  pub one_group : (i : ℕ) → i < length E → 0 < i → opens E i ≡ false
  -- The table holds only nodes of these starts, in the order of the starts.
  pub taken : (i : ℕ) → i < length E → start E i < q
  pub of_starts : (i : ℕ) → i < length E → g.Start (start E i) (node E i)
  pub sorted : (i j : ℕ) → i < j → j < length E → start E i < start E j
  -- No node is in the table twice.
  pub distinct : (i j : ℕ) → i < j → j < length E → node E i ≢ node E j
  -- No entry fails at an end.
  pub ends_good : (i e f : ℕ) → i < length E → e < g.end_count → ¬ (g.BadEnd (node E i) e f)

-- The start s fails on the empty line with the end e.
abbrev pub FailsEmpty : Graph → ℕ → ℕ → ℕ → Type 0
FailsEmpty g s e f = (e < g.end_count) × ((x : ℕ) × g.Start s x × g.BadEnd x e f)

-- Before the first start the table is empty.
pub none_taken : (g : Graph) → StartsTaken g [] 0
none_taken g =
    record {
      roots = λ s x l. absurd (omega arith);
      empty = λ i l. absurd (omega arith);
      one_group = λ i l. absurd (omega arith);
      taken = λ i l. absurd (omega arith);
      of_starts = λ i l. absurd (omega arith);
      sorted = λ i j l m. absurd (omega arith);
      distinct = λ i j l m. absurd (omega arith);
      ends_good = λ i e f l. absurd (omega arith);
    }

module _ {g : Graph} {E : List Entry} {q : ℕ} (b : StartsTaken g E q) where
  -- The number q has no node: it is skipped.
  pub skip_start : ((x : ℕ) → ¬ (g.Start q x)) → StartsTaken g E (q + 1)
  skip_start none =
      record {
        roots = λ s x l st.
            ⊎_elim (λ y. b.roots s x y st) (λ (y : s ≡ q). absurd (none x (subst (λ (z : ℕ). g.Start z x) y st)))
            (below_or_last s q l);
        empty = b.empty;
        one_group = b.one_group;
        taken = λ i l. omega (arith, b.taken i l);
        of_starts = b.of_starts;
        sorted = b.sorted;
        distinct = b.distinct;
        ends_good = b.ends_good;
      }

  -- The start q has a node, which no other start has.
  module _ (own : OwnStarts g) (x : ℕ) (st : g.Start q x) where
    -- The node is not in the table.
    pub start_new : (i : ℕ) → i < length E → node E i ≢ x
    start_new i l e =
        let same = own.start_own (start E i) q x (subst (λ (y : ℕ). g.Start (start E i) y) e (b.of_starts i l)) st in
        omega (arith, b.taken i l)

    -- It fails at no end: it is added.
    pub take_start :
        ((e f : ℕ) → e < g.end_count → ¬ (g.BadEnd x e f)) → (o : Bool) → (0 < length E → o ≡ false) →
        StartsTaken g (grown E (entry x q [] o)) (q + 1)
    take_start good o not_first =
        record {
          roots = λ s x' l st'. root s x' st' (below_or_last s q l);
          empty = grown_all E z (λ j v. v.path ≡ []) b.empty refl;
          one_group = grown_all E z (λ j v. 0 < j → v.opens ≡ false) b.one_group not_first;
          taken = grown_all E z (λ j v. v.start < q + 1) (λ j l. omega (arith, b.taken j l)) (omega arith);
          of_starts = grown_all E z (λ j v. g.Start v.start v.node) b.of_starts st;
          sorted = grown_pairs E z (λ u v. u.start < v.start) b.sorted b.taken;
          distinct = grown_pairs E z (λ u v. u.node ≢ v.node) b.distinct start_new;
          ends_good = λ i e f l.
              grown_all E z (λ j v. e < g.end_count → ¬ (g.BadEnd v.node e f)) (λ j l. b.ends_good j e f l) (good e f) i l;
        }
      where
        z : Entry
        z = entry x q [] o

        root : (s x' : ℕ) → g.Start s x' → (s < q) ⊎ (s ≡ q) → Known (grown E z) x' s []
        root s x' st' (inl y) = known_grown E z (b.roots s x' y st')
        root s x' st' (inr y) = rw (y, own.start_one q x' x (rw y at st') st) (known_new E z)

  -- The first failure of the starts that are not taken, on the empty line, is the least of all failures.
  pub empty_least :
      {to w e f : ℕ} → ((s x : ℕ) → g.Start s x → s < to) → First (FailsEmpty g) q to w e f → Least g [] e w f
  empty_least {to} {w} {e} {f} all first = record { fails = fails first.fails; least = of_all }
    where
      fails : FailsEmpty g w e f → FailsFrom g w [] e f
      fails (ended, (x, st, bad)) =
          record { first = x; start = st; of_kinds = unfold Kinds in tt; ended = ended; fails = bad_end bad }

      bad_of : {x e' f' : ℕ} → FailsAlong g x [] e' f' → g.BadEnd x e' f'
      bad_of (bad_end h) = h

      of_all : (s' : ℕ) (l' : List ℕ) (e' f' : ℕ) → FailsFrom g s' l' e' f' → key [] e w f ≼ key l' e' s' f'
      of_all s' [] e' f' d = go (below_or_not s' q)
        where
          by : (e < e') ⊎ ((e ≡ e') × ((w < s') ⊎ ((w ≡ s') × (f ≤ f')))) → key [] e w f ≼ key [] e' s' f'
          by (inl h) = key_by_end [] [] e e' w s' f f' refl h
          by (inr (h, inl u)) = key_by_start [] [] e e' w s' f f' refl h u
          by (inr (h, inr (u, v))) = key_by_failure [] [] e e' w s' f f' refl h u v

          go : (s' < q) ⊎ (q ≤ s') → key [] e w f ≼ key [] e' s' f'
          go (inl h) =
              let k = b.roots s' d.first h d.start in
              absurd (b.ends_good k.place e' f' k.there d.ended
              (subst (λ (z : ℕ). g.BadEnd z e' f') (sym k.same) (bad_of d.fails)))
          go (inr h) =
              by (first.first s' e' f' h (all s' d.first d.start) (d.ended, (d.first, d.start, bad_of d.fails)))
      of_all s' (c ∷ l') e' f' d = key_by_stem [] (c ∷ l') e e' w s' f f' (stem_longer [] (c ∷ l') (omega arith))

  -- All starts are taken, and there is at least one: their group is tried next, from the first kind on.
  pub starts_done : 0 < length E → ((s x : ℕ) → g.Start s x → s < q) → At g E 0 (group_end E 0) 1
  starts_done pos all =
      record {
        inv = record {
          covers = record { roots = λ s x st. b.roots s x (all s x st) st; on = λ i c y l kc d. absurd (none_tried i c kc d) };
          lamps_good = λ i c f l kc d. absurd (no_group i c kc d);
          ends_good = b.ends_good;
          real = λ i l.
              subst (λ (p : List ℕ). Reach g (start E i) p (node E i)) (sym (b.empty i l)) (from_start (b.of_starts i l));
          sorted = in_order;
          one_line = group.same;
          later_stems = stems_after_later E 0 (group_end E 0) in_order group.some group.other;
          old_stems = λ i l.
              stem_longer (path E i) (path E 0 ▸ 1) (omega (arith, ap length (b.empty i l), length-append (path E 0) (1 ∷ [])));
          new_lines = λ i x l. absurd (omega arith);
          new_early = λ i j x l. absurd (omega arith);
          distinct = b.distinct;
          a<b = group.some;
          a≤m = omega arith;
          b≤n = group.within;
          n≤length = omega arith;
        };
        rising = λ i j l lj same. b.sorted i j l lj;
        marked = marked;
      }
    where
      both_empty : (i j : ℕ) → i < length E → j < length E → path E i ≡ path E j
      both_empty i j li lj = rw (b.empty i li, b.empty j lj)

      marked : Marked E
      marked i l =
          record {
            other_lamps = λ o.
                let closed = b.one_group (i + 1) l (omega arith) in let z : ◌≡◌ {A = ℕ} 0 1 = cc in absurd (omega arith);
            same_lamps = λ o. both_empty (i + 1) i l (omega arith);
          }

      group : Group E 0 (group_end E 0)
      group = group_end_lem E 0 marked pos

      none_tried : (i c : ℕ) → Kind g.kinds c → ¬ (IsTried 0 (group_end E 0) 1 0 i c)
      none_tried i c kc (inl x) = omega arith
      none_tried i c kc (inr (x, inl y)) = omega (arith, kc.low)
      none_tried i c kc (inr (x, inr (y, z))) = omega arith

      no_group : (i c : ℕ) → Kind g.kinds c → ¬ (GroupTried 0 (group_end E 0) 1 i c)
      no_group i c kc (inl x) = omega arith
      no_group i c kc (inr (x, y)) = omega (arith, kc.low)

      in_order : (i j : ℕ) → i < j → j < length E → key_of E i ≼ key_of E j
      in_order i j l lj =
          key_by_start (path E i) (path E j) 0 0 (start E i) (start E j) 0 0 (both_empty i j (omega arith) lj) refl (b.sorted i j l lj)
