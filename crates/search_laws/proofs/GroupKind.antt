-- A whole group, tried with one kind of lamp. If some of its entries fail on the line with this lamp, the least of their failures is the
-- least of all; if none does, the next kind is tried.
use mathlib.Core.Path.{◌≡◌, sym, ap, subst}
use mathlib.Core.Logic.{◌⊎◌, inl, inr, ⊎_elim}
use mathlib.Core.List.{List, [], ◌∷◌, ◌++◌}
use Prim.Native.Nat.{ℕ, ◌+◌, ◌≤◌, ◌<◌}
use native.Mathlib.Omega.{arith}
use lib.ListN.{length, length-append}
use Rattle.lamp_line.specs.Lists.{◌≼◌}
use Rattle.lamp_line.specs.Tables.{Kinds}
use Rattle.search_laws.specs.inner.Lists.{◌▸◌, ◌≺◌}
use Rattle.search_laws.proofs.Lex.{≼_trans, ≺_trans}
use Rattle.search_laws.proofs.Keys.{stem, key, line_key, stem_longer, stem_more_less, stem_kind_less, key_by_stem, key_length, key_more, key_end}
use Rattle.search_laws.specs.inner.Graph.{Graph, Kind, FailsAlong, FailsFrom}
use Rattle.search_laws.proofs.Graph.{Least, snoc_length, reach_fails}
use Rattle.search_laws.specs.inner.Entries.{Entry, node, start, path}
use Rattle.search_laws.proofs.Table.{key_of, stem_of, stem_on}
use Rattle.search_laws.proofs.Table.{Open, untried, lamp_fails, end_fails, on_early, fails_open}
use Rattle.search_laws.proofs.Grown.{below_or_not, below_or_last}
use Rattle.search_laws.proofs.Invariant.{IsTried, GroupTried, tried?, Invariant, group_in_table}

-- The entry i fails on its line with one more lamp, of the kind k, and the end e.
abbrev pub FailsNext : Graph → List Entry → ℕ → ℕ → ℕ → ℕ → Type 0
FailsNext g E k i e f = (e < g.end_count) × FailsAlong g (node E i) (k ∷ []) e f

-- The entries of the group before m were tried with this kind, and none of them failed at the lamp.
module _
    {g : Graph} {E : List Entry} {a b k m n : ℕ} (inv : Invariant g E a b k m n)
    (lamps : (i f : ℕ) → a ≤ i → i < m → ¬ (g.Bad (node E i) k f)) where
  -- An entry and a kind that were not tried have a later stem than the line that is tried, or they are next in the group and have this
  -- kind.
  untried_later : (i c : ℕ) → i < length E → ¬ (IsTried a b k m i c) → (stem_on E a k ≺ stem_on E i c) ⊎ ((m ≤ i) × (i < b) × (c ≡ k))
  untried_later i c l un = go (below_or_not i a) (below_or_not i b) (below_or_not c k)
    where
      same_line : i < b → a ≤ i → k < c → stem_on E a k ≺ stem_on E i c
      same_line y x z =
          subst (λ (p : List ℕ). stem_on E a k ≺ stem (p ▸ c)) (sym (inv.one_line i x y)) (stem_kind_less (path E a) k c z)

      this_kind : i < b → c ≡ k → (i < m) ⊎ (m ≤ i) → (m ≤ i) × (i < b) × (c ≡ k)
      this_kind y z (inl x) = absurd (un (inr (y, inr (z, x))))
      this_kind y z (inr x) = (x, y, z)

      go :
          (i < a) ⊎ (a ≤ i) → (i < b) ⊎ (b ≤ i) → (c < k) ⊎ (k ≤ c) →
          (stem_on E a k ≺ stem_on E i c) ⊎ ((m ≤ i) × (i < b) × (c ≡ k))
      go (inl x) y z = absurd (un (inl x))
      go (inr x) (inr y) z = inl (stem_more_less (path E a) (path E i) k c (inv.later_stems i y l))
      go (inr x) (inl y) (inl z) = absurd (un (inr (y, inl z)))
      go (inr x) (inl y) (inr z) =
          ⊎_elim (λ u. inl (same_line y x u)) (λ (u : k ≡ c). inr (this_kind y (sym u) (below_or_not i m)))
          (below_or_last k c (omega arith))

  -- The least of the failures of the others on the line with this lamp is the least of all failures.
  pub group_least :
      (w e f : ℕ) → Kind g.kinds k → m ≤ w → w < b → FailsNext g E k w e f →
      ((i e' f' : ℕ) → m ≤ i → i < b → FailsNext g E k i e' f' → key (path E w ▸ k) e (start E w) f ≼ key (path E i ▸ k) e' (start E i) f') →
      Least g (path E w ▸ k) e (start E w) f
  unfolding Kinds
  group_least w e f kind from to (ended, fails) least =
      record {
        fails = reach_fails g (inv.real w (group_in_table inv w to)) (kind.low, kind.high, tt) ended fails;
        least = of_all;
      }
    where
      this : path E w ▸ k ≡ path E a ▸ k
      this = ap (λ (p : List ℕ). p ▸ k) (inv.one_line w (omega (arith, inv.a≤m)) to)

      later : (l' : List ℕ) (e' s' f' : ℕ) → stem_on E a k ≺ stem l' → key (path E w ▸ k) e (start E w) f ≼ key l' e' s' f'
      later l' e' s' f' h =
          key_by_stem (path E w ▸ k) l' e e' (start E w) s' f f' (subst (λ (p : List ℕ). stem p ≺ stem l') (sym this) h)

      -- A line that goes on after this lamp is longer; one that ends there fails as the group's entry does.
      at_group :
          (i e' s' f' : ℕ) (p r : List ℕ) → e' < g.end_count → m ≤ i → i < b → FailsAlong g (node E i) (k ∷ r) e' f' →
          key_of E i ≼ line_key p s' → key (path E w ▸ k) e (start E w) f ≼ key (p ++ (k ∷ r)) e' s' f'
      at_group i e' s' f' p [] ended' x y d early =
          ≼_trans _ (key (path E i ▸ k) e' (start E i) f') _ (least i e' f' x y (ended', d))
          (key_end (start E i) s' e' f' (path E i ▸ k) (p ▸ k) (key_more (start E i) s' (path E i) p k early))
      at_group i e' s' f' p (c ∷ r) ended' x y d early =
          later (p ++ (k ∷ c ∷ r)) e' s' f'
          (stem_longer (path E a ▸ k) (p ++ (k ∷ c ∷ r))
          (omega (
            arith,
            snoc_length (path E a) k,
            length-append p (k ∷ c ∷ r),
            ap length (inv.one_line i (omega (arith, inv.a≤m)) y),
            key_length (path E i) p 0 0 (start E i) s' 0 0 early,
          )))

      of_all : (s' : ℕ) (l' : List ℕ) (e' f' : ℕ) → FailsFrom g s' l' e' f' → key (path E w ▸ k) e (start E w) f ≼ key l' e' s' f'
      of_all s' l' e' f' d = go (fails_open g E (IsTried a b k m) (tried? a b k m) inv.covers s' l' e' f' d)
        where
          go : Open g E (IsTried a b k m) s' l' e' f' → key (path E w ▸ k) e (start E w) f ≼ key l' e' s' f'
          go (untried i c p r li kc un rest early is) = at (untried_later i c li un)
            where
              at : (stem_on E a k ≺ stem_on E i c) ⊎ ((m ≤ i) × (i < b) × (c ≡ k)) → key (path E w ▸ k) e (start E w) f ≼ key l' e' s' f'
              at (inl h) =
                  ≼_trans _ (key (path E i ▸ c) 0 (start E i) 0) _ (later (path E i ▸ c) 0 (start E i) 0 h)
                  (rw is (on_early E i c s' e' 0 f' p r (omega arith) early))
              at (inr (x, y, z)) = rw (is, z) (at_group i e' s' f' p r d.ended x y (rw z at rest) early)
          go (lamp_fails i c li kc done h le) = absurd (at done (below_or_not i a))
            where
              at : IsTried a b k m i c → (i < a) ⊎ (a ≤ i) → ⊥
              at u (inl x) = inv.lamps_good i c f' li kc (inl x) h
              at (inl y) (inr x) = omega arith
              at (inr (y, inl z)) (inr x) = inv.lamps_good i c f' li kc (inr (y, z)) h
              at (inr (y, inr (z, u))) (inr x) = lamps i f' x u (rw z at h)
          go (end_fails i li h le) = absurd (inv.ends_good i e' f' li d.ended h)

-- All entries of the group were tried with this kind, and none failed at the lamp: the next kind is tried.
module _ {g : Graph} {E : List Entry} {a b k n : ℕ} (inv : Invariant g E a b k b n) where
  pub kind_done : ((i f : ℕ) → a ≤ i → i < b → ¬ (g.Bad (node E i) k f)) → Invariant g E a b (k + 1) a (length E)
  kind_done good =
      record {
        covers = record { roots = inv.covers.roots; on = λ i c y l kc d. inv.covers.on i c y l kc (tried_up i c d) };
        lamps_good = lamps_good;
        ends_good = inv.ends_good;
        real = inv.real;
        sorted = inv.sorted;
        one_line = inv.one_line;
        later_stems = inv.later_stems;
        old_stems = λ i l. old_stems i l (below_or_not i n);
        new_lines = λ i x l. absurd (omega arith);
        new_early = λ i j x l. absurd (omega arith);
        distinct = inv.distinct;
        a<b = inv.a<b;
        a≤m = omega arith;
        b≤n = omega (arith, inv.b≤n, inv.n≤length);
        n≤length = omega arith;
      }
    where
      tried_up : (i c : ℕ) → IsTried a b (k + 1) a i c → IsTried a b k b i c
      tried_up i c (inl x) = inl x
      tried_up i c (inr (x, inl y)) =
          ⊎_elim (λ w. inr (x, inl w)) (λ (w : c ≡ k). inr (x, inr (w, x))) (below_or_last c k y)
      tried_up i c (inr (x, inr (y, z))) = inl z

      next_kind : stem_on E a k ≺ stem_on E a (k + 1)
      next_kind = stem_kind_less (path E a) k (k + 1) (omega arith)

      old_stems : (i : ℕ) → i < length E → (i < n) ⊎ (n ≤ i) → stem_of E i ≺ stem_on E a (k + 1)
      old_stems i l (inl x) = ≺_trans _ _ _ (inv.old_stems i x) next_kind
      old_stems i l (inr x) = subst (λ (p : List ℕ). stem p ≺ stem_on E a (k + 1)) (sym (inv.new_lines i x l)) next_kind

      lamps_good : (i c f : ℕ) → i < length E → Kind g.kinds c → GroupTried a b (k + 1) i c → ¬ (g.Bad (node E i) c f)
      lamps_good i c f l kc (inl x) h = inv.lamps_good i c f l kc (inl x) h
      lamps_good i c f l kc (inr (x, y)) h = go (below_or_not i a) (below_or_last c k y)
        where
          go : (i < a) ⊎ (a ≤ i) → (c < k) ⊎ (c ≡ k) → ⊥
          go (inl u) v = inv.lamps_good i c f l kc (inl u) h
          go (inr u) (inl v) = inv.lamps_good i c f l kc (inr (x, v)) h
          go (inr u) (inr v) = good i f u x (subst (λ (c : ℕ). g.Bad (node E i) c f) v h)
