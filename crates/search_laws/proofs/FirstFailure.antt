-- The first failure of a line among its members, as they are tried one after the other: the one with the lowest end, and of those with
-- the same end the first member's.
use mathlib.Core.Path.{◌≡◌, sym}
use mathlib.Core.Logic.{◌⊎◌, inl, inr, ⊎_elim}
use Prim.Native.Nat.{ℕ, ◌+◌, ◌≤◌, ◌<◌}
use native.Mathlib.Omega.{arith}
use Rattle.search_laws.proofs.Grown.{below_or_last}

-- `P i e f` says that the member i fails with the end e and the failure f. The failure f at the end e is the lowest of this member: it
-- has no lower one at this end, and none at a lower end.
pub record Lowest (P : ℕ → ℕ → ℕ → Type 0) (i e f : ℕ) : Type 0 where
  pub fails : P i e f
  pub lowest : (e' f' : ℕ) → P i e' f' → (e < e') ⊎ ((e ≡ e') × (f ≤ f'))

-- Of the failures of the members from `from` to `to`, the failure f of the member w at the end e is the first.
pub record First (P : ℕ → ℕ → ℕ → Type 0) (from to w e f : ℕ) : Type 0 where
  pub low : from ≤ w
  pub high : w < to
  pub fails : P w e f
  pub first : (i e' f' : ℕ) → from ≤ i → i < to → P i e' f' → (e < e') ⊎ ((e ≡ e') × ((w < i) ⊎ ((w ≡ i) × (f ≤ f'))))

module _ {P : ℕ → ℕ → ℕ → Type 0} where
  -- One member alone.
  pub first_alone : {w e f : ℕ} → Lowest P w e f → First P w (w + 1) w e f
  first_alone {w} {e} {f} own =
      record { low = omega arith; high = omega arith; fails = own.fails; first = first }
    where
      first : (i e' f' : ℕ) → w ≤ i → i < w + 1 → P i e' f' → (e < e') ⊎ ((e ≡ e') × ((w < i) ⊎ ((w ≡ i) × (f ≤ f'))))
      first i e' f' low high h =
          let same : i ≡ w = omega arith in
          ⊎_elim (λ u. inl u) (λ (u, v). inr (u, inr (sym same, v))) (own.lowest e' f' (rw same at h))

  module _ {from to w e f : ℕ} (so_far : First P from to w e f) where
    -- The next member does not fail: the first failure stays.
    pub first_stays : ((e' f' : ℕ) → ¬ (P to e' f')) → First P from (to + 1) w e f
    first_stays none =
        record {
          low = so_far.low;
          high = omega (arith, so_far.high);
          fails = so_far.fails;
          first = λ i e' f' low high h.
              ⊎_elim (λ u. so_far.first i e' f' low u h) (λ (u : i ≡ to). absurd (none e' f' (rw u at h))) (below_or_last i to high);
        }

    module _ {e' f' : ℕ} (own : Lowest P to e' f') where
      -- The next member fails, but at no lower end: the first failure stays.
      pub first_kept : e ≤ e' → First P from (to + 1) w e f
      first_kept no_lower =
          record {
            low = so_far.low;
            high = omega (arith, so_far.high);
            fails = so_far.fails;
            first = λ i e'' f'' low high h.
                ⊎_elim (λ u. so_far.first i e'' f'' low u h) (λ (u : i ≡ to). last i e'' f'' u (rw u at h)) (below_or_last i to high);
          }
        where
          last : (i e'' f'' : ℕ) → i ≡ to → P to e'' f'' → (e < e'') ⊎ ((e ≡ e'') × ((w < i) ⊎ ((w ≡ i) × (f ≤ f''))))
          last i e'' f'' u h =
              ⊎_elim (λ v. inl (omega arith))
              (λ (v, x). ⊎_elim (λ y. inl (omega arith)) (λ y. inr (omega arith, inl (omega (arith, so_far.high)))) (below_or_last e e' (omega arith)))
              (own.lowest e'' f'' h)

      -- The next member fails at a lower end: this is the first failure now.
      pub first_lower : e' < e → First P from (to + 1) to e' f'
      first_lower lower =
          record {
            low = omega (arith, so_far.low, so_far.high);
            high = omega arith;
            fails = own.fails;
            first = λ i e'' f'' low high h.
                ⊎_elim (λ u. earlier i e'' f'' (so_far.first i e'' f'' low u h)) (λ (u : i ≡ to). last i e'' f'' u (rw u at h))
                (below_or_last i to high);
          }
        where
          earlier :
              (i e'' f'' : ℕ) → (e < e'') ⊎ ((e ≡ e'') × ((w < i) ⊎ ((w ≡ i) × (f ≤ f'')))) →
              (e' < e'') ⊎ ((e' ≡ e'') × ((to < i) ⊎ ((to ≡ i) × (f' ≤ f''))))
          earlier i e'' f'' (inl u) = inl (omega arith)
          earlier i e'' f'' (inr (u, v)) = inl (omega arith)

          last : (i e'' f'' : ℕ) → i ≡ to → P to e'' f'' → (e' < e'') ⊎ ((e' ≡ e'') × ((to < i) ⊎ ((to ≡ i) × (f' ≤ f''))))
          last i e'' f'' u h = ⊎_elim (λ v. inl v) (λ (v, x). inr (v, inr (sym u, x))) (own.lowest e'' f'' h)
