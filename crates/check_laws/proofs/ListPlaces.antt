-- The elements of a list by their places.
use mathlib.Core.Path.{◌≡◌, refl}
use mathlib.Core.Logic.{◌≢◌, inl, inr}
use mathlib.Core.List.{List, [], ◌∷◌, map}
use Prim.Native.Nat.{ℕ, zero, suc, ◌<◌}
use native.Mathlib.Omega.{arith}
use lib.ListN.{length, get_or}
use Rattle.lamp_line.specs.Lists.{◌∈◌, Distinct}

module _ {A B : Type 0} (f : A → B) (d : A) where
  -- What stands at a place of a list is among its elements.
  pub at_place_in : (l : List A) (i : ℕ) → i < length l → f (get_or l i d) ∈ map f l
  unfolding ◌∈◌
  at_place_in [] i h = absurd (omega arith)
  at_place_in (x ∷ l) zero h = inl refl
  at_place_in (x ∷ l) (suc i) h = inr (at_place_in l i (omega arith))

  -- Each element stands at some place.
  pub in_at_place : (l : List A) (y : B) → y ∈ map f l → (i : ℕ) × (i < length l) × (y ≡ f (get_or l i d))
  unfolding ◌∈◌
  in_at_place [] y m = absurd m
  in_at_place (x ∷ l) y (inl e) = (0, omega arith, e)
  in_at_place (x ∷ l) y (inr m) = let (i, h, e) = in_at_place l y m in (suc i, omega arith, e)

  -- If no two places have the same element, the list has no repetitions.
  pub distinct_by_places :
      (l : List A) → ((i j : ℕ) → i < j → j < length l → f (get_or l i d) ≢ f (get_or l j d)) → Distinct (map f l)
  unfolding Distinct
  distinct_by_places [] h = tt
  distinct_by_places (x ∷ l) h = (
    λ m. let (i, k, e) = in_at_place l (f x) m in h 0 (suc i) (omega arith) (omega arith) e,
    distinct_by_places l (λ i j u v. h (suc i) (suc j) (omega arith) (omega arith)),
  )
