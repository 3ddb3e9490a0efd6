-- Laws of the test whether a pair is in the table: what its answer says, and its answer for a table with one more entry.
use mathlib.Core.Path.{◌≡◌, refl, sym}
use mathlib.Core.Logic.{◌≢◌}
use mathlib.Core.Bool.{Bool, true, false, ◌||◌, or-true, or-false, or_assoc}
use mathlib.Core.List.{List, [], ◌∷◌}
use Prim.Native.Nat.{ℕ, zero, suc, ◌<◌}
use native.Mathlib.Omega.{arith}
use borrow.Author.Tests.{eqb-true, eqb-false, eq-eqb, ne_eqb}
use lib.Dec.{eqb}
use lib.ListN.{length}
use Rattle.search_laws.specs.inner.Entries.{Entry, node, grown}
use Rattle.check_laws.specs.inner.Search.{met}

-- If the test answers true, the pair stands at some place of the table.
pub met_true : (E : List Entry) (y : ℕ) → met E y ≡ true → (j : ℕ) × (j < length E) × (node E j ≡ y)
unfolding met
met_true [] y e = absurd (let z : ◌≡◌ {A = ℕ} 0 1 = cc in omega arith)
met_true (v ∷ E) y e = go (met_true E y) (eqb v.node y) refl e
  where
    go :
        (met E y ≡ true → (j : ℕ) × (j < length E) × (node E j ≡ y)) → (b : Bool) → eqb v.node y ≡ b → (b || met E y) ≡ true →
        (j : ℕ) × (j < suc (length E)) × (node (v ∷ E) j ≡ y)
    go after true f e = (0, omega arith, eqb-true v.node y f)
    go after false f e = let (j, l, g) = after e in (suc j, omega arith, g)

-- If it answers false, the pair stands at no place.
pub met_false : (E : List Entry) (y : ℕ) → met E y ≡ false → (i : ℕ) → i < length E → node E i ≢ y
unfolding met
met_false [] y e i l = absurd (omega arith)
met_false (v ∷ E) y e i l = go (met_false E y) (eqb v.node y) refl e i l
  where
    go :
        (met E y ≡ false → (i : ℕ) → i < length E → node E i ≢ y) → (b : Bool) → eqb v.node y ≡ b → (b || met E y) ≡ false →
        (i : ℕ) → i < suc (length E) → node (v ∷ E) i ≢ y
    go after true f e i l = absurd (let z : ◌≡◌ {A = ℕ} 0 1 = cc in omega arith)
    go after false f e zero l = eqb-false v.node y f
    go after false f e (suc i) l = after e i (omega arith)

-- The empty table has no pair.
pub met_none : (y : ℕ) → met [] y ≡ false
unfolding met
met_none y = refl

-- ---- one more entry

-- A pair is in the new table if it was in the old one, or is the new pair.
pub met_grown : (E : List Entry) (z : Entry) (y : ℕ) → met (grown E z) y ≡ (met E y || eqb z.node y)
unfolding met
met_grown [] z y = or-false (eqb z.node y)
met_grown (v ∷ E) z y = rw (met_grown E z y) (sym (or_assoc (eqb v.node y) (met E y) (eqb z.node y)))

module _ (E : List Entry) (z : Entry) (y : ℕ) where
  -- The new pair is in it.
  pub met_new : y ≡ z.node → met (grown E z) y ≡ true
  met_new e = rw (met_grown E z y, eq-eqb z.node y (sym e)) (or-true (met E y))

  -- Any other pair is in it exactly when it was in the old one.
  pub met_other : y ≢ z.node → met (grown E z) y ≡ met E y
  met_other d = rw (met_grown E z y, ne_eqb z.node y (λ e. d (sym e))) (or-false (met E y))
