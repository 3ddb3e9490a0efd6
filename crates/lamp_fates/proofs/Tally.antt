-- Counts the numbers of a list that have a property. A loop ends if each turn takes the property from one of them.
use mathlib.Core.Path.{◌≡◌}
use mathlib.Core.Bool.{Bool, true, false, cond}
use mathlib.Core.List.{List, [], ◌∷◌}
use Prim.Native.Nat.{ℕ, zero, suc, ◌+◌, ◌<◌}
use native.Mathlib.Omega.{arith}
use lib.ListN.{length, get_or, set}

-- How many numbers of the list have the property.
unfoldable pub tally : (ℕ → Bool) → List ℕ → ℕ
tally has [] = 0
tally has (x ∷ l) = cond (has x) 1 0 + tally has l

-- If a number that has the property is replaced by one that does not, the count falls.
pub tally_falls :
    (has : ℕ → Bool) (l : List ℕ) (i v : ℕ) → i < length l → has (get_or l i 0) ≡ true → has v ≡ false →
    tally has (set l i v) < tally has l
unfolding tally
tally_falls has [] i v i< old new = absurd (omega arith)
tally_falls has (x ∷ l) zero v i< old new = rw (old, new) (omega arith)
tally_falls has (x ∷ l) (suc i) v i< old new = omega (arith, tally_falls has l i v (omega arith) old new)
