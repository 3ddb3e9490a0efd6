-- A product is at most the product of its factors' bounds. `omega` treats a product of two unknowns as one unknown; where the
-- bounds are numerals, this law gives it a number.
use Prim.Native.Nat.{ℕ, ◌*◌, ◌≤◌}
use native.Mathlib.Nat.{mul-le-mul}

pub product_le : (m n a b : ℕ) → a ≤ m → b ≤ n → a * b ≤ m * n
product_le m n a b a≤m b≤n = mul-le-mul a≤m b≤n
