-- Lists of numbers, for the table of the search and its order: a list with one more number at its end, and the strict order by the
-- first difference.
use Rattle.std.specs.Prelude.{◌≡◌, ◌⊎◌, List, [], ◌∷◌, ◌++◌, ℕ, ◌<◌}

-- The list with one more number at its end.
infixl 60 ◌▸◌
abbrev pub ◌▸◌ : List ℕ → ℕ → List ℕ
p ▸ c = p ++ (c ∷ [])

-- The lists differ at a place that both have, and at the first such place the first list has the lower number.
infix 50 ◌≺◌
unfoldable pub ◌≺◌ : List ℕ → List ℕ → Type 0
[] ≺ m = ⊥
(a ∷ l) ≺ [] = ⊥
(a ∷ l) ≺ (b ∷ m) = (a < b) ⊎ ((a ≡ b) × (l ≺ m))
