-- Notions of lists that the definitions of 01 need: membership, no element twice, how many values have a property, the order by the
-- first difference, and lists one after the other.
use Rattle.std.specs.Prelude.{◌≡◌, ◌⊎◌, ◌↔◌, List, [], ◌∷◌, ◌++◌, ℕ, zero, suc, ◌<◌, length}

-- x is an element of the list.
infix 50 ◌∈◌
unfoldable pub ◌∈◌ : {A : Type 0} → A → List A → Type 0
x ∈ [] = ⊥
x ∈ (y ∷ l) = (x ≡ y) ⊎ (x ∈ l)

-- No element stands in the list twice.
unfoldable pub Distinct : {A : Type 0} → List A → Type 0
Distinct [] = Unit {0}
Distinct (x ∷ l) = ¬ (x ∈ l) × Distinct l

-- Exactly n values have the property P: they can be listed, each once and nothing else, and the list has length n.
pub record NumberOf {A : Type 0} (P : A → Type 0) (n : ℕ) : Type 0 where
  pub listed : List A
  pub exactly : (x : A) → P x ↔ (x ∈ listed)
  pub once : Distinct listed
  pub number : length listed ≡ n

-- The order of lists of numbers: at the first place where two lists differ, the earlier one has the lower number, or has ended.
infix 50 ◌≼◌
unfoldable pub ◌≼◌ : List ℕ → List ℕ → Type 0
[] ≼ m = Unit {0}
(a ∷ l) ≼ [] = ⊥
(a ∷ l) ≼ (b ∷ m) = (a < b) ⊎ ((a ≡ b) × (l ≼ m))

-- n lists of numbers, one after the other: block 0, block 1 and so on.
unfoldable pub blocks : ℕ → (ℕ → List ℕ) → List ℕ
blocks zero block = []
blocks (suc n) block = blocks n block ++ block n
