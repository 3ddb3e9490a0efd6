-- A test of two lists side by side, as code makes it with `zip` and `any`.
use Rattle.std.proofs.Common.{Bool, List, [], ◌∷◌, ℕ, ◌≡◌, refl}
use Rattle.std.specs.List.{zip, list_any}
use Rattle.fluent_rules.specs.CellRules.{some_pair}

pub any_pair : (p : ℕ → ℕ → Bool) (xs ys : List ℕ) → list_any (λ pair. p pair.0 pair.1) (zip xs ys) ≡ some_pair p xs ys
unfolding some_pair
any_pair p [] ys = refl
any_pair p (x ∷ xs) [] = refl
any_pair p (x ∷ xs) (y ∷ ys) = rw (any_pair p xs ys)
