-- The members of a list that is empty, or that has one element.
use mathlib.Core.Path.{◌≡◌, ap}
use mathlib.Core.Logic.{inl, inr}
use mathlib.Core.List.{List, [], ◌∷◌}
use native.Mathlib.Omega.{arith}
use lib.ListN.{length}
use Rattle.lamp_line.specs.Lists.{◌∈◌}

-- Nothing is in an empty list.
pub none_in_empty : {A : Type 0} (x : A) (l : List A) → l ≡ [] → ¬ (x ∈ l)
unfolding ◌∈◌
none_in_empty x [] h m = m
none_in_empty x (y ∷ l) h m = omega (arith, ap length h)

-- What is in a list of one element is that element.
pub only_member : {A : Type 0} (x y : A) → x ∈ (y ∷ []) → x ≡ y
unfolding ◌∈◌
only_member x y (inl e) = e
only_member x y (inr m) = absurd m
