-- The values after a rule, and the number of their world state, fluent by fluent.
use mathlib.Core.List.{List, [], ◌∷◌}
use mathlib.Core.Path.{◌≡◌, refl, sym, ap}
use Prim.Native.Nat.{ℕ, zero, suc, ◌+◌, ◌*◌, ◌<◌}
use native.Mathlib.Nat.{mul_assoc, add-mul}
use native.Mathlib.Omega.{arith}
use lib.ListN.{length, get_or}
use Rattle.fluent_rules.specs.CellRules.{new_value, new_values}
use Rattle.fluent_rules.specs.Fluents.{world_count, Values, world_number}

-- As many values as there are fluents.
pub values_length : (counts values : List ℕ) → Values counts values → length values ≡ length counts
unfolding Values
values_length [] [] h = refl
values_length [] (value ∷ values) h = absurd h
values_length (count ∷ counts) [] h = absurd h
values_length (count ∷ counts) (value ∷ values) h = ap suc (values_length counts values h.1)

-- The new value of each fluent.
pub new_value_at : (new values : List ℕ) (i : ℕ) → i < length new → i < length values →
    get_or (new_values new values) i 0 ≡ new_value (get_or new i 0) (get_or values i 0)
unfolding new_values
new_value_at [] values i i< i<' = absurd (omega arith)
new_value_at (n ∷ new) [] i i< i<' = absurd (omega arith)
new_value_at (n ∷ new) (value ∷ values) zero i< i<' = refl
new_value_at (n ∷ new) (value ∷ values) (suc i) i< i<' = new_value_at new values i (omega arith) (omega arith)

-- One fluent more in the number of a world state whose first fluents have the number w.
pub world_number_more : (w count value : ℕ) (counts values : List ℕ) →
    w * world_count (count ∷ counts) + world_number (count ∷ counts) (value ∷ values)
    ≡ (w * count + value) * world_count counts + world_number counts values
unfolding world_count world_number
world_number_more w count value counts values =
    rw (sym (mul_assoc w count (world_count counts)), add-mul (w * count) value (world_count counts)) (omega arith)
