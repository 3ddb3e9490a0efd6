-- World states and values of the fluents correspond one to one, by division with remainder, fluent by fluent.
use mathlib.Core.List.{List, [], ◌∷◌}
use mathlib.Core.Path.{◌≡◌, refl, ap}
use Prim.Native.Nat.{ℕ, zero, suc, ◌*◌, ◌%◌, ◌<◌}
use native.Mathlib.Nat.{mul-zero, zero-mul, mod-lt, div-add-mod', div-lt_iff_lt-mul}
use native.Mathlib.Omega.{arith}
use lib.Arith.{digits_lt, digits_div, digits_mod}
use Rattle.fluent_rules.specs.Fluents.{world_count, Values, world_number, values_in, WorldsAreValues}

-- Of two numbers whose product is positive, each is.
pub factors_positive : (m n : ℕ) → 0 < m * n → (0 < m) × (0 < n)
factors_positive zero n h = absurd (omega (arith, h, zero-mul n))
factors_positive (suc m) zero h = absurd (omega (arith, h, mul-zero (suc m)))
factors_positive (suc m) (suc n) h = (omega arith, omega arith)

has_values : (counts : List ℕ) (world : ℕ) → world < world_count counts → Values counts (values_in counts world)
unfolding world_count Values values_in
has_values [] world h = tt
has_values (count ∷ counts) world h =
    let positive = (factors_positive count (world_count counts) (omega (arith, h))).1 in
    ((div-lt_iff_lt-mul positive).1 h, has_values counts (world % world_count counts) (mod-lt world positive))

has_number : (counts values : List ℕ) → Values counts values → world_number counts values < world_count counts
unfolding world_count Values world_number
has_number [] [] h = omega arith
has_number [] (value ∷ values) h = absurd h
has_number (count ∷ counts) [] h = absurd h
has_number (count ∷ counts) (value ∷ values) h = digits_lt h.0 (has_number counts values h.1)

number_of_values : (counts : List ℕ) (world : ℕ) → world < world_count counts → world_number counts (values_in counts world) ≡ world
unfolding world_count world_number values_in
number_of_values [] world h = omega arith
number_of_values (count ∷ counts) world h =
    let positive = (factors_positive count (world_count counts) (omega (arith, h))).1 in
    rw (number_of_values counts (world % world_count counts) (mod-lt world positive)) (div-add-mod' world (world_count counts))

values_of_number : (counts values : List ℕ) → Values counts values → values_in counts (world_number counts values) ≡ values
unfolding world_count Values world_number values_in
values_of_number [] [] h = refl
values_of_number [] (value ∷ values) h = absurd h
values_of_number (count ∷ counts) [] h = absurd h
values_of_number (count ∷ counts) (value ∷ values) h =
    let below = has_number counts values h.1 in
    rw (digits_div value below, digits_mod value below) (ap (λ l. value ∷ l) (values_of_number counts values h.1))

pub worlds_are_values : WorldsAreValues
worlds_are_values counts =
    record {
      has_values = has_values counts;
      has_number = has_number counts;
      number_of_values = number_of_values counts;
      values_of_number = values_of_number counts;
    }
