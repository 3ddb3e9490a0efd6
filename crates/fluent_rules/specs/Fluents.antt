-- Fluents (02, (e)): a world state stands for one value of each fluent. `counts` lists how many values the fluents have, in their order.
use Rattle.std.specs.Prelude.{◌≡◌, List, [], ◌∷◌, ℕ, ◌+◌, ◌*◌, ◌/◌, ◌%◌, ◌<◌}

-- How many world states there are: the product of the counts.
unfoldable pub world_count : List ℕ → ℕ
world_count [] = 1
world_count (count ∷ counts) = count * world_count counts

-- One value for each fluent, from 0 to its count less one.
unfoldable pub Values : List ℕ → List ℕ → Type 0
Values [] [] = Unit {0}
Values [] (value ∷ values) = ⊥
Values (count ∷ counts) [] = ⊥
Values (count ∷ counts) (value ∷ values) = (value < count) × Values counts values

-- The number of the world state in which the fluents have these values. The first fluent is the slowest: with each of its values the
-- others go through all of theirs.
unfoldable pub world_number : List ℕ → List ℕ → ℕ
world_number [] values = 0
world_number (count ∷ counts) [] = 0
world_number (count ∷ counts) (value ∷ values) = value * world_count counts + world_number counts values

-- The values that the fluents have in the world state of this number.
unfoldable pub values_in : List ℕ → ℕ → List ℕ
values_in [] world = []
values_in (count ∷ counts) world = world / world_count counts ∷ values_in counts (world % world_count counts)

-- ---- the statement

-- Numbers of world states and values of the fluents correspond, one to one.
pub record OneToOne (counts : List ℕ) : Type 0 where
  pub has_values : (world : ℕ) → world < world_count counts → Values counts (values_in counts world)
  pub has_number : (values : List ℕ) → Values counts values → world_number counts values < world_count counts
  pub number_of_values : (world : ℕ) → world < world_count counts → world_number counts (values_in counts world) ≡ world
  pub values_of_number : (values : List ℕ) → Values counts values → values_in counts (world_number counts values) ≡ values

-- It is so whatever the counts are.
abbrev pub WorldsAreValues : Type 0
WorldsAreValues = (counts : List ℕ) → OneToOne counts
