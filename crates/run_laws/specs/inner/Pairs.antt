-- Which pairs the tables have, and the number of each, for the proof of failure 3, the memory of fates and the search.
use Rattle.std.specs.Prelude.{ℕ, ◌+◌, ◌*◌, ◌/◌, ◌%◌, ◌≤◌, ◌<◌}
use Rattle.lamp_line.specs.Tables.{Tables, program_state, world_state}
use Rattle.lamp_line.specs.declared.Pair.{Pair}
use Rattle.lamp_line.specs.Run.{pair}

-- A pair of the tables: its program state is at most S, its world state is below W.
pub record InRange (t : Tables) (p : Pair) : Type 0 where
  pub state_range : p.state.0 ≤ t.states
  pub world_range : p.world.0 < t.worlds

-- How many pairs the tables have.
abbrev pub pairs : Tables → ℕ
pairs t = (t.states + 1) * t.worlds

-- The number of a pair. Pairs are numbered row by row: each program state has a row of W pairs.
unfoldable pub pair_number : ℕ → Pair → ℕ
pair_number worlds p = p.state.0 * worlds + p.world.0

-- The pair with this number.
unfoldable pub pair_of : ℕ → ℕ → Pair
pair_of worlds x = pair (program_state (x / worlds)) (world_state (x % worlds))
