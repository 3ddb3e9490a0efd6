-- For the functions that read the tables: what their answers stand for in the definition of the tables.
use Rattle.std.specs.Prelude.{◌≡◌, List, [], ◌∷◌, ℕ, ◌<◌, Option, None, Some}
use Rattle.lamp_line.specs.Tables.{Outcome, outcome}
use Rattle.job_layout.specs.JobTables.{outcomes}
use Rattle.job_tables.specs.declared.CellBytes.{CellBytes}

-- The bytes are those of a cell with these outcomes. Their next world state is below W, also where the cell is not legal.
pub record BytesOf (cell : List Outcome) (worlds : ℕ) (bytes : CellBytes) : Type 0 where
  pub are : outcomes bytes.next.0 bytes.result ≡ cell
  pub next_range : bytes.next.0 < worlds

-- A cell: no outcome if it is not legal, else one.
abbrev pub outcomes_of : Option CellBytes → List Outcome
outcomes_of None = []
outcomes_of (Some bytes) = outcome bytes.next bytes.result ∷ []
