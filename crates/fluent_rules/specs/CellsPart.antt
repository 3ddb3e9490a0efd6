-- The cells part of a job file (01, "Job file", part 2; 02, (c), for its E + C columns) with the cells that rules give (02, (e)).
use Rattle.std.specs.Prelude.{List, [], ◌∷◌, ℕ, ◌*◌}
use Rattle.lamp_line.specs.Lists.{blocks}
use Rattle.lamp_line.specs.Tables.{Outcome, outcome, world_state}
use Rattle.job_layout.specs.declared.Sizes.{Sizes}
use Rattle.job_layout.specs.Layout.{width}
use Rattle.fluent_rules.specs.CellRules.{FluentRules, rule_cell}

-- A cell has two bytes, the next world state and the result; where the action is not legal they are 0 and 255.
abbrev pub cell_bytes : List Outcome → List ℕ
cell_bytes [] = 0 ∷ 255 ∷ []
cell_bytes (outcome w r ∷ more) = w.0 ∷ r ∷ []

-- The cells are ordered by action, then by world state, then by column.
unfoldable pub cells_part : FluentRules → Sizes → List ℕ
cells_part rules n =
    blocks n.actions (λ a.
    blocks n.worlds (λ w.
    blocks (width n) (λ c.
    cell_bytes (rule_cell rules n.end_kinds a (world_state w) c))))

-- How many bytes it has.
abbrev pub part_length : Sizes → ℕ
part_length n = 2 * (n.actions * n.worlds * width n)
