-- A job whose cells part has been filled from rules (02, (e)): refusal 6 does not apply to it, and its tables have the rules' cells, so that
-- all that is said of a job's tables is said of the rules.
use Rattle.std.specs.Prelude.{◌≡◌, false, List, ℕ, ◌<◌, take, drop}
use Rattle.plans.specs.Plan.{Action}
use Rattle.lamp_line.specs.declared.WorldState.{WorldState}
use Rattle.lamp_line.specs.Tables.{kinds_of_ends}
use Rattle.job_layout.specs.Layout.{job_columns, head, sizes_of, cells_length}
use Rattle.job_layout.specs.JobTables.{tables_of}
use Rattle.job_layout.specs.FileRefusals.{cell_wrong}
use Rattle.fluent_rules.specs.CellRules.{rule_cell}
use Rattle.rules_file.specs.RulesFile.{rules_of}
use Rattle.std.specs.Prelude.{Ok}
use Rattle.cell_filling.specs.FillAnswers.{CellsFilled}

-- The bytes of a job file from the offset of its cells on, as many as its numbers ask for.
abbrev pub cells_part_of : List ℕ → List ℕ
cells_part_of s = take (cells_length (head s)) (drop (head s).cells.offset s)

-- The job file s has the cells of the rules file.
pub record CellsByRules (rules s : List ℕ) : Type 0 where
  pub not_6 : cell_wrong s (head s) ≡ false
  pub cells :
      (a : Action) (w : WorldState) (c : ℕ) → a < (head s).actions → w.0 < (head s).worlds → c < job_columns (head s) →
      (tables_of s).cell a w c ≡ rule_cell (rules_of rules) (kinds_of_ends (head s).ends) a w c

-- It does where the generator has filled a part for the job's numbers, and that part is the job's.
abbrev pub FilledInJob : Type 0
FilledInJob =
    (rules s before after : List ℕ) → CellsFilled rules (sizes_of (head s)) (Ok tt) before after → cells_part_of s ≡ after → CellsByRules rules s
