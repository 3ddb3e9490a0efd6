-- The plan's branches in the tables that the cabinet reads.
use mathlib.Core.Path.{◌≡◌, refl}
use Rattle.std.specs.Prelude.{Option, None, Some}
use mathlib.Core.List.{List}
use Prim.Native.Nat.{ℕ, ◌≤◌}
use native.Mathlib.Omega.{arith}
use Rattle.plans.specs.Plan.{Result}
use Rattle.lamp_line.specs.declared.ProgramState.{ProgramState}
use Rattle.job_layout.specs.declared.Job.{Job}
use Rattle.job_layout.specs.JobTables.{tables_of}
use Rattle.job_file.specs.Reading.{Opened}
use Rattle.job_tables.proofs.Ranges.{results_are, well_formed}

-- A result that is not below R has no branch.
pub no_branch_outside :
    (s : List ℕ) (j : Job) → Opened s j → (q : ProgramState) (r : Result) → j.results ≤ r → None ≡ (tables_of s).target q r
no_branch_outside s j opened q r h = by ((tables_of s).target q r) refl
  where
    by : (o : Option ProgramState) → (tables_of s).target q r ≡ o → None ≡ o
    by None e = refl
    by (Some q') e = absurd (omega (arith, h, results_are s j opened, ((well_formed s j opened).formed.target_range q q' r e).0))
