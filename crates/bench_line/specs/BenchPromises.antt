-- The cases of bench line G that 01 marks with a star ("Bench line G"), as one joint statement about the definitions.
use Rattle.std.specs.Prelude.{◌≡◌, List, [], ◌∷◌, ℕ}
use Rattle.lamp_line.specs.declared.FailureKind.{FailureKind}
use Rattle.lamp_line.specs.declared.FailureKind.TheVariants.{NotLegal, NoBranch, Circles, GoalFalse}
use Rattle.lamp_line.specs.declared.Ending.TheVariants.{Goal, Failure}
use Rattle.lamp_line.specs.Tables.{world_state, line_of}
use Rattle.lamp_line.specs.Run.{Run, ran, within, stopped, run, limited}
use Rattle.lamp_line.specs.Check.{Verdict, accepted, failed, Right}
use Rattle.job_layout.specs.Layout.{head}
use Rattle.job_layout.specs.JobTables.{tables_of}
use Rattle.job_file.specs.Reading.{Opened}
use Rattle.bench_line.specs.BenchJobs.{G, G_unflagged, G_circling, G_no_branch, G_final, G_test_first, G_five}

-- The file is not refused, and this verdict is the right one.
pub record Judged (s : List ℕ) (v : Verdict) : Type 0 where
  pub opened : Opened s (head s)
  pub right : Right (tables_of s) v

-- The run of a file from world state 0 along these lamps to the end kind 0, the only one that G has.
abbrev pub run_on : List ℕ → List ℕ → Run
run_on s lamps = run (tables_of s) (world_state 0) (line_of 0 lamps)

-- The right verdict is this failure, from start 0 along these lamps to the end kind 0, and the run there counts k steps.
pub record FailsOn (s : List ℕ) (kind : FailureKind) (lamps : List ℕ) (k : ℕ) : Type 0 where
  pub judged : Judged s (failed kind (world_state 0) (line_of 0 lamps))
  pub runs : run_on s lamps ≡ ran (Failure kind) k

-- The starred cases, in 01's order.
pub record BenchLine : Type 0 where
  pub empty_line : run_on G [] ≡ ran Goal 1
  pub sound_lamp : run_on G (1 ∷ []) ≡ ran Goal 4
  pub limit_of_3 : limited 3 (run_on G (1 ∷ [])) ≡ stopped 3
  pub faulty_lamp : run_on G (2 ∷ []) ≡ ran Goal 5
  pub both_lamps : run_on G (1 ∷ 2 ∷ []) ≡ ran Goal 8
  pub accepted_one : Judged G (accepted 1)
  pub unflagged : FailsOn G_unflagged GoalFalse (2 ∷ []) 4
  pub circling : FailsOn G_circling Circles (1 ∷ []) 12
  pub no_branch : FailsOn G_no_branch NoBranch [] 0
  pub final_first : FailsOn G_final GoalFalse (1 ∷ []) 0
  pub final_at_end : limited 0 (run_on G_final []) ≡ within Goal 0
  pub test_first : FailsOn G_test_first NotLegal [] 0
  pub five_states : FailsOn G_five NoBranch (1 ∷ 1 ∷ []) 3
