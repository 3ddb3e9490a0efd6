-- For the functions that read the parts of a file: what holds of a file s with the head j if none of refusals 1 to 4 applies. The
-- numbers of the head are in range, and each part lies in the file with the length that it must have.
use Rattle.std.specs.Prelude.{List, ℕ, ◌+◌, ◌≤◌, length}
use Rattle.job_layout.specs.Layout.{job_columns, marks_length, cells_length, starts_length, goal_length, plan_length}
use Rattle.job_layout.specs.declared.Job.{Job}

pub record Laid (s : List ℕ) (j : Job) : Type 0 where
  pub actions_range : (1 ≤ j.actions) × (j.actions ≤ 16)
  pub worlds_range : (1 ≤ j.worlds) × (j.worlds ≤ 64)
  pub kinds_range : 1 ≤ j.kinds
  pub results_range : (1 ≤ j.results) × (j.results ≤ 8)
  pub states_range : j.states ≤ 64
  pub first_range : j.first.0 ≤ j.states
  pub columns_range : job_columns j ≤ 16
  pub marks_in : j.marks.offset + marks_length j ≤ length s
  pub cells_in : j.cells.offset + cells_length j ≤ length s
  pub starts_in : j.starts.offset + starts_length j ≤ length s
  pub goal_in : j.goal.offset + goal_length j ≤ length s
  pub plan_in : j.plan.offset + plan_length j ≤ length s
