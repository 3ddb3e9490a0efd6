-- What holds for the tables of a job file that is not refused (law `well_formed` of job_file). The laws of run, check and cabinet
-- assume it.
use Rattle.std.specs.Prelude.{◌≡◌, true, [], ℕ, ◌≤◌, ◌<◌, length}
use Rattle.std.specs.Prelude.{Some}
use Rattle.plans.specs.Plan.{Action, Result}
use Rattle.lamp_line.specs.declared.ProgramState.{ProgramState}
use Rattle.lamp_line.specs.declared.WorldState.{WorldState}
use Rattle.lamp_line.specs.Lists.{◌∈◌}
use Rattle.lamp_line.specs.Tables.{outcome, Tables, moves_on, kinds_of_ends, column_count}

-- The ranges of the numbers and of the entries. Each field is stated for all numbers: outside its range a table has no outcome, no
-- branch and no start. Nothing is said of how many outcomes a cell has.
pub record Formed (t : Tables) : Type 0 where
  pub actions_range : (1 ≤ t.actions) × (t.actions ≤ 16)
  pub worlds_range : (1 ≤ t.worlds) × (t.worlds ≤ 64)
  pub kinds_range : 1 ≤ t.kinds
  pub results_range : (1 ≤ t.results) × (t.results ≤ 8)
  pub states_range : t.states ≤ 64
  pub first_range : t.first.0 ≤ t.states
  pub columns_range : column_count t ≤ 16
  pub mark_range : (a : Action) → t.mark a ≤ 1
  pub next_range : (a : Action) (w w' : WorldState) (c : ℕ) (r : Result) → outcome w' r ∈ t.cell a w c → w'.0 < t.worlds
  pub result_range : (a : Action) (w w' : WorldState) (c : ℕ) (r : Result) → outcome w' r ∈ t.cell a w c → r < t.results
  -- refusal 7: an action that moves on is not legal at a line's end
  pub end_stays : (a : Action) (w : WorldState) (c : ℕ) → moves_on t a ≡ true → c < kinds_of_ends t.ends → t.cell a w c ≡ []
  pub start_range : (w : WorldState) → t.start w ≡ true → w.0 < t.worlds
  pub some_start : (w : WorldState) × (t.start w ≡ true)
  pub action_range : (q : ProgramState) → q.0 < t.states → t.action q < t.actions
  pub target_range : (q q' : ProgramState) (r : Result) → t.target q r ≡ Some q' → (r < t.results) × (q'.0 ≤ t.states)

-- Besides, a cell has at most one outcome, so that an execution is determined.
pub record WellFormed (t : Tables) : Type 0 where
  pub formed : Formed t
  pub single : (a : Action) (w : WorldState) (c : ℕ) → length (t.cell a w c) ≤ 1
