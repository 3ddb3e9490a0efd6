-- The user's demand 3 for the cabinet (01, "The cabinet"): what its operations answer on the bytes of a job file, call after call.
use Rattle.std.specs.Prelude.{◌≡◌, List, map, ℕ, ◌≤◌, length, Ok}
use Rattle.plans.specs.Execution.{Label, result_of}
use Rattle.lamp_line.specs.declared.ProgramState.{ProgramState}
use Rattle.lamp_line.specs.declared.WorldState.{WorldState}
use Rattle.lamp_line.specs.declared.Cabinet.{Cabinet}
use Rattle.lamp_line.specs.Tables.{Line, Situation, Beginning, lamp_problem, final}
use Rattle.lamp_line.specs.Executions.{Execution}
use Rattle.job_layout.specs.declared.Job.{Job}
use Rattle.job_layout.specs.JobTables.{tables_of}
use Rattle.job_file.specs.Reading.{Opened}
use Rattle.cabinet.specs.CabinetAnswers.{begin_answer}
use Rattle.cabinet.specs.Calls.{Call, report_call, left_by, Reports, Owed}
use Rattle.plan_check.specs.CheckAnswers.{Lent, Checked}

-- The cabinet begins with the line's number of lamps. The execution along the line from the start reaches state S, where the goal is true.
-- Take any list of calls that reports the execution's results in their order; its other calls are action calls and refused reports. It is
-- answered as owed, and it leaves state S and the number of lamps that the execution leaves.
pub record Served (s : List ℕ) (start : WorldState) (line : Line) : Type 0 where
  pub begun : Cabinet
  pub begins : begin_answer s (length line.lamps) ≡ Ok begun
  pub labels : List Label
  pub last : Situation
  pub execution : Execution (tables_of s) start line labels (final (tables_of s)) last
  pub goal : (lamp_problem (tables_of s)).Goal last
  pub owed : (calls : List Call) (reports : Reports s begun labels calls) → Owed s reports
  pub leaves :
      (calls : List Call) → Reports s begun labels calls →
      left_by s begun calls ≡ record { state = final (tables_of s); lamps = length last.rest.lamps }

-- If the check accepts, every cabinet is served so: from every marked start, along every line of the job with at most 65,535 lamps.
abbrev pub CabinetServed : Type 0
CabinetServed =
    (s : List ℕ) (count : ℕ) (before after : Lent) → Checked s (Ok count) before after →
    (start : WorldState) (line : Line) → Beginning (tables_of s) start line → length line.lamps ≤ 65535 →
    Served s start line

-- Whether the plan is accepted or not, the cabinet follows the execution: begun with a line's number of lamps, and after reports of the
-- results of any execution along it, it is in the execution's program state with the execution's lamps left.
abbrev pub CabinetFollows : Type 0
CabinetFollows =
    (s : List ℕ) (j : Job) → Opened s j → (start : WorldState) (line : Line) →
    Beginning (tables_of s) start line → (begun : Cabinet) → begin_answer s (length line.lamps) ≡ Ok begun →
    (ls : List Label) (q : ProgramState) (at : Situation) → Execution (tables_of s) start line ls q at →
    left_by s begun (map (λ l. report_call (result_of l)) ls) ≡ record { state = q; lamps = length at.rest.lamps }
