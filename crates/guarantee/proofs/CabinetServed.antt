-- Demand 3 for the cabinet: if the check accepts, every list of calls along any line is answered as owed; and along any line the cabinet
-- follows the execution.
use Rattle.std.proofs.Common.{◌≡◌, List, ℕ, length}
use Rattle.plans.specs.Execution.{Label, Correct}
use Rattle.lamp_line.specs.declared.WorldState.{WorldState}
use Rattle.lamp_line.specs.Tables.{Line, Situation, Beginning, lamp_problem, final}
use Rattle.lamp_line.specs.Executions.{Execution}
use Rattle.lamp_line.specs.Check.{situation}
use Rattle.job_layout.specs.Layout.{head}
use Rattle.job_layout.specs.JobTables.{tables_of}
use Rattle.job_file.specs.Reading.{Opened}
use Rattle.job_tables.proofs.Ranges.{well_formed}
use Rattle.cabinet.specs.CabinetAnswers.{first_machine}
use Rattle.cabinet.proofs.Answering.{begin_opened}
use Rattle.cabinet.proofs.Following.{begins_within, execution_reported}
use Rattle.cabinet.proofs.Serving.{serves_execution}
use Rattle.guarantee.specs.CabinetPromises.{Served, CabinetServed, CabinetFollows}
use Rattle.guarantee.proofs.CheckMeans.{accepted_means}

-- A line on which the execution reaches the goal.
pub goal_served :
    (s : List ℕ) → Opened s (head s) → (start : WorldState) (line : Line) → Beginning (tables_of s) start line →
    (ls : List Label) (last : Situation) → Execution (tables_of s) start line ls (final (tables_of s)) last →
    (lamp_problem (tables_of s)).Goal last → Served s start line
goal_served s opened start line beginning ls last execution goal =
    let serves = serves_execution s opened execution (begins_within (tables_of s) (well_formed s (head s) opened) beginning) in
    record {
      begun = first_machine (tables_of s) (length line.lamps);
      begins = begin_opened s opened (length line.lamps);
      labels = ls;
      last = last;
      execution = execution;
      goal = goal;
      owed = λ calls reports. (serves calls reports).owed;
      leaves = λ calls reports. (serves calls reports).leaves;
    }

pub cabinet_served : CabinetServed
unfolding Correct
cabinet_served s count before after checked start line beginning few =
    let (opened, accepts) = accepted_means s before after count checked in
    let (ls, last, execution, goal) = accepts.correct (situation start line) beginning in
    goal_served s opened start line beginning ls last execution goal

pub cabinet_follows : CabinetFollows
cabinet_follows s j opened start line beginning begun begins ls q at execution =
    let same : begun ≡ first_machine (tables_of s) (length line.lamps) = cc (begin_opened s opened (length line.lamps)) in
    rw same (execution_reported s opened execution (begins_within (tables_of s) (well_formed s j opened) beginning))
