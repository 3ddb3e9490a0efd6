-- Lists of calls of the cabinet's operations on the same job file (01, "The cabinet"). The state goes from Begin to the calls, and from each
-- report to the calls after it.
use Rattle.std.specs.Prelude.{◌≡◌, List, [], ◌∷◌, ℕ, ◌≤◌}
use Rattle.std.specs.Prelude.{Option, None, Some, Ok, Err}
use Rattle.plans.specs.Plan.{Action, Result}
use Rattle.plans.specs.Execution.{Label, did}
use Rattle.lamp_line.specs.declared.ProgramState.{ProgramState}
use Rattle.lamp_line.specs.declared.Cabinet.{Cabinet}
use Rattle.lamp_line.specs.declared.Refusal.{Refusal}
use Rattle.lamp_line.specs.Refusals.{Answer, refusal_number}
use Rattle.job_layout.specs.JobTables.{tables_of}
use Rattle.cabinet.specs.CabinetAnswers.{ReportAnswer, moved_to, action_answer, report_answer}

-- A call after Begin: it asks for the action, or reports a result.
pub data Call : Type 0 where
  action_call : Call
  report_call : Result → Call

-- The state that a report returns.
abbrev pub returned : ReportAnswer → Cabinet
returned (Ok m) = m
returned (Err error) = error.state

-- What an action call is owed while these steps of the execution are still to come: the first one's action, or none if there is no step.
abbrev pub next_action : List Label → Answer (Option ℕ)
next_action [] = Ok None
next_action (did a r ∷ ls) = Ok (Some a)

module _ (s : List ℕ) where
  -- The state that the next call is handed.
  abbrev pub handed_on : Cabinet → Call → Cabinet
  handed_on m action_call = m
  handed_on m (report_call r) = returned (report_answer s m r)

  -- The state after a list of calls.
  unfoldable pub left_by : Cabinet → List Call → Cabinet
  left_by m [] = m
  left_by m (call ∷ calls) = left_by (handed_on m call) calls

  -- A report of r in state m is refused with 17, 18 or 19, and answers m again.
  pub record RefusedReport (m : Cabinet) (r : Result) : Type 0 where
    pub because : Refusal
    pub for_the_line : (17 ≤ refusal_number because) × (refusal_number because ≤ 19)
    pub answers : report_answer s m r ≡ Err (record { refusal = because; state = m })

  -- From state m on, the calls report the results of all these steps in their order. All other calls are action calls and reports that
  -- are refused. It is not assumed that the results of the steps are taken; that is part of what is owed.
  pub data Reports : Cabinet → List Label → List Call → Type 0 where
    all_reported : {m : Cabinet} → Reports m [] []
    asked : {m : Cabinet} {ls : List Label} {calls : List Call} → Reports m ls calls → Reports m ls (action_call ∷ calls)
    besides :
        {m : Cabinet} {r : Result} {ls : List Label} {calls : List Call} →
        RefusedReport m r → Reports m ls calls → Reports m ls (report_call r ∷ calls)
    reported :
        {m : Cabinet} {a : Action} {r : Result} {ls : List Label} {calls : List Call} →
        Reports (handed_on m (report_call r)) ls calls → Reports m (did a r ∷ ls) (report_call r ∷ calls)

  -- A report of r in state m is taken: the result has a branch, and the answer is the state to which it leads.
  pub record TakenReport (m : Cabinet) (r : Result) : Type 0 where
    pub target : ProgramState
    pub branch : (tables_of s).target m.state r ≡ Some target
    pub answers : report_answer s m r ≡ Ok (moved_to (tables_of s) m target)

  -- What such a list of calls is owed: an action call is answered with the action of the step that comes next, or with none if no step does,
  -- and every result of the steps is taken.
  unfoldable pub Owed : {m : Cabinet} {ls : List Label} {calls : List Call} → Reports m ls calls → Type 0
  Owed all_reported = Unit {0}
  Owed (asked {m = m} {ls = ls} more) = (action_answer s m ≡ next_action ls) × Owed more
  Owed (besides refused more) = Owed more
  Owed (reported {m = m} {r = r} more) = TakenReport m r × Owed more
