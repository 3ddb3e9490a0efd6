-- The answers of the cabinet's operations (01, "The cabinet" and "Who can cause which number"). The machine holds a program state and
-- the number of lamps left, and nothing of world states or cells.
use Rattle.std.specs.Prelude.{Bool, cond, ◌&&◌, List, [], ◌∷◌, ◌++◌, ℕ, ◌-◌, eqb, ltb}
use Rattle.std.specs.Prelude.{Option, None, Some, Result as Fallible, Ok, Err}
use Rattle.plans.specs.Plan.{Result}
use Rattle.lamp_line.specs.declared.ProgramState.{ProgramState}
use Rattle.lamp_line.specs.declared.Cabinet.{Cabinet}
use Rattle.lamp_line.specs.declared.Refusal.TheVariants as refused
use Rattle.lamp_line.specs.Tables.{Tables, moves_on}
use Rattle.lamp_line.specs.Refusals.{◌when◌, refusal, Answer, or_refused, answer_by}
use Rattle.lamp_line.specs.Run.{is_final}
use Rattle.job_layout.specs.JobTables.{tables_of}
use Rattle.job_file.specs.Reading.{file_refusals}
use Rattle.cabinet.specs.declared.ReportError.{ReportError}

-- What a report answers: the new state, or a refusal with the old state.
abbrev pub ReportAnswer : Type 0
ReportAnswer = Fallible Cabinet ReportError

-- The report in state m that comes to this answer. If it is refused, the machine stays as it was.
abbrev pub keeping : Cabinet → Answer Cabinet → ReportAnswer
keeping m (Ok next) = Ok next
keeping m (Err because) = Err (record { refusal = because; state = m })

module _ (t : Tables) where
  -- The machine that Begin returns: in the first program state, with the count from the panel.
  abbrev pub first_machine : ℕ → Cabinet
  first_machine count = record { state = t.first; lamps = count }

  -- 16: the machine's program state is above S.
  abbrev pub is_above : Cabinet → Bool
  is_above m = ltb t.states m.state.0

  -- The machine is in state S.
  abbrev pub has_ended : Cabinet → Bool
  has_ended m = is_final t m.state

  -- The action of the machine's state moves on.
  abbrev pub is_moving : Cabinet → Bool
  is_moving m = moves_on t (t.action m.state)

  -- The machine after its action's result has led to the program state q. If the action moves on, the number of lamps falls by one.
  abbrev pub moved_to : Cabinet → ProgramState → Cabinet
  moved_to m q = record { state = q; lamps = cond (is_moving m) (m.lamps - 1) m.lamps }

  -- The answer by the branch for the reported result. 18: there is no branch; results that are not below R never have one. 19: the
  -- action moves on, but no lamp is left.
  abbrev pub followed : Cabinet → Option ProgramState → Answer Cabinet
  followed m None = Err refused.NoTarget
  followed m (Some q) = answer_by ((refused.NoLampLeft when is_moving m && eqb m.lamps 0) ∷ []) (moved_to m q)

-- ---- the operations

-- Begin with this count of lamps. Only the file can be refused.
unfoldable pub begin_answer : List ℕ → ℕ → Answer Cabinet
begin_answer s count = answer_by (file_refusals s) (first_machine (tables_of s) count)

-- The action to do in state m, or none if the plan has ended. 16: m is no state of the plan.
unfoldable pub action_answer : List ℕ → Cabinet → Answer (Option ℕ)
action_answer s m =
    answer_by (file_refusals s ++ (refused.State when is_above (tables_of s) m) ∷ [])
    (cond (has_ended (tables_of s) m) None (Some ((tables_of s).action m.state)))

-- The state to which the result r leads, reported in state m. 17: the plan has ended already.
unfoldable pub state_answer : List ℕ → Cabinet → Result → Answer Cabinet
state_answer s m r =
    or_refused
    (refusal
    (file_refusals s ++ (refused.State when is_above (tables_of s) m) ∷ (refused.AfterEnd when has_ended (tables_of s) m) ∷ []))
    (followed (tables_of s) m ((tables_of s).target m.state r))

-- The answer to the result r, reported in state m.
unfoldable pub report_answer : List ℕ → Cabinet → Result → ReportAnswer
report_answer s m r = keeping m (state_answer s m r)
