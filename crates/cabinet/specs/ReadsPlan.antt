-- What the cabinet's answers depend on in a file (01, "The cabinet"): marks, plan, A, R, S and the first state. Everything else may differ:
-- world states, kinds, cells, starts, goal, where the parts lie, and the bytes between them.
use Rattle.std.specs.Prelude.{◌≡◌, List, ℕ, ◌+◌, ◌<◌}
use Rattle.plans.specs.Plan.{Result}
use Rattle.lamp_line.specs.declared.Cabinet.{Cabinet}
use Rattle.job_layout.specs.declared.Job.{Job}
use Rattle.job_layout.specs.Layout.{byte, head, marks_length, plan_length}
use Rattle.job_file.specs.Reading.{Opened}
use Rattle.cabinet.specs.CabinetAnswers.{begin_answer, action_answer, report_answer}

-- The files s and s' are equal in A, R, S, the first state, and the bytes of marks and plan, wherever these parts lie.
pub record EqualForCabinet (s s' : List ℕ) : Type 0 where
  pub actions : (head s).actions ≡ (head s').actions
  pub results : (head s).results ≡ (head s').results
  pub states : (head s).states ≡ (head s').states
  pub first : (head s).first ≡ (head s').first
  pub marks :
      (i : ℕ) → i < marks_length (head s) → byte s ((head s).marks.offset + i) ≡ byte s' ((head s').marks.offset + i)
  pub plan : (i : ℕ) → i < plan_length (head s) → byte s ((head s).plan.offset + i) ≡ byte s' ((head s').plan.offset + i)

-- Each operation of the cabinet gives the same answer on both files, for every count, state and result.
pub record EqualAnswers (s s' : List ℕ) : Type 0 where
  pub begins : (count : ℕ) → begin_answer s count ≡ begin_answer s' count
  pub actions : (m : Cabinet) → action_answer s m ≡ action_answer s' m
  pub reports : (m : Cabinet) (r : Result) → report_answer s m r ≡ report_answer s' m r

-- If neither file is refused, and both are equal in what the cabinet reads, all its answers are the same on both.
abbrev pub ReadsPlanOnly : Type 0
ReadsPlanOnly =
    (s s' : List ℕ) (j j' : Job) → Opened s j → Opened s' j' → EqualForCabinet s s' → EqualAnswers s s'
