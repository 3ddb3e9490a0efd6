-- The user's demand 3 for the check (01, "The check"): what its answers mean, beyond what its contract says of each call.
use Rattle.std.specs.Prelude.{◌≡◌, ◌↔◌, List, ℕ, ◌≤◌, length, None, Ok, Err}
use Rattle.plans.specs.Execution.{Correct}
use Rattle.lamp_line.specs.declared.WorldState.{WorldState}
use Rattle.lamp_line.specs.declared.FailureKind.{FailureKind}
use Rattle.lamp_line.specs.declared.Ending.{Ending}
use Rattle.lamp_line.specs.declared.Ending.TheVariants.{Goal, Failure}
use Rattle.lamp_line.specs.Tables.{Line, Beginning, lamp_problem, plan_of}
use Rattle.lamp_line.specs.Endings.{Leads}
use Rattle.lamp_line.specs.Check.{situation, Fails}
use Rattle.job_layout.specs.declared.Job.{Job}
use Rattle.job_layout.specs.JobTables.{tables_of}
use Rattle.job_file.specs.Reading.{Opened}
use Rattle.line_run.specs.declared.Ran.TheVariants.{Ended}
use Rattle.line_run.specs.RunAnswers.{run_answer}
use Rattle.line_finding.specs.declared.Failure.{Failure as FailedAnswer}
use Rattle.plan_check.specs.declared.CheckError.TheVariants as error
use Rattle.plan_check.specs.CheckAnswers.{failed_line, CheckAnswer, Lent, check_refusal, Checked}

-- ---- exactly when

-- Unless it is refused, a check accepts exactly when the plan is correct in the sense of 001: it reaches the goal from all marked starts,
-- on all lines, however long, and with every kind of end.
abbrev pub AcceptedExactly : Type 0
AcceptedExactly =
    (s : List ℕ) (r : CheckAnswer ℕ) (before after : Lent) →
    check_refusal s before ≡ None → Checked s r before after →
    ((count : ℕ) × (r ≡ Ok count)) ↔ Correct (lamp_problem (tables_of s)) (plan_of (tables_of s))

-- A line has one of the four failure kinds from a start exactly when the execution there does not reach state S with a true goal.
abbrev pub FailsExactly : Type 0
FailsExactly =
    (s : List ℕ) (j : Job) → Opened s j → (start : WorldState) (line : Line) → Beginning (tables_of s) start line →
    ((kind : FailureKind) × Fails (tables_of s) kind start line)
    ↔ ¬ (Leads (lamp_problem (tables_of s)) (plan_of (tables_of s)) Goal (tables_of s).first (situation start line))

-- ---- determined

-- The same answer, and the same bytes in the line buffer.
pub record SameChecks {A : Type 0} (r r' : A) (after after' : Lent) : Type 0 where
  pub same_answer : r ≡ r'
  pub same_line : after.line ≡ after'.line

-- Two checks that are handed the same give the same answer and leave the same line buffer.
abbrev pub CheckDetermined : Type 0
CheckDetermined =
    (s : List ℕ) (r r' : CheckAnswer ℕ) (before after after' : Lent) →
    Checked s r before after → Checked s r' before after' → SameChecks r r' after after'

-- ---- runs after a check

-- The run along this line from the start has this ending. Its number of steps fits in 32 bits, and every limit that is not lower gives
-- this answer.
pub record RunEnds (s : List ℕ) (start : WorldState) (line : Line) (x : Ending) : Type 0 where
  pub steps : ℕ
  pub few : steps ≤ 4294967295
  pub ends : (limit : ℕ) → steps ≤ limit → run_answer s start line limit ≡ Ok (Ended x steps)

-- If the check accepts, every run from a marked start along a line of the job with at most 65,535 lamps ends in Goal.
abbrev pub AcceptedRuns : Type 0
AcceptedRuns =
    (s : List ℕ) (count : ℕ) (before after : Lent) → Checked s (Ok count) before after →
    (start : WorldState) (line : Line) → Beginning (tables_of s) start line → length line.lamps ≤ 65535 →
    RunEnds s start line Goal

-- If the check answers a failure, the run along the line that it wrote, with the kind of end and from the start that it answered, ends in
-- that failure.
abbrev pub FailedRuns : Type 0
FailedRuns =
    (s : List ℕ) (f : FailedAnswer) (before after : Lent) → Checked s (Err (error.Failed f)) before after →
    RunEnds s f.start (failed_line f after.line) (Failure f.kind)
