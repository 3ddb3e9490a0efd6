-- A refusal cannot be read as an answer: the refusals have the numbers 1 to 23, only refusals have the code 255, and both fields are read back
-- whatever the fields above them hold.
use Rattle.std.proofs.Common.{ℕ, ◌≤◌, Option, None, Some, Result, Ok, Err, arith}
use Rattle.lamp_line.specs.declared.Refusal.{Refusal}
use Rattle.lamp_line.specs.declared.Refusal.TheVariants as because
use Rattle.lamp_line.specs.declared.FailureKind.{FailureKind}
use Rattle.lamp_line.specs.declared.FailureKind.TheVariants.{NotLegal, NoBranch, Circles, GoalFalse}
use Rattle.lamp_line.specs.declared.Ending.{Ending}
use Rattle.lamp_line.specs.declared.Ending.TheVariants.{Goal, Failure}
use Rattle.lamp_line.specs.declared.Cabinet.{Cabinet}
use Rattle.lamp_line.specs.Endings.{kind_number}
use Rattle.lamp_line.specs.Refusals.{refusal_number, Answer}
use Rattle.job_layout.specs.declared.Job.{Job}
use Rattle.lamp_walk.specs.declared.Walked.{Walked}
use Rattle.lamp_walk.specs.declared.Walked.TheVariants as walked
use Rattle.line_run.specs.declared.Ran.{Ran}
use Rattle.line_run.specs.declared.Ran.TheVariants as ran
use Rattle.plan_check.specs.declared.CheckError.{CheckError}
use Rattle.plan_check.specs.declared.CheckError.TheVariants as check
use Rattle.plan_check.specs.ShortAnswers.{ShortAnswer}
use Rattle.log_replay.specs.declared.ReplayError.{ReplayError}
use Rattle.log_replay.specs.declared.ReplayError.TheVariants as replay
use Rattle.cabinet.specs.declared.ReportError.{ReportError}
use Rattle.answer_words.specs.AnswerWords.{answer_word, goal_code, stopped_code, arrived_code, ended_code, impossible_code, none_up_to_code, refused_code, ending_code, refused_word, done_word, read_word, walk_word, run_word, error_word, check_word, short_word, begin_word, action_word, report_word, replay_word, fill_word}
use Rattle.answer_words.specs.Fields.{RefusalShown, RefusalsShown}

-- ---- one word

-- An answer has a code up to 9, and 0 in the refusal field.
answered : (code state world count : ℕ) → code ≤ 9 → RefusalShown (answer_word 0 code state world count)
unfolding answer_word
answered code state world count code≤ = (λ e. absurd (omega arith), λ not_0. absurd (not_0 (omega arith)))

-- A refusal has the code 255, and its number in the refusal field.
refused : (number state count : ℕ) → (1 ≤ number) × (number ≤ 23) → RefusalShown (answer_word number refused_code state 0 count)
unfolding answer_word
refused number state count numbered = (λ e is_0. omega (arith, numbered.0), λ not_0. omega (arith, numbered.0, numbered.1))

numbered : (r : Refusal) → (1 ≤ refusal_number r) × (refusal_number r ≤ 23)
numbered because.FileSize = (omega arith, omega arith)
numbered because.HeadNumber = (omega arith, omega arith)
numbered because.PartPlace = (omega arith, omega arith)
numbered because.PartLength = (omega arith, omega arith)
numbered because.Mark = (omega arith, omega arith)
numbered because.Cell = (omega arith, omega arith)
numbered because.LegalAtEnd = (omega arith, omega arith)
numbered because.StartMark = (omega arith, omega arith)
numbered because.GoalCell = (omega arith, omega arith)
numbered because.PlanAction = (omega arith, omega arith)
numbered because.PlanTarget = (omega arith, omega arith)
numbered because.LineBuffer = (omega arith, omega arith)
numbered because.WorkingSpace = (omega arith, omega arith)
numbered because.Start = (omega arith, omega arith)
numbered because.Line = (omega arith, omega arith)
numbered because.State = (omega arith, omega arith)
numbered because.AfterEnd = (omega arith, omega arith)
numbered because.NoTarget = (omega arith, omega arith)
numbered because.NoLampLeft = (omega arith, omega arith)
numbered because.LogSize = (omega arith, omega arith)
numbered because.LogEntry = (omega arith, omega arith)
numbered because.Rules = (omega arith, omega arith)
numbered because.CellsLength = (omega arith, omega arith)

refused_shown : (r : Refusal) → RefusalShown (refused_word r)
refused_shown r = refused (refusal_number r) 0 0 (numbered r)

kind_code : (kind : FailureKind) → kind_number kind ≤ 9
kind_code NotLegal = omega arith
kind_code NoBranch = omega arith
kind_code Circles = omega arith
kind_code GoalFalse = omega arith

code_of : (x : Ending) → ending_code x ≤ 9
code_of Goal = omega arith
code_of (Failure kind) = kind_code kind

done_shown : RefusalShown done_word
done_shown = answered goal_code 0 0 0 (omega arith)

-- ---- the operations: whatever they answer

read_shown : (x : Answer Job) → RefusalShown (read_word x)
read_shown (Ok j) = done_shown
read_shown (Err r) = refused_shown r

walk_shown : (x : Answer Walked) → RefusalShown (walk_word x)
walk_shown (Ok (walked.Ended x k)) = answered (ending_code x) 0 0 k (code_of x)
walk_shown (Ok (walked.Arrived p k)) = answered arrived_code p.state.0 p.world.0 k (omega arith)
walk_shown (Err r) = refused_shown r

run_shown : (x : Answer Ran) → RefusalShown (run_word x)
run_shown (Ok (ran.Ended x k)) = answered (ending_code x) 0 0 k (code_of x)
run_shown (Ok (ran.Stopped k)) = answered stopped_code 0 0 k (omega arith)
run_shown (Err r) = refused_shown r

error_shown : (x : CheckError) → RefusalShown (error_word x)
error_shown (check.Failed f) = answered (kind_number f.kind) f.start.0 f.end f.lamps (kind_code f.kind)
error_shown (check.Refused r) = refused_shown r

check_shown : (x : Result ℕ CheckError) → RefusalShown (check_word x)
check_shown (Ok count) = answered goal_code 0 0 count (omega arith)
check_shown (Err error) = error_shown error

short_shown : (x : ShortAnswer) → RefusalShown (short_word x)
short_shown (Ok n) = answered none_up_to_code 0 0 n.0 (omega arith)
short_shown (Err error) = error_shown error

begin_shown : (x : Answer Cabinet) → RefusalShown (begin_word x)
begin_shown (Ok m) = answered goal_code m.state.0 0 m.lamps (omega arith)
begin_shown (Err r) = refused_shown r

action_shown : (x : Answer (Option ℕ)) → RefusalShown (action_word x)
action_shown (Ok (Some a)) = answered goal_code a 0 0 (omega arith)
action_shown (Ok None) = answered ended_code 0 0 0 (omega arith)
action_shown (Err r) = refused_shown r

report_shown : (x : Result Cabinet ReportError) → RefusalShown (report_word x)
report_shown (Ok m) = answered goal_code m.state.0 0 m.lamps (omega arith)
report_shown (Err error) = refused (refusal_number error.refusal) error.state.state.0 error.state.lamps (numbered error.refusal)

replay_shown : (x : Result (Unit {0}) ReplayError) → RefusalShown (replay_word x)
replay_shown (Ok _) = done_shown
replay_shown (Err (replay.ImpossibleAt place)) = answered impossible_code 0 0 place (omega arith)
replay_shown (Err (replay.Refused r)) = refused_shown r

fill_shown : (x : Answer (Unit {0})) → RefusalShown (fill_word x)
fill_shown (Ok _) = done_shown
fill_shown (Err r) = refused_shown r

pub refusals_shown : RefusalsShown
refusals_shown =
    record {
      of_read = λ s. read_shown _;
      of_walk = λ s q w column. walk_shown _;
      of_run = λ s start line limit. run_shown _;
      of_check = λ s n before after word. rw word.as_number (check_shown word.answer);
      of_check_up_to = λ s longest n before after word. rw word.as_number (short_shown word.answer);
      of_begin = λ s lamps. begin_shown _;
      of_action = λ s m. action_shown _;
      of_report = λ s m result. report_shown _;
      of_replay = λ s log n word. rw word.as_number (replay_shown word.answer);
      of_fill = λ s n size. fill_shown _;
    }
