-- The number that an exported function answers (include/nessflurry.h): its five fields, the codes, and the content of the fields for each
-- answer of each operation.
use Rattle.std.specs.Prelude.{◌≡◌, List, [], ◌∷◌, ℕ, ◌+◌, ◌*◌, Option, None, Some, Result, Ok, Err}
use Rattle.lamp_line.specs.declared.Cabinet.{Cabinet}
use Rattle.lamp_line.specs.declared.Ending.{Ending}
use Rattle.lamp_line.specs.declared.Ending.TheVariants.{Goal, Failure}
use Rattle.lamp_line.specs.declared.Refusal.{Refusal}
use Rattle.lamp_line.specs.Endings.{kind_number}
use Rattle.lamp_line.specs.Refusals.{refusal_number, Answer}
use Rattle.job_layout.specs.declared.Job.{Job}
use Rattle.lamp_walk.specs.declared.Walked.{Walked}
use Rattle.lamp_walk.specs.declared.Walked.TheVariants as walked
use Rattle.line_run.specs.declared.Ran.{Ran}
use Rattle.line_run.specs.declared.Ran.TheVariants as ran
use Rattle.plan_check.specs.declared.Failure.{Failure as FailedAnswer}
use Rattle.plan_check.specs.declared.CheckError.{CheckError}
use Rattle.plan_check.specs.declared.CheckError.TheVariants as check
use Rattle.plan_check.specs.CheckAnswers.{Lent, Checked}
use Rattle.plan_check.specs.ShortAnswers.{ShortAnswer, CheckedUpTo}
use Rattle.log_replay.specs.declared.ReplayError.{ReplayError}
use Rattle.log_replay.specs.declared.ReplayError.TheVariants as replay
use Rattle.log_replay.specs.ReplayAnswers.{Replayed}
use Rattle.cabinet.specs.declared.ReportError.{ReportError}

-- ---- the word

-- Bits 0 to 7 are the refusal, 8 to 15 the code, 16 to 23 the state, 24 to 31 the world, 32 to 63 the count.
unfoldable pub answer_word : ℕ → ℕ → ℕ → ℕ → ℕ → ℕ
answer_word refusal code state world count = refusal + 256 * code + 65536 * state + 16777216 * world + 4294967296 * count

-- ---- the codes

-- Goal. It is also the code where a file is read, a plan accepted, an action named, a cabinet begun, a report taken, a log possible or a cells
-- part filled.
abbrev pub goal_code : ℕ
goal_code = 0

-- A run that needs more steps than its limit.
abbrev pub stopped_code : ℕ
stopped_code = 5

-- A walk that goes on to the next lamp or to the line's end.
abbrev pub arrived_code : ℕ
arrived_code = 6

-- A call for the action in state S.
abbrev pub ended_code : ℕ
ended_code = 7

-- A log that no start and line give.
abbrev pub impossible_code : ℕ
impossible_code = 8

-- A short check that finds no failing line. It is not the code of an accepted plan.
abbrev pub none_up_to_code : ℕ
none_up_to_code = 9

-- A refused call of any operation. Nothing else has this code, so a caller who reads only the code cannot mistake a refusal for an answer.
abbrev pub refused_code : ℕ
refused_code = 255

-- The code of an ending: failure kinds have their numbers, 1 to 4.
abbrev pub ending_code : Ending → ℕ
ending_code Goal = goal_code
ending_code (Failure kind) = kind_number kind

-- ---- the answers: the number for each answer of each operation

-- A refusal has its number, the code 255, and 0 in the other fields. In every other answer the refusal field is 0.
abbrev pub refused_word : Refusal → ℕ
refused_word because = answer_word (refusal_number because) refused_code 0 0 0

-- An answer that says no more than that the call is not refused.
abbrev pub done_word : ℕ
done_word = answer_word 0 goal_code 0 0 0

-- The reader answers its numbers in the lent array; the word says only whether the file is refused.
abbrev pub read_word : Answer Job → ℕ
read_word (Ok j) = done_word
read_word (Err because) = refused_word because

-- The numbers that the reader writes for a job: bytes 0 to 6 of the file, then offset and length of each of its five parts.
abbrev pub head_numbers : Job → List ℕ
head_numbers j =
    j.actions ∷ j.worlds ∷ j.kinds ∷ j.results ∷ j.states ∷ j.first.0 ∷ j.ends
    ∷ j.marks.offset ∷ j.marks.length
    ∷ j.cells.offset ∷ j.cells.length
    ∷ j.starts.offset ∷ j.starts.length
    ∷ j.goal.offset ∷ j.goal.length
    ∷ j.plan.offset ∷ j.plan.length
    ∷ []

-- The lent array after reading: the numbers of the job, or what it held before if the file is refused.
abbrev pub head_after : Answer Job → List ℕ → List ℕ
head_after (Ok j) before = head_numbers j
head_after (Err because) before = before

-- The count is the walk's number of steps; state and world are the pair with which it arrives.
abbrev pub walk_word : Answer Walked → ℕ
walk_word (Ok (walked.Ended x k)) = answer_word 0 (ending_code x) 0 0 k
walk_word (Ok (walked.Arrived p k)) = answer_word 0 arrived_code p.state.0 p.world.0 k
walk_word (Err because) = refused_word because

-- The count is the run's number of steps.
abbrev pub run_word : Answer Ran → ℕ
run_word (Ok (ran.Ended x k)) = answer_word 0 (ending_code x) 0 0 k
run_word (Ok (ran.Stopped k)) = answer_word 0 stopped_code 0 0 k
run_word (Err because) = refused_word because

-- A failure that a check names: the state field holds the start and the world field the kind of end, and the count is the number of lamps.
abbrev pub failed_word : FailedAnswer → ℕ
failed_word f = answer_word 0 (kind_number f.kind) f.start.0 f.end f.lamps

-- A check that does not accept.
abbrev pub error_word : CheckError → ℕ
error_word (check.Failed f) = failed_word f
error_word (check.Refused because) = refused_word because

-- If the plan is accepted, the count is the number of pairs.
abbrev pub check_word : Result ℕ CheckError → ℕ
check_word (Ok count) = answer_word 0 goal_code 0 0 count
check_word (Err error) = error_word error

-- The contract of the exported check: r is the number for an answer that the check may give, with the lent buffers before and after.
pub record CheckedWord (s : List ℕ) (r : ℕ) (before after : Lent) : Type 0 where
  pub answer : Result ℕ CheckError
  pub checked : Checked s answer before after
  pub as_number : r ≡ check_word answer

-- If no line fails, the count is the number of lamps up to which none does.
abbrev pub short_word : ShortAnswer → ℕ
short_word (Ok n) = answer_word 0 none_up_to_code 0 0 n.0
short_word (Err error) = error_word error

-- The contract of the exported short check: r is the number for an answer that it may give.
pub record CheckedUpToWord (s : List ℕ) (longest r : ℕ) (before after : Lent) : Type 0 where
  pub answer : ShortAnswer
  pub checked : CheckedUpTo s longest answer before after
  pub as_number : r ≡ short_word answer

-- A cabinet's state, with a code and the number of a refusal or 0.
abbrev pub cabinet_word : ℕ → ℕ → Cabinet → ℕ
cabinet_word number code m = answer_word number code m.state.0 0 m.lamps

-- The cabinet's first state.
abbrev pub begin_word : Answer Cabinet → ℕ
begin_word (Ok m) = cabinet_word 0 goal_code m
begin_word (Err because) = refused_word because

-- The state field holds the action, if the plan has not ended.
abbrev pub action_word : Answer (Option ℕ) → ℕ
action_word (Ok (Some a)) = answer_word 0 goal_code a 0 0
action_word (Ok None) = answer_word 0 ended_code 0 0 0
action_word (Err because) = refused_word because

-- A refused report also has the old state.
abbrev pub report_word : Result Cabinet ReportError → ℕ
report_word (Ok m) = cabinet_word 0 goal_code m
report_word (Err error) = cabinet_word (refusal_number error.refusal) refused_code error.state

-- If the log is impossible, the count is the place of the first entry with which it is.
abbrev pub replay_word : Result (Unit {0}) ReplayError → ℕ
replay_word (Ok _) = done_word
replay_word (Err (replay.ImpossibleAt place)) = answer_word 0 impossible_code 0 0 place
replay_word (Err (replay.Refused because)) = refused_word because

-- The contract of the exported replay: r is the number for an answer that the replay may give.
pub record ReplayedWord (s log : List ℕ) (r : ℕ) : Type 0 where
  pub answer : Result (Unit {0}) ReplayError
  pub replayed : Replayed s log answer
  pub as_number : r ≡ replay_word answer

-- The generator writes the cells to the lent part; the word says only whether the call is refused.
abbrev pub fill_word : Answer (Unit {0}) → ℕ
fill_word (Ok _) = done_word
fill_word (Err because) = refused_word because
