-- What the run answers (01, "One run" and "Who can cause which number").
use Rattle.std.specs.Prelude.{List, ℕ}
use Rattle.lamp_line.specs.declared.WorldState.{WorldState}
use Rattle.lamp_line.specs.Tables.{Line}
use Rattle.lamp_line.specs.Refusals.{Answer, answer_by}
use Rattle.lamp_line.specs.Run.{Limited, within, stopped, run, limited}
use Rattle.job_layout.specs.JobTables.{tables_of}
use Rattle.line_refusals.specs.LineRefusals.{line_refusals}
use Rattle.line_run.specs.declared.Ran.{Ran}
use Rattle.line_run.specs.declared.Ran.TheVariants as answer

-- A run with a limit as the operation answers it.
abbrev pub run_answer_of : Limited → Ran
run_answer_of (within x k) = answer.Ended x k
run_answer_of (stopped limit) = answer.Stopped limit

-- From a start along a line, with a limit of steps: the first refusal that applies, or else the run.
unfoldable pub run_answer : List ℕ → WorldState → Line → ℕ → Answer Ran
run_answer s start line limit = answer_by (line_refusals s start line) (run_answer_of (limited limit (run (tables_of s) start line)))
