-- The short check's answer, and what it leaves in the lent buffers (02, (b)).
use Rattle.std.specs.Prelude.{◌≡◌, List, ℕ, ◌≤◌, Ok, Err}
use Rattle.lamp_line.specs.Tables.{Tables}
use Rattle.lamp_line.specs.ShortCheck.{NoneUpTo}
use Rattle.job_layout.specs.JobTables.{tables_of}
use Rattle.line_finding.specs.declared.Failure.{Failure}
use Rattle.plan_check.specs.declared.CheckError.TheVariants as error
use Rattle.plan_check.specs.declared.NoneUpTo.{NoneUpTo as NoneAnswer}
use Rattle.plan_check.specs.CheckAnswers.{FailedRight, CheckAnswer, Lent, check_refusal, CheckedBy}

-- What the short check answers: none up to a number of lamps, or the failure or refusal. It has no Accepted: what its Ok holds is of a type of
-- its own, which no answer of the full check holds, so that none cannot be taken for Accepted.
abbrev pub ShortAnswer : Type 0
ShortAnswer = CheckAnswer NoneAnswer

-- None up to this many lamps.
abbrev pub none_up_to : ℕ → NoneAnswer
none_up_to n = record { 0 = n }

-- The failure is the one that the full check names, with its line in the buffer, and the line has at most `longest` lamps.
pub record FailedUpTo (t : Tables) (longest : ℕ) (f : Failure) (line line' : List ℕ) : Type 0 where
  pub failed_right : FailedRight t f line line'
  pub up_to : f.lamps ≤ longest

-- No line of up to that many lamps fails, and the line buffer is as before. The answer holds the bound that was handed in.
pub record NoneRight (t : Tables) (longest n : ℕ) (line line' : List ℕ) : Type 0 where
  pub bound : n ≡ longest
  pub none : NoneUpTo t longest
  pub unchanged : line' ≡ line

-- A right answer on tables that are not refused, for the line buffer before and after.
unfoldable pub AnsweredUpTo : Tables → ℕ → ShortAnswer → List ℕ → List ℕ → Type 0
AnsweredUpTo t longest (Ok n) line line' = NoneRight t longest n.0 line line'
AnsweredUpTo t longest (Err (error.Failed f)) line line' = FailedUpTo t longest f line line'
AnsweredUpTo t longest (Err (error.Refused because)) line line' = ⊥

-- The contract of the short check, for the file's bytes, the bound, the answer, and the lent buffers before and after. Its refusals are
-- those of the full check, whatever the bound is.
abbrev pub CheckedUpTo : List ℕ → ℕ → ShortAnswer → Lent → Lent → Type 0
CheckedUpTo s longest r before after =
    CheckedBy (AnsweredUpTo (tables_of s) longest) (check_refusal s before) r before after
