-- For the function that both checks call: what it answers on the lines of up to a number of lamps.
use Rattle.std.specs.Prelude.{◌≡◌, List, ℕ, ◌≤◌, Ok, Err}
use Rattle.lamp_line.specs.Tables.{Tables}
use Rattle.lamp_line.specs.Check.{Accepts}
use Rattle.lamp_line.specs.ShortCheck.{NoneUpTo}
use Rattle.job_layout.specs.JobTables.{tables_of}
use Rattle.plan_check.specs.declared.CheckError.TheVariants as error
use Rattle.plan_check.specs.CheckAnswers.{CheckAnswer, Lent, check_refusal, CheckedBy}
use Rattle.plan_check.specs.ShortAnswers.{FailedUpTo}

-- No line of up to `longest` lamps fails, and the line buffer is as before. No job has more than 4,160 pairs, and no line that the search
-- tries has more lamps than that: if it was allowed so many, the plan is accepted with this count.
pub record NoneFound (t : Tables) (longest count : ℕ) (line line' : List ℕ) : Type 0 where
  pub none : NoneUpTo t longest
  pub all : 4160 ≤ longest → Accepts t count
  pub unchanged : line' ≡ line

-- The answer is right for the lines of up to `longest` lamps.
unfoldable pub OutcomeRight : Tables → ℕ → CheckAnswer ℕ → List ℕ → List ℕ → Type 0
OutcomeRight t longest (Ok count) line line' = NoneFound t longest count line line'
OutcomeRight t longest (Err (error.Failed f)) line line' = FailedUpTo t longest f line line'
OutcomeRight t longest (Err (error.Refused because)) line line' = ⊥

-- The contract of the function that both checks call.
unfoldable pub CheckedLines : List ℕ → ℕ → CheckAnswer ℕ → Lent → Lent → Type 0
CheckedLines s longest r before after = CheckedBy (OutcomeRight (tables_of s) longest) (check_refusal s before) r before after
