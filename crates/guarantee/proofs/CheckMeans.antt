-- What an answer of a check says: the file is not refused, and the plan is accepted, or has this counterexample, or has none up to a number
-- of lamps.
use Rattle.std.proofs.Common.{◌≡◌, refl, List, ℕ, Option, None, Some, Ok, Err}
use Rattle.lamp_line.specs.declared.Refusal.{Refusal}
use Rattle.lamp_line.specs.Check.{Accepts, Counterexample, Right}
use Rattle.lamp_line.specs.ShortCheck.{NoneUpTo}
use Rattle.job_layout.specs.Layout.{head}
use Rattle.job_layout.specs.JobTables.{tables_of}
use Rattle.job_file.specs.Reading.{Opened}
use Rattle.job_file.proofs.Opening.{opened_unrefused}
use Rattle.line_finding.specs.declared.Failure.{Failure as FailedAnswer}
use Rattle.plan_check.specs.declared.CheckError.TheVariants as error
use Rattle.plan_check.specs.CheckAnswers.{failed_line, CheckAnswer, AnsweredRight, Lent, CheckedBy, check_refusal, Checked}
use Rattle.plan_check.specs.ShortAnswers.{none_up_to, AnsweredUpTo, CheckedUpTo}

-- The answer is no refusal.
abbrev NotRefused : {A : Type 0} → CheckAnswer A → Type 0
NotRefused (Err (error.Refused because)) = ⊥
NotRefused other = Unit {0}

module _ (s : List ℕ) (before after : Lent) where
  -- An answer that is no refusal is right, and the file is not refused.
  not_refused_right :
      {A : Type 0} (IsRight : CheckAnswer A → List ℕ → List ℕ → Type 0) (r : CheckAnswer A) → NotRefused r →
      CheckedBy IsRight (check_refusal s before) r before after → Opened s (head s) × IsRight r before.line after.line
  not_refused_right IsRight r not_refused = by (check_refusal s before) refl
    where
      by :
          (o : Option Refusal) → check_refusal s before ≡ o → CheckedBy IsRight o r before after →
          Opened s (head s) × IsRight r before.line after.line
      by None e right = (opened_unrefused s _ e, right)
      by (Some because) e (is, same) = absurd (rw is at not_refused)

  -- Accepted: the plan is correct, and this is its number of pairs.
  pub accepted_means : (count : ℕ) → Checked s (Ok count) before after → Opened s (head s) × Accepts (tables_of s) count
  unfolding AnsweredRight Right
  accepted_means count checked =
      let (opened, (accepts, same)) = not_refused_right (AnsweredRight (tables_of s)) (Ok count) tt checked in
      (opened, accepts)

  -- Failed: the line at the front of the buffer is a counterexample.
  pub failed_means :
      (f : FailedAnswer) → Checked s (Err (error.Failed f)) before after →
      Opened s (head s) × Counterexample (tables_of s) f.kind f.start (failed_line f after.line)
  unfolding AnsweredRight Right
  failed_means f checked =
      let (opened, right) = not_refused_right (AnsweredRight (tables_of s)) (Err (error.Failed f)) tt checked in
      (opened, right.right)

  -- None up to a number of lamps: no line of up to that many fails.
  pub none_means :
      (longest n : ℕ) → CheckedUpTo s longest (Ok (none_up_to n)) before after → Opened s (head s) × NoneUpTo (tables_of s) longest
  unfolding AnsweredUpTo
  none_means longest n checked =
      let (opened, right) = not_refused_right (AnsweredUpTo (tables_of s) longest) (Ok (none_up_to n)) tt checked in
      (opened, right.none)
