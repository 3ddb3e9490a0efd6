-- What each check makes of the answer on the lines that it looks at is the answer that its contract asks for.
use mathlib.Core.Path.{refl, ap}
use Rattle.std.specs.Prelude.{Option, None, Some, Ok, Err}
use mathlib.Core.List.{List}
use Prim.Native.Nat.{ℕ, ◌≤◌}
use Rattle.lamp_line.specs.Tables.{Tables}
use Rattle.lamp_line.specs.declared.Refusal.{Refusal}
use Rattle.lamp_line.specs.Check.{Right}
use Rattle.job_layout.specs.JobTables.{tables_of}
use Rattle.plan_check.specs.declared.CheckError.TheVariants as error
use Rattle.plan_check.specs.CheckAnswers.{CheckAnswer, AnsweredRight, Lent, check_refusal, CheckedBy, Checked}
use Rattle.plan_check.specs.ShortAnswers.{ShortAnswer, none_up_to, AnsweredUpTo, CheckedUpTo}
use Rattle.plan_check.specs.inner.Outcomes.{OutcomeRight, CheckedLines}

-- The short check's answer: its bound, if no line fails.
abbrev pub short_answer : ℕ → CheckAnswer ℕ → ShortAnswer
short_answer longest (Ok count) = Ok (none_up_to longest)
short_answer longest (Err e) = Err e

module _ (t : Tables) (longest : ℕ) where
  -- An answer that is right for so many lamps that the search is not bounded is the full check's.
  full_right : 4160 ≤ longest → (r : CheckAnswer ℕ) (line line' : List ℕ) → OutcomeRight t longest r line line' → AnsweredRight t r line line'
  unfolding OutcomeRight AnsweredRight Right
  full_right far (Ok count) line line' h = (h.all far, h.unchanged)
  full_right far (Err (error.Failed f)) line line' h = h.failed_right
  full_right far (Err (error.Refused because)) line line' h = h

  -- With the bound for the count, it is the short check's for any number of lamps.
  short_right :
      (r : CheckAnswer ℕ) (line line' : List ℕ) → OutcomeRight t longest r line line' → AnsweredUpTo t longest (short_answer longest r) line line'
  unfolding OutcomeRight AnsweredUpTo
  short_right (Ok count) line line' h = record { bound = refl; none = h.none; unchanged = h.unchanged }
  short_right (Err (error.Failed f)) line line' h = h
  short_right (Err (error.Refused because)) line line' h = h

module _ (s : List ℕ) (longest : ℕ) (r : CheckAnswer ℕ) (before after : Lent) (checked : CheckedLines s longest r before after) where
  -- The contract of the full check.
  pub full_checked : 4160 ≤ longest → Checked s r before after
  unfolding CheckedLines
  full_checked far = by (check_refusal s before) checked
    where
      by :
          (o : Option Refusal) → CheckedBy (OutcomeRight (tables_of s) longest) o r before after →
          CheckedBy (AnsweredRight (tables_of s)) o r before after
      by (Some because) h = h
      by None h = full_right (tables_of s) longest far r before.line after.line h

  -- The contract of the short check.
  pub short_checked : CheckedUpTo s longest (short_answer longest r) before after
  unfolding CheckedLines
  short_checked = by (check_refusal s before) checked
    where
      by :
          (o : Option Refusal) → CheckedBy (OutcomeRight (tables_of s) longest) o r before after →
          CheckedBy (AnsweredUpTo (tables_of s) longest) o (short_answer longest r) before after
      by (Some because) h = (ap (short_answer longest) h.0, h.1)
      by None h = short_right (tables_of s) longest r before.line after.line h
