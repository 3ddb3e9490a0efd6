-- The check's answer says what to print, if the buffers that it is lent are large enough for every job.
use Rattle.std.proofs.Common.{Option, None, Some, Result, Ok, Err, Bool, true, false, ◌≡◌, refl, sym, ap, subst, ◌∙◌, List, [], ◌∷◌, ◌++◌, ℕ, ◌+◌, ◌*◌, ◌≤◌, arith, le-ltb, length, drop, replicate, length-append, take_at, drop_at}
use Rattle.lamp_line.proofs.Products.{product_le}
use lib.ListN.{length-replicate}
use lib.Seq.{sets-eq}
use Rattle.lamp_line.specs.declared.Refusal.{Refusal}
use Rattle.lamp_line.specs.declared.Refusal.TheVariants as refused
use Rattle.lamp_line.specs.Refusals.{Rule, ◌when◌, refusal}
use Rattle.lamp_line.specs.Check.{accepted, failed}
use Rattle.lamp_line.proofs.Answering.{no_more}
use Rattle.job_layout.specs.Layout.{head}
use Rattle.job_layout.specs.JobTables.{tables_of}
use Rattle.job_file.specs.Reading.{file_refusals}
use Rattle.plan_check.specs.CheckAnswers.{buffer_short, list_short, check_refusals, failed_line, AnsweredRight, Lent, CheckedBy, Checked}
use Rattle.job_file.proofs.Opening.{opened_unrefused}
use Rattle.job_file.proofs.WellFormed.{sound}
use Rattle.plan_check.specs.declared.CheckError.{CheckError}
use Rattle.plan_check.specs.declared.CheckError.TheVariants as error
use Rattle.plan_check.specs.declared.Failure.{Failure}
use Rattle.answer_line.specs.AnswerLine.{refused_line, verdict_line, PrintedBy, Printed, AnswerIn}
use Rattle.answer_line.specs.inner.Writing.{Wrote}

-- ---- the buffers are large enough

own_refusals : (s : List ℕ) → refusal (file_refusals s) ≡ None →
    refusal ((refused.LineBuffer when buffer_short (tables_of s) 4097) ∷ (refused.WorkingSpace when list_short (tables_of s) 4160 65) ∷ []) ≡ None
unfolding refusal
own_refusals s e =
    let wf = (sound s (head s) (opened_unrefused s [] e)).well_formed in
    let few = product_le 64 64 (tables_of s).states (tables_of s).worlds wf.formed.states_range wf.formed.worlds_range.1 in
    rw (
      le-ltb 4097 ((tables_of s).states * (tables_of s).worlds + 1) (omega (arith, few)),
      le-ltb 4160 (((tables_of s).states + 1) * (tables_of s).worlds) (omega (arith, few, wf.formed.worlds_range.1)),
    ) refl

large_enough : (s : List ℕ) → refusal (check_refusals s 4097 4160 65) ≡ refusal (file_refusals s)
large_enough s = no_more (file_refusals s) _ (own_refusals s)

-- The lent buffers have these sizes.
pub record Large (lent : Lent) : Type 0 where
  pub line_size : length lent.line ≡ 4097
  pub list_size : length lent.list ≡ 4160
  pub words_size : length lent.words ≡ 65

-- Buffers of zeros, as the program lends them.
abbrev pub zeros : Lent
zeros = record { line = replicate 4097 0; list = replicate 4160 0; words = replicate 65 0 }

-- They have these sizes.
pub zeros_large : Large zeros
zeros_large =
    record {
      line_size = length-replicate {A = ℕ} 4097 0;
      list_size = length-replicate {A = ℕ} 4160 0;
      words_size = length-replicate {A = ℕ} 65 0;
    }

-- ---- each answer

module _ (s : List ℕ) (before after : Lent) (large : Large before) where
  by_file : (r : Result ℕ CheckError) → Checked s r before after → CheckedBy (AnsweredRight (tables_of s)) (refusal (file_refusals s)) r before after
  by_file r checked =
      let by_sizes : refusal (check_refusals s (length before.line) (length before.list) (length before.words)) ≡ refusal (file_refusals s) =
      rw (large.line_size, large.list_size, large.words_size) (large_enough s) in
      subst (λ (o : Option Refusal). CheckedBy (AnsweredRight (tables_of s)) o r before after) by_sizes checked

  -- Where the plan is accepted, its line is to be printed.
  pub accepted_printed : (count : ℕ) → Checked s (Ok count) before after → Printed s (verdict_line (accepted count))
  unfolding AnsweredRight
  accepted_printed count checked = by (refusal (file_refusals s)) (by_file _ checked)
    where
      by : (o : Option Refusal) → CheckedBy (AnsweredRight (tables_of s)) o (Ok count) before after →
          PrintedBy o (tables_of s) (verdict_line (accepted count))
      by None (right, same) = (accepted count, right, refl)
      by (Some other) (e, same) = absurd (let z : ◌≡◌ {A = ℕ} 0 1 = cc in omega arith)

  -- Where a line fails, the line to be printed has the lamps that are in the buffer.
  pub failed_printed : (f : Failure) → Checked s (Err (error.Failed f)) before after →
      Printed s (verdict_line (failed f.kind f.start (failed_line f after.line))) × (f.lamps ≤ length after.line)
  unfolding AnsweredRight
  failed_printed f checked = by (refusal (file_refusals s)) (by_file _ checked)
    where
      by : (o : Option Refusal) → CheckedBy (AnsweredRight (tables_of s)) o (Err (error.Failed f)) before after →
          PrintedBy o (tables_of s) (verdict_line (failed f.kind f.start (failed_line f after.line)))
          × (f.lamps ≤ length after.line)
      by None right = ((failed f.kind f.start (failed_line f after.line), right.right, refl), right.within)
      by (Some other) (e, same) = absurd (let z : ◌≡◌ {A = ℕ} 0 1 = cc in omega arith)

  -- Where the call is refused, it is for the file's refusal, and its line is to be printed.
  pub refused_printed : (because : Refusal) → Checked s (Err (error.Refused because)) before after → Printed s (refused_line because)
  unfolding AnsweredRight
  refused_printed because checked = by (refusal (file_refusals s)) (by_file _ checked)
    where
      by : (o : Option Refusal) → CheckedBy (AnsweredRight (tables_of s)) o (Err (error.Refused because)) before after →
          PrintedBy o (tables_of s) (refused_line because)
      by None right = absurd right
      by (Some other) (e, same) = let given : because ≡ other = cc in ap refused_line given

-- ---- the front of the buffer

-- The text that is to be printed, written from the buffer's front on, and fitting, is the answer.
pub answer_in : (s text before : List ℕ) (r : ℕ) (after : List ℕ) → Wrote before 0 text r after → length text ≤ length before →
    Printed s text → AnswerIn s r before after
answer_in s text before r after wrote fits printed =
    let whole : 0 + length text ≡ length text = omega arith in
    let is : after ≡ text ++ drop (length text) before = wrote.content ∙ sets-eq text before 0 (omega (arith, fits)) ∙ ap (λ n. text ++ drop n before) whole in
    let size : length text ≡ r = omega (arith, wrote.place) in
    record {
      printed = rw is (subst (Printed s) (sym (take_at text (drop (length text) before) r size)) printed);
      within = rw is (let both = length-append text (drop (length text) before) in omega (arith, size, both));
      others = rw is (drop_at text (drop (length text) before) r size ∙ ap (λ n. drop n before) size);
    }
