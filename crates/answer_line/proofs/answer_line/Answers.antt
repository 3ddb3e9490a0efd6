use Rattle.std.proofs.Common.{rules, Err, Result, ℕ, List, [], ◌∷◌, ◌++◌, length, ◌≡◌, subst, ◌∙◌, arith, take, length-append, length-take-le}
use Rattle.lamp_line.specs.Endings.{kind_number}
use Rattle.lamp_line.specs.Refusals.{refusal_number}
use Rattle.answer_line.specs.AnswerLine.{fails_text, accepted_text, refused_text, text_line, refused_line}
use Rattle.answer_line.specs.inner.Writing.{Wrote}
use Rattle.plan_check.specs.declared.CheckError.{CheckError}
use Rattle.plan_check.specs.declared.CheckError.TheVariants as error
use Rattle.plan_check.specs.CheckAnswers.{Lent, Checked}
use Rattle.answer_line.proofs.Writing.{length_line}
use Rattle.answer_line.proofs.PrintedRight.{zeros, zeros_large, accepted_printed, failed_printed, refused_printed, answer_in}
use Rattle.answer_line.proofs.answer_line.Goals as goal

-- What the check leaves of the three buffers, and what it says of the answer that it has told.
abbrev lent : List ℕ → List ℕ → List ℕ → Lent
lent line list words = record { line = line; list = list; words = words }

as_told :
    (file : List ℕ) (before after : Lent) {r r' : Result ℕ CheckError} → r ≡ r' → Checked file r before after → Checked file r' before after
as_told file before after e told = subst (λ (r : Result ℕ CheckError). Checked file r before after) e told

pub failed_line-requires : goal.failed_line-requires
failed_line-requires c =
    let lent_after = lent c.check_plan-answer.new.line c.check_plan-answer.new.list c.check_plan-answer.new.words in
    let told = as_told c.args.file.now zeros lent_after {r' = Err (error.Failed c.in-Err-Failed.failure)} (search rules) c.check_plan-answer.ensures in
    let within = (failed_printed c.args.file.now zeros lent_after zeros_large c.in-Err-Failed.failure told).1 in
    let size = c.check_plan-answer.auto.line ∙ zeros_large.line_size in
    (within, omega (arith, size), search rules)

pub returns-in-Ok : goal.returns-in-Ok
returns-in-Ok c =
    let lent_after = lent c.check_plan-answer.new.line c.check_plan-answer.new.list c.check_plan-answer.new.words in
    let count = c.in-Ok.count in
    let fits = length_line accepted_text (count ∷ []) in
    let told = as_told c.args.file.now zeros lent_after c.in-Ok.is c.check_plan-answer.ensures in
    answer_in c.args.file.now _ c.args.out.now _ _ c.word_and_number.ensures (omega (arith, fits))
    (accepted_printed c.args.file.now zeros lent_after zeros_large count told)

pub returns-in-Err-Failed : goal.returns-in-Err-Failed
returns-in-Err-Failed c =
    let lent_after = lent c.check_plan-answer.new.line c.check_plan-answer.new.list c.check_plan-answer.new.words in
    let failure = c.in-Err-Failed.failure in
    let line = lent_after.line in
    let told = as_told c.args.file.now zeros lent_after {r' = Err (error.Failed c.in-Err-Failed.failure)} (search rules) c.check_plan-answer.ensures in
    let (printed, within) = failed_printed c.args.file.now zeros lent_after zeros_large failure told in
    let kinds = take failure.lamps line in
    let rest = kinds ++ (failure.end ∷ []) in
    let fits = length_line fails_text (kind_number failure.kind ∷ failure.start.0 ∷ length kinds ∷ rest) in
    let few = length-take-le failure.lamps line within in
    answer_in c.args.file.now _ c.args.out.now _ _ c.failed_line.ensures (omega (arith, fits, length-append kinds (failure.end ∷ []), few, within)) printed

pub returns-in-Err-Refused : goal.returns-in-Err-Refused
returns-in-Err-Refused c =
    let lent_after = lent c.check_plan-answer.new.line c.check_plan-answer.new.list c.check_plan-answer.new.words in
    let because = c.in-Err-Refused.refusal in
    let out = c.args.out.now in
    let fits = length_line refused_text (refusal_number because ∷ []) in
    let wrote =
    subst (λ n. Wrote out 0 (text_line refused_text (n ∷ [])) c.word_and_number-in-Err-Refused.result c.word_and_number-in-Err-Refused.new.out)
    (c.from.ensures ∙ c.number.ensures) c.word_and_number-in-Err-Refused.ensures in
    let told = as_told c.args.file.now zeros lent_after {r' = Err (error.Refused c.in-Err-Refused.refusal)} (search rules) c.check_plan-answer.ensures in
    answer_in c.args.file.now (refused_line because) out _ _ wrote (omega (arith, fits))
    (refused_printed c.args.file.now zeros lent_after zeros_large because told)
