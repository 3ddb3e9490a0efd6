-- What the reader's answer means for any operation on the file: if the reader refuses, the operation refuses for the same reason;
-- if not, the operation's own refusals decide.
use Rattle.std.proofs.Common.{◌≡◌, refl, sym, ap, ◌∙◌, List, ◌++◌, ℕ, Option, None, Some, Ok, Err, arith}
use Rattle.lamp_line.specs.declared.Refusal.{Refusal}
use Rattle.lamp_line.specs.Refusals.{Rule, refusal, or_refused, answer_by}
use Rattle.lamp_line.proofs.Answering.{none_of_both, by_refusals_before}
use Rattle.job_layout.specs.declared.Job.{Job}
use Rattle.job_layout.specs.Layout.{head}
use Rattle.job_file.specs.Reading.{file_refusals, reading_of, Opened}

-- Where no refusal of an operation applies, the file is not refused.
pub opened_unrefused : (s : List ℕ) (more : List Rule) → refusal (file_refusals s ++ more) ≡ None → Opened s (head s)
unfolding reading_of answer_by
opened_unrefused s more e = rw (none_of_both (file_refusals s) more e).0

module _ {A : Type 0} (s : List ℕ) (more : List Rule) (answer : A) where
  -- The reader refuses the file.
  pub file_refused : (because : Refusal) → reading_of s ≡ Err because → Err because ≡ answer_by (file_refusals s ++ more) answer
  unfolding reading_of answer_by
  file_refused because e =
      by (refusal (file_refusals s)) e ∙ sym (by_refusals_before (file_refusals s) more answer)
    where
      by : (o : Option Refusal) → or_refused o (Ok (head s)) ≡ Err because → Err because ≡ or_refused o (answer_by more answer)
      by None e = absurd (let z : ◌≡◌ {A = ℕ} 0 1 = cc in omega arith)
      by (Some other) e = let same : other ≡ because = cc in ap Err (sym same)

  -- The reader does not refuse the file.
  pub file_opened : (j : Job) → Opened s j → answer_by (file_refusals s ++ more) answer ≡ answer_by more answer
  unfolding reading_of answer_by
  file_opened j e = by_refusals_before (file_refusals s) more answer ∙ by (refusal (file_refusals s)) e
    where
      by : (o : Option Refusal) → or_refused o (Ok (head s)) ≡ Ok j → or_refused o (answer_by more answer) ≡ answer_by more answer
      by None e = refl
      by (Some because) e = absurd (let z : ◌≡◌ {A = ℕ} 0 1 = cc in omega arith)

-- The first refusal, told by the answer of an operation that answers nothing else.
first_refusal : (rules : List Rule) (o : Option Refusal) → answer_by rules tt ≡ or_refused {A = Unit {0}} o (Ok tt) → refusal rules ≡ o
unfolding answer_by
first_refusal rules = by (refusal rules)
  where
    by : (o o' : Option Refusal) → or_refused {A = Unit {0}} o (Ok tt) ≡ or_refused o' (Ok tt) → o ≡ o'
    by None None e = refl
    by None (Some because) e = cc
    by (Some because) None e = cc
    by (Some because) (Some other) e = let same : because ≡ other = cc in ap Some same

module _ (s : List ℕ) (more : List Rule) where
  -- Where the reader refuses the file, its refusal is the first.
  pub first_of_refused : {because : Refusal} → reading_of s ≡ Err because → refusal (file_refusals s ++ more) ≡ Some because
  first_of_refused {because} e = first_refusal (file_refusals s ++ more) (Some because) (sym (file_refused s more tt because e))

  -- Where it does not, the first is that of the operation's own.
  pub first_of_opened : {j : Job} → Opened s j → refusal (file_refusals s ++ more) ≡ refusal more
  unfolding answer_by
  first_of_opened {j} opened = first_refusal (file_refusals s ++ more) (refusal more) (file_opened s more tt j opened)
