-- Laws of `answer_by`: what an operation answers, refusal by refusal. The proofs of the operations test their refusals by these.
use Rattle.std.proofs.Common.{◌≡◌, refl, Bool, true, false, cond, List, [], ◌∷◌, ◌++◌, ℕ, None, Ok, Err, arith}
use Rattle.lamp_line.specs.declared.Refusal.{Refusal}
use Rattle.lamp_line.specs.Refusals.{Rule, ◌when◌, refusal, or_refused, answer_by}

-- If no refusal of two lists together applies, none of either list applies.
pub none_of_both :
    (rules more : List Rule) → refusal (rules ++ more) ≡ None → (refusal rules ≡ None) × (refusal more ≡ None)
unfolding refusal
none_of_both [] more e = (refl, e)
none_of_both ((because when true) ∷ rules) more e = absurd (let z : ◌≡◌ {A = ℕ} 0 1 = cc in omega arith)
none_of_both ((because when false) ∷ rules) more e = none_of_both rules more e

-- If no refusal of a list applies, the first does not, and none of the others does.
pub first_not_applied :
    (because : Refusal) (applies : Bool) (rules : List Rule) → refusal ((because when applies) ∷ rules) ≡ None →
    (applies ≡ false) × (refusal rules ≡ None)
unfolding refusal
first_not_applied because true rules e = absurd (let z : ◌≡◌ {A = ℕ} 0 1 = cc in omega arith)
first_not_applied because false rules e = (refl, e)

-- Where a list's refusals rule out those of a second list, these add nothing to it.
pub no_more : (rules more : List Rule) → (refusal rules ≡ None → refusal more ≡ None) → refusal (rules ++ more) ≡ refusal rules
unfolding refusal
no_more [] more none = none refl
no_more ((because when true) ∷ rules) more none = refl
no_more ((because when false) ∷ rules) more none = no_more rules more none

module _ {A : Type 0} where
  -- A refusal that applies is answered; one that does not leaves the answer to the refusals after it.
  pub by_refusal : (because : Refusal) (applies : Bool) (rules : List Rule) (answer : A) →
      answer_by ((because when applies) ∷ rules) answer ≡ cond applies (Err because) (answer_by rules answer)
  unfolding answer_by refusal
  by_refusal because true rules answer = refl
  by_refusal because false rules answer = refl

  -- Without refusals the operation gives its own answer.
  pub by_no_refusal : (answer : A) → answer_by [] answer ≡ Ok answer
  unfolding answer_by refusal
  by_no_refusal answer = refl

  -- The refusals of the first list decide; if none applies, those of the second do.
  pub by_refusals_before : (rules more : List Rule) (answer : A) →
      answer_by (rules ++ more) answer ≡ or_refused (refusal rules) (answer_by more answer)
  unfolding answer_by refusal
  by_refusals_before [] more answer = refl
  by_refusals_before ((because when true) ∷ rules) more answer = refl
  by_refusals_before ((because when false) ∷ rules) more answer = by_refusals_before rules more answer
