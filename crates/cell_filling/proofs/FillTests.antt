-- The generator's answer, test by test.
use Rattle.std.proofs.Common.{Ok, Err, true, false, List, ◌≡◌, ℕ, eq-eqb, ne_eqb}
use Rattle.lamp_line.specs.Refusals.{refusal, answer_by}
use Rattle.job_layout.specs.declared.Sizes.{Sizes}
use Rattle.fluent_rules.specs.CellsPart.{part_length}
use Rattle.rules_file.specs.RulesRefusal.{rules_wrong}
use Rattle.cell_filling.specs.FillAnswers.{fill_answer}
use Rattle.lamp_line.specs.declared.Refusal.TheVariants as refused

module _ (s : List ℕ) (n : Sizes) (size : ℕ) where
  pub rules_refused : rules_wrong s n ≡ true → Err refused.Rules ≡ fill_answer s n size
  unfolding fill_answer answer_by refusal
  rules_refused e = rw e

  module _ (right : rules_wrong s n ≡ false) where
    pub size_refused : (size ≡ part_length n → ⊥) → Err refused.CellsLength ≡ fill_answer s n size
    unfolding fill_answer answer_by refusal
    size_refused other = rw (right, ne_eqb size (part_length n) other)

    pub not_refused : size ≡ part_length n → Ok tt ≡ fill_answer s n size
    unfolding fill_answer answer_by refusal
    not_refused same = rw (right, eq-eqb size (part_length n) same)
