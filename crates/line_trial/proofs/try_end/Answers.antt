use mathlib.Core.Path.{◌∙◌}
use native.Mathlib.Omega.{arith}
use Rattle.line_trial.proofs.TryingEnds.{bit_in_words}
use Rattle.line_trial.proofs.TryingEnds.{tries_met, tries_failing, tries_ending, tries_succeeding, tries_on}
use Rattle.line_trial.proofs.try_end.Goals as goal

pub is_met-requires : goal.is_met-requires
is_met-requires c =
    omega (arith, c.pair_number.ensures, bit_in_words c.loop-pair.invariant.0)

pub returns-then-is_met : goal.returns-then-is_met
returns-then-is_met c =
    tries_met c.loop-pair.invariant.0 c.pair_number.ensures c.is_met.ensures c.if-is_met.true

pub returns-in-Fails : goal.returns-in-Fails
returns-in-Fails c =
    tries_failing c.loop-pair.invariant.0 c.pair_number.ensures c.is_met.ensures c.if-is_met.false c.fate_at-fate.ensures
    c.in-Fails.is

pub returns-then-column-end : goal.returns-then-column-end
returns-then-column-end c =
    tries_ending c.loop-pair.invariant.0 c.pair_number.ensures c.is_met.ensures c.if-is_met.false c.fate_at-fate.ensures
    c.in_default-fate.not-Fails c.if-column-end.true

pub returns-in_default-fate-2 : goal.returns-in_default-fate-2
returns-in_default-fate-2 c =
    tries_succeeding c.loop-pair.invariant.0 c.fate_at-fate.ensures c.if-column-end.false c.in_default-fate.not-Fails c.in_default-fate-2.not-Arrives

pub loop-pair-preserved : goal.loop-pair-preserved
loop-pair-preserved c =
    let o = c.loop-pair.invariant in
    (tries_on o.0 c.fate_at-fate.ensures c.if-column-end.false c.in-Arrives.is, c.fate_at-fate.auto.memory ∙ o.1)
