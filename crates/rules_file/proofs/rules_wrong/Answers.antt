use Rattle.std.proofs.Common.{arith, sym, ◌∙◌}
use Rattle.rules_file.proofs.RulesTested.{wrong_sizes, wrong_fluents, wrong_empty, wrong_short, wrong_product, wrong_end, rules_left}
use Rattle.rules_file.proofs.rules_wrong.Goals as goal

pub returns-then-ranges_wrong : goal.returns-then-ranges_wrong
returns-then-ranges_wrong c = wrong_sizes _ _ (sym c.ranges_wrong.ensures ∙ c.if-ranges_wrong.true)

pub returns-then-size-eq0 : goal.returns-then-size-eq0
returns-then-size-eq0 c = wrong_empty _ _ c.if-size-eq0.true

pub returns-then-m : goal.returns-then-m
returns-then-m c = wrong_fluents _ _ c.if-m.true

pub returns-then-size-start : goal.returns-then-size-start
returns-then-size-start c = wrong_short _ _ c.if-size-start.true

pub returns-then-world_count-sizes : goal.returns-then-world_count-sizes
returns-then-world_count-sizes c = wrong_product _ _ (λ e. c.if-world_count-sizes.true cc)

pub returns-then-size-start-ne0 : goal.returns-then-size-start-ne0
returns-then-size-start-ne0 c = wrong_end _ _ (λ e. c.if-size-start-ne0.true cc)

pub returns : goal.returns
returns c =
    c.any_rule_wrong.ensures
    ∙ rules_left c.args.rules.now c.args.sizes (sym c.ranges_wrong.ensures ∙ c.if-ranges_wrong.false) c.if-m.false (omega arith) (cc) cc
