use Rattle.std.proofs.Common.{rules, tests, Bool, ℕ, refl, arith, ◌∙◌}
use Rattle.std.proofs.lemmas.Iterator.{YieldsList-from_range}
use Rattle.std.proofs.lemmas.Iterator.Search.{any_from_yields_List}
use Rattle.rules_file.specs.RulesFile.{value_counts, rule_count, rule_at}
use Rattle.rules_file.specs.RulesRefusal.{rule_wrong}
use Rattle.lamp_line.proofs.Scan.{any_below}
use Rattle.rules_file.proofs.any_rule_wrong.Goals as goal

pub returns : goal.returns
returns c =
    let s = c.args.rules.now in
    let wrong : ℕ → Bool = λ i. rule_wrong c.args.sizes (value_counts s) (rule_at s i) in
    any_from_yields_List wrong _ _ _ c.any.ensures.ran
    (YieldsList-from_range 0 (rule_count s) (rule_count s) (rw c.rule_count.ensures refl) (omega arith))
    (λ x b q k. search (rules, tests))
    ∙ any_below wrong (rule_count s)
