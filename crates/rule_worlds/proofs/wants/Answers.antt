use Rattle.std.proofs.Common.{rules, tests, not, ap, ◌∙◌}
use Rattle.std.proofs.lemmas.Iterator.{YieldsList-from_slice, YieldsList-from_zip}
use Rattle.std.proofs.lemmas.Iterator.Search.{any_from_yields_List}
use Rattle.fluent_rules.specs.CellRules.{unwanted}
use Rattle.rules_file.proofs.PairTests.{any_pair}
use Rattle.rule_worlds.proofs.wants.Goals as goal

pub returns : goal.returns
returns c =
    ap not
    (any_from_yields_List (λ pair. unwanted pair.0 pair.1) c.any.new.self _ _ c.any.ensures.ran
    (YieldsList-from_zip (YieldsList-from_slice c.args.wanted.now cc) (YieldsList-from_slice c.args.values.now cc))
    (λ x b q k. search (rules, tests))
    ∙ any_pair unwanted c.args.wanted.now c.args.values.now)
