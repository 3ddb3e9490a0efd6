use Rattle.std.proofs.Common.{rules, tests, ◌∙◌}
use Rattle.std.proofs.lemmas.Iterator.{YieldsList-from_slice, YieldsList-from_zip}
use Rattle.std.proofs.lemmas.Iterator.Search.{any_from_yields_List}
use Rattle.rules_file.specs.RulesRefusal.{value_wrong}
use Rattle.rules_file.proofs.PairTests.{any_pair}
use Rattle.rules_file.proofs.values_wrong.Goals as goal

pub returns : goal.returns
returns c =
    any_from_yields_List (λ pair. value_wrong pair.0 pair.1) c.any.new.self _ _ c.any.ensures.ran
    (YieldsList-from_zip (YieldsList-from_slice c.args.counts.now cc) (YieldsList-from_slice c.args.values.now cc))
    (λ x b q k. search (rules, tests))
    ∙ any_pair value_wrong c.args.counts.now c.args.values.now
