use Rattle.rules_file.proofs.RulesTested.{rules_right}
use Rattle.rules_file.proofs.Rules.count.Goals as goal

pub rule_count-requires : goal.rule_count-requires
rule_count-requires c = (rules_right _ _ c.args.self.now.right).counts_in
