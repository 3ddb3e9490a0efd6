use Rattle.rules_file.proofs.RuleBytes.{rule_in}
use Rattle.rules_file.proofs.RulesTested.{rules_right}
use Rattle.rules_file.proofs.Rules.rule.Goals as goal

pub rule_place-at-requires : goal.rule_place-at-requires
rule_place-at-requires c =
    let s = c.args.self.now in
    rule_in s.bytes.now c.args.i (rules_right _ _ s.right).counts_in c.requires
