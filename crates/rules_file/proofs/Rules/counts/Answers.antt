use Rattle.std.proofs.Common.{arith}
use Rattle.rules_file.proofs.RulesTested.{rules_right}
use Rattle.rules_file.proofs.Rules.counts.Goals as goal

pub fluent_bytes-requires : goal.fluent_bytes-requires
fluent_bytes-requires c =
    let counts_in = (rules_right _ _ c.args.self.now.right).counts_in in
    (omega arith, counts_in)
