use Rattle.rules_file.specs.RulesRefusal.{rule_wrong}
use Rattle.rules_file.proofs.rule_wrong.Goals as goal

pub returns : goal.returns
unfolding rule_wrong
returns c = cc
