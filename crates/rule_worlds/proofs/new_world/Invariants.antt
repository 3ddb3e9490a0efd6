use Rattle.fluent_rules.specs.CellRules.{new_values}
use Rattle.rule_worlds.proofs.NewNumber.{Numbered}
use Rattle.rule_worlds.proofs.new_world.Given as goal

abbrev pub invariant-loop-i : goal.invariant-loop-i
invariant-loop-i l = Numbered l.fn.counts (new_values l.fn.new l.fn.values) l.i l.world
