use Rattle.world_cells.proofs.RulesApplied.{AppliedTo}
use Rattle.world_cells.proofs.fill_world.Given as goal

abbrev pub invariant-loop-i : goal.invariant-loop-i
invariant-loop-i l = AppliedTo l.fn.rules.bytes.now l.fn.rules.sizes l.fn.world.0 l.i l.initial.part l.part
