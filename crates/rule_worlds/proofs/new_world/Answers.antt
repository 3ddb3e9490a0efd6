use Rattle.std.proofs.Common.{arith, refl}
use Rattle.fluent_rules.proofs.NewWorlds.{values_length}
use Rattle.rule_worlds.proofs.NewNumber.{new_world_more, new_world_fits, numbered_done}
use Rattle.rule_worlds.proofs.new_world.Goals as goal

pub overflow_mul-world : goal.overflow_mul-world
overflow_mul-world c =
    let a = c.args in
    omega (arith, new_world_fits a.counts.now a.new.now a.values.now c.requires c.loop-i.invariant (omega arith) refl)

pub bounds-values-i : goal.bounds-values-i
bounds-values-i c = omega (arith, values_length c.args.counts.now c.args.values.now c.requires.3)

pub overflow_add-world : goal.overflow_add-world
overflow_add-world c =
    let a = c.args in
    omega (arith, new_world_fits a.counts.now a.new.now a.values.now c.requires c.loop-i.invariant (omega arith) c.new_value.ensures)

pub loop-i-preserved : goal.loop-i-preserved
loop-i-preserved c =
    let a = c.args in
    new_world_more a.counts.now a.new.now a.values.now c.requires c.loop-i.invariant (omega arith) c.new_value.ensures

pub returns : goal.returns
returns c = numbered_done c.loop-i.invariant (omega arith)
