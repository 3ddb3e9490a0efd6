use Rattle.std.proofs.Common.{arith, length-set}
use Rattle.rule_worlds.proofs.WorldDigits.{count_positive, next_positive, decoded_more, decoded_done}
use Rattle.rule_worlds.proofs.world_values.Goals as goal

pub nonzero_div-weight : goal.nonzero_div-weight
nonzero_div-weight c = count_positive c.loop-i.invariant.digits (omega arith)

pub nonzero_div-values : goal.nonzero_div-values
nonzero_div-values c = next_positive c.loop-i.invariant.digits (omega arith)

pub nonzero_rem-rest : goal.nonzero_rem-rest
nonzero_rem-rest c = omega (arith, next_positive c.loop-i.invariant.digits (omega arith))

pub loop-i-preserved : goal.loop-i-preserved
loop-i-preserved c =
    record {
      digits = decoded_more c.loop-i.invariant.digits (omega arith) (omega arith);
      long = simp length-set c.loop-i.invariant.long;
    }

pub returns : goal.returns
returns c = decoded_done c.loop-i.invariant.digits (omega arith)
