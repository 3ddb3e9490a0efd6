use Rattle.std.proofs.Common.{arith}
use Rattle.rules_file.proofs.CountsProduct.{multiplied_more, multiplied_done}
use Rattle.rules_file.proofs.world_count.Goals as goal

pub loop-count-preserved : goal.loop-count-preserved
loop-count-preserved c = multiplied_more c.loop-count.invariant (omega arith) (omega arith)

pub returns : goal.returns
returns c = multiplied_done c.loop-count.invariant (omega arith)
