use Rattle.std.proofs.Common.{arith}
use Rattle.log_candidates.proofs.Holding.{staying_more}
use Rattle.log_candidates.proofs.Candidates.stay.Goals as goal

pub loop-column-preserved : goal.loop-column-preserved
loop-column-preserved c =
    staying_more c.loop-column.invariant (omega arith) c.add_all_next.ensures
