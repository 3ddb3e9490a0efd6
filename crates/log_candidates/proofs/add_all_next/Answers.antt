use Rattle.std.proofs.Common.{rules}
use Rattle.log_candidates.proofs.NextWorlds.{at_world, gathering_more, gathering_end}
use Rattle.log_candidates.proofs.add_all_next.Goals as goal

pub add_next-sum-requires : goal.add_next-sum-requires
add_next-sum-requires c =
    search (rules, at_world)

pub loop-rest-preserved : goal.loop-rest-preserved
loop-rest-preserved c =
    search gathering_more

pub returns : goal.returns
returns c =
    search gathering_end
