use Rattle.std.proofs.Common.{rules}
use Rattle.log_replay.proofs.ReplayLoop.{replaying_start, replaying_end, entry_in_range, replaying_stuck, replaying_more}
use Rattle.log_replay.proofs.replay_in_job.Goals as goal

pub loop-i-init : goal.loop-i-init
loop-i-init c =
    replaying_start c.args.job.now.opened c.requires.1 c.first-candidates.ensures

pub follow_entry-requires : goal.follow_entry-requires
follow_entry-requires c =
    search (rules, entry_in_range)

pub returns-in_default : goal.returns-in_default
returns-in_default c =
    search replaying_stuck

pub loop-i-preserved : goal.loop-i-preserved
loop-i-preserved c =
    replaying_more c.loop-i.invariant c.as_chunks.ensures.front (search rules) c.entry_of.ensures c.follow_entry.ensures c.in-Some.is

pub returns : goal.returns
returns c =
    search replaying_end
