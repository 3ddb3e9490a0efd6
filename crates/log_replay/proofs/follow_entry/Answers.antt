use Rattle.std.proofs.Common.{rules}
use Rattle.log_replay.proofs.FollowEntry.{state_below, stuck_nowhere}
use Rattle.log_replay.proofs.follow_entry.Goals as goal

pub returns-then-none_left : goal.returns-then-none_left
returns-then-none_left c =
    search stuck_nowhere

pub target-requires : goal.target-requires
target-requires c =
    search (rules, state_below)
