use Rattle.std.proofs.Common.{rules}
use Rattle.job_tables.proofs.Ranges.{action_below, result_below}
use Rattle.lamp_walk.proofs.ActionLaws.{acts_not_legal, acts_no_branch, acts_passes, acts_stays}
use Rattle.lamp_walk.proofs.try_action.Goals as goal

pub cell-requires : goal.cell-requires
cell-requires c =
    search (rules, action_below)

pub returns-in_default : goal.returns-in_default
returns-in_default c =
    search acts_not_legal

pub target-requires : goal.target-requires
target-requires c =
    search (rules, result_below)

pub returns-in_default-target : goal.returns-in_default-target
returns-in_default-target c =
    search acts_no_branch depth 7

pub moves_on-requires : goal.moves_on-requires
moves_on-requires c =
    search (rules, action_below)

pub returns-then-moves_on : goal.returns-then-moves_on
returns-then-moves_on c =
    search acts_passes

pub returns : goal.returns
returns c =
    search acts_stays
