use Rattle.lamp_walk.proofs.WalkLoop.{walking_start, walking_stays, walking_ends, walking_passes, walking_spent}
use Rattle.lamp_walk.proofs.walk_in_job.Goals as goal

pub loop-k-init : goal.loop-k-init
loop-k-init c =
    search walking_start

pub returns-in-Ends : goal.returns-in-Ends
returns-in-Ends c =
    search walking_ends

pub returns-in-Passes : goal.returns-in-Passes
returns-in-Passes c =
    search walking_passes

pub loop-k-preserved : goal.loop-k-preserved
loop-k-preserved c =
    search walking_stays

pub returns : goal.returns
returns c =
    search walking_spent
