use Rattle.lamp_walk.proofs.WalkLoop.{counts_no_more}
use Rattle.lamp_walk.proofs.counted.Goals as goal

-- No ending counts a step of its own.
pub returns : goal.returns
returns c =
    counts_no_more c.args.ending c.args.made
