use Rattle.lamp_walk.proofs.WalkLoop.{Walking}
use Rattle.lamp_walk.proofs.walk_in_job.Given as goal

abbrev pub invariant-loop-k : goal.invariant-loop-k
invariant-loop-k l =
    Walking l.job.file.now l.job.head l.column l.initial.at l.k l.at
