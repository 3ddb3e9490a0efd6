use Rattle.lamp_fates.proofs.WalkTurns.{LeavingLinks, unknown}
use Rattle.lamp_fates.proofs.walk_to_fate.Given as goal

abbrev pub invariant-loop-here : goal.invariant-loop-here
invariant-loop-here l =
    LeavingLinks l.job.file.now l.job.head l.initial.here l.column l.initial.memory l.memory l.here

abbrev pub decreases-loop-here : goal.decreases-loop-here
decreases-loop-here l =
    unknown l.memory
