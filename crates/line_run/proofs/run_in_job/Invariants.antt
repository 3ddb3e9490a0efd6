use Rattle.std.proofs.Common.{length}
use Rattle.line_run.proofs.RunLoop.{Running}
use Rattle.line_run.proofs.run_in_job.Given as goal

abbrev pub invariant-loop-ending : goal.invariant-loop-ending
invariant-loop-ending l =
    Running l.job.file.now l.job.head l.limit l.end l.initial.rest l.initial.at l.k l.rest l.at

abbrev pub decreases-loop-ending : goal.decreases-loop-ending
decreases-loop-ending l =
    length l.rest
