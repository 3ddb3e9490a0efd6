use Rattle.std.proofs.Common.{◌≡◌, length}
use Rattle.line_trial.proofs.TryingEnds.{Trying}
use Rattle.line_trial.proofs.try_end.Given as goal

abbrev pub invariant-loop-pair : goal.invariant-loop-pair
invariant-loop-pair l =
    Trying l.job.file.now l.job.head l.memory l.list l.words l.count l.member l.kind l.end l.pair l.column × (length l.memory ≡ length l.initial.memory)

abbrev pub decreases-loop-pair : goal.decreases-loop-pair
decreases-loop-pair l =
    l.column
