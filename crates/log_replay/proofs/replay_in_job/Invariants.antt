use Rattle.log_replay.proofs.ReplayLoop.{Replaying}
use Rattle.log_replay.proofs.replay_in_job.Given as goal

abbrev pub invariant-loop-i : goal.invariant-loop-i
invariant-loop-i l =
    Replaying l.job.file.now l.job.head l.log l.i l.state l.candidates.sets
