use Rattle.job_layout.specs.JobTables.{tables_of}
use Rattle.log_candidates.specs.inner.WorldSets.{Adds, Gathered, StartAt}
use Rattle.log_candidates.proofs.marked_starts.Given as goal

abbrev pub invariant-loop-w : goal.invariant-loop-w
invariant-loop-w l =
    Adds (Gathered (StartAt (tables_of l.job.file.now)) l.w) 0 l.set
