use Rattle.job_layout.specs.JobTables.{tables_of}
use Rattle.log_candidates.specs.inner.WorldSets.{label_of}
use Rattle.log_candidates.proofs.NextWorlds.{Gathering}
use Rattle.log_candidates.proofs.add_all_next.Given as goal

abbrev pub invariant-loop-rest : goal.invariant-loop-rest
invariant-loop-rest l =
    Gathering (tables_of l.job.file.now) (label_of l.entry) l.column l.set l.to l.rest l.sum

abbrev pub decreases-loop-rest : goal.decreases-loop-rest
decreases-loop-rest l =
    l.rest
