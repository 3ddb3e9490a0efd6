use Rattle.job_layout.specs.JobTables.{tables_of}
use Rattle.log_candidates.specs.inner.WorldSets.{label_of}
use Rattle.log_candidates.proofs.Holding.{Staying}
use Rattle.log_candidates.proofs.Candidates.stay.Given as goal

abbrev pub invariant-loop-column : goal.invariant-loop-column
invariant-loop-column l =
    Staying (tables_of l.job.file.now) (label_of l.entry) l.initial.self.sets l.self.sets l.column
