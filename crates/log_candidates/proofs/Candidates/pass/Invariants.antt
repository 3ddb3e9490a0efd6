use Rattle.job_layout.specs.JobTables.{tables_of}
use Rattle.log_candidates.specs.inner.WorldSets.{label_of, Adds, Gathered, LedAt}
use Rattle.log_candidates.proofs.Candidates.pass.Given as goal

abbrev pub invariant-loop-column : goal.invariant-loop-column
invariant-loop-column l =
    Adds (Gathered (LedAt (tables_of l.job.file.now) (label_of l.entry) l.self.sets) l.column) 0 l.to
