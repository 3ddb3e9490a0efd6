use Rattle.job_layout.specs.JobTables.{tables_by}
use Rattle.lamp_fates.specs.inner.Memory.{Memory}
use Rattle.working_list.specs.inner.Listing.{table}
use Rattle.line_trial.specs.inner.Trials.{TriedBelow}
use Rattle.line_trial.proofs.try_line.Given as goal

abbrev pub invariant-loop-end : goal.invariant-loop-end
invariant-loop-end l =
    Memory (tables_by l.job.file.now l.job.head) l.memory
    × TriedBelow (tables_by l.job.file.now l.job.head) (table (tables_by l.job.file.now l.job.head) l.list l.count) l.member l.kind l.end
