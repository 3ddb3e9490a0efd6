use Rattle.job_layout.specs.JobTables.{tables_by}
use Rattle.lamp_fates.proofs.WriteTurns.{Following, linked}
use Rattle.lamp_fates.proofs.write_along.Given as goal

abbrev pub invariant-loop-column : goal.invariant-loop-column
invariant-loop-column l =
    Following (tables_by l.job.file.now l.job.head) l.fn.pair l.column l.entry l.initial.memory l.base l.memory l.number

abbrev pub decreases-loop-column : goal.decreases-loop-column
decreases-loop-column l =
    linked l.memory
