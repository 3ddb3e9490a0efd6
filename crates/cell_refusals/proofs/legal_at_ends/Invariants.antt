use Rattle.lamp_line.specs.Tables.{kinds_of_ends}
use Rattle.lamp_line.proofs.Scan.{NoneYet}
use Rattle.job_layout.specs.FileRefusals.{legal_at_end}
use Rattle.cell_refusals.proofs.legal_at_ends.Given as goal

abbrev pub invariant-loop-end : goal.invariant-loop-end
invariant-loop-end l =
    NoneYet (legal_at_end l.laid.file.now l.laid.head l.action) (kinds_of_ends l.laid.head.ends) l.end
