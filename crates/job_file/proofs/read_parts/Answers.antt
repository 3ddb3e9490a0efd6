use Rattle.job_file.proofs.ReadingLaws.{mark_refused, cell_refused, end_refused, cells_read}
use Rattle.job_file.proofs.read_parts.Goals as goal

pub returns-then-mark_wrong : goal.returns-then-mark_wrong
returns-then-mark_wrong c =
    search mark_refused

pub returns-then-cells : goal.returns-then-cells
returns-then-cells c =
    search cell_refused

pub returns-then-ends : goal.returns-then-ends
returns-then-ends c =
    search end_refused

pub returns : goal.returns
returns c =
    search cells_read
