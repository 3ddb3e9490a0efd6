use Rattle.lamp_line.proofs.Columns.{end_column_in}
use Rattle.job_layout.proofs.Bounds.{result_in}
use Rattle.cell_refusals.proofs.legal_at.Goals as goal

pub bounds-laid-at : goal.bounds-laid-at
bounds-laid-at c =
    search (result_in, end_column_in)
