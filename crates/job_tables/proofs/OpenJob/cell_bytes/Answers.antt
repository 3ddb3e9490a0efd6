use Rattle.job_layout.proofs.Bounds.{below_fits, next_in, result_in}
use Rattle.job_tables.proofs.Lookups.{bytes_are}
use Rattle.job_tables.proofs.Ranges.{laid_out}
use Rattle.job_tables.proofs.OpenJob.cell_bytes.Goals as goal

pub bounds-self-at : goal.bounds-self-at
bounds-self-at c =
    search (next_in, laid_out)

pub overflow_add-result : goal.overflow_add-result
overflow_add-result c =
    search (below_fits, result_in, laid_out)

pub bounds-self-at-2 : goal.bounds-self-at-2
bounds-self-at-2 c =
    search (result_in, laid_out)

pub returns : goal.returns
returns c =
    search bytes_are
