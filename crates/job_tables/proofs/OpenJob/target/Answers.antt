use Rattle.job_layout.proofs.Bounds.{below_fits, targets_in, target_in}
use Rattle.job_tables.proofs.Lookups.{no_target, some_target}
use Rattle.job_tables.proofs.Ranges.{laid_out}
use Rattle.job_tables.proofs.OpenJob.target.Goals as goal

pub overflow_add-at : goal.overflow_add-at
overflow_add-at c =
    search (below_fits, targets_in, laid_out)

pub overflow_add-at-2 : goal.overflow_add-at-2
overflow_add-at-2 c =
    search (below_fits, target_in, laid_out)

pub bounds-self-at : goal.bounds-self-at
bounds-self-at c =
    search (target_in, laid_out)

pub returns-then-target : goal.returns-then-target
returns-then-target c =
    search no_target

pub returns : goal.returns
returns c =
    search some_target
