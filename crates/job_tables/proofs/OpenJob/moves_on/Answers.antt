use Rattle.job_layout.proofs.Bounds.{mark_in}
use Rattle.job_tables.proofs.Lookups.{mark_is}
use Rattle.job_tables.proofs.Ranges.{laid_out}
use Rattle.job_tables.proofs.OpenJob.moves_on.Goals as goal

pub bounds-self-mark_place : goal.bounds-self-mark_place
bounds-self-mark_place c =
    search (mark_in, laid_out)

pub returns : goal.returns
returns c =
    search mark_is
