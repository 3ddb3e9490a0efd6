use Rattle.job_layout.proofs.Bounds.{action_in}
use Rattle.job_tables.proofs.Lookups.{action_is}
use Rattle.job_tables.proofs.Ranges.{laid_out}
use Rattle.job_tables.proofs.OpenJob.action.Goals as goal

pub bounds-self-action_place : goal.bounds-self-action_place
bounds-self-action_place c =
    search (action_in, laid_out)

pub returns : goal.returns
returns c =
    search action_is
