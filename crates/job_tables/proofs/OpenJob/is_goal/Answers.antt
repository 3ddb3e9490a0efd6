use Rattle.job_layout.proofs.Bounds.{goal_in}
use Rattle.job_tables.proofs.Lookups.{goal_is}
use Rattle.job_tables.proofs.Ranges.{laid_out}
use Rattle.job_tables.proofs.OpenJob.is_goal.Goals as goal

pub bounds-self-goal_place : goal.bounds-self-goal_place
bounds-self-goal_place c =
    search (goal_in, laid_out)

pub returns : goal.returns
returns c =
    search goal_is
