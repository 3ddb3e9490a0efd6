use Rattle.cabinet.proofs.Branches.{no_branch_outside}
use Rattle.cabinet.proofs.branch.Goals as goal

-- A result that is not below R has no branch in the tables; below R the plan's row is read.
pub returns-then-job-sensed : goal.returns-then-job-sensed
returns-then-job-sensed c =
    let job = c.args.job.now in
    no_branch_outside job.file.now job.head job.opened c.args.state c.args.sensed c.if-job-sensed.true
