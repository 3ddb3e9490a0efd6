use Rattle.job_file.proofs.ReadingLaws.{start_refused, goal_refused, goal_read}
use Rattle.job_file.proofs.read_starts_and_goal.Goals as goal

pub returns-then-start_wrong : goal.returns-then-start_wrong
returns-then-start_wrong c =
    search start_refused

pub returns-then-goal_wrong : goal.returns-then-goal_wrong
returns-then-goal_wrong c =
    search goal_refused

pub returns : goal.returns
returns c =
    search goal_read
