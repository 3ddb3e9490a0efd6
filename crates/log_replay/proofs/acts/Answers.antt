use Rattle.log_replay.proofs.ReplayRefusals.{ended_acts_not, action_decides}
use Rattle.log_replay.proofs.acts.Goals as goal

-- The two tests are the definition's.
pub returns-then-state-job : goal.returns-then-state-job
returns-then-state-job c =
    search action_decides

pub returns-else-state-job : goal.returns-else-state-job
returns-else-state-job c =
    search ended_acts_not
