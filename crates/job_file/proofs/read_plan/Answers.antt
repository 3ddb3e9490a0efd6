use Rattle.job_file.proofs.ReadingLaws.{action_refused, target_refused, plan_read}
use Rattle.job_file.proofs.read_plan.Goals as goal

pub returns-then-actions : goal.returns-then-actions
returns-then-actions c =
    search action_refused

pub returns-then-targets : goal.returns-then-targets
returns-then-targets c =
    search target_refused

pub returns : goal.returns
returns c =
    search plan_read
