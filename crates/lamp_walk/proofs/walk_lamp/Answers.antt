use Rattle.std.proofs.lemmas.Result.{err_from_is_err_and}
use Rattle.lamp_walk.proofs.WalkRefusals.{walk_file_refused, walk_world_refused, walk_column_refused, walk_state_refused, walk_answered}
use Rattle.lamp_walk.proofs.walk_lamp.Goals as goal

-- The `?` hands the reader's refusal on.
pub returns-in_err-job : goal.returns-in_err-job
returns-in_err-job c =
    let exit = err_from_is_err_and c.from_residual.result c.from_residual.ensures.1 in
    rw (exit.1, exit.2) (walk_file_refused _ _ _ _ c.in_err-job.ensures.refused)

-- Here and below, the job's file is the one that was opened.
pub returns-then-job-pair : goal.returns-then-job-pair
returns-then-job-pair c =
    rw (← c.in_ok-job.ensures.opened) (search walk_world_refused)

pub returns-then-column_count-column : goal.returns-then-column_count-column
returns-then-column_count-column c =
    rw (← c.in_ok-job.ensures.opened) (search walk_column_refused)

pub returns-then-job-pair-2 : goal.returns-then-job-pair-2
returns-then-job-pair-2 c =
    rw (← c.in_ok-job.ensures.opened) (search walk_state_refused)

pub returns : goal.returns
returns c =
    rw (← c.in_ok-job.ensures.opened) (search walk_answered)
