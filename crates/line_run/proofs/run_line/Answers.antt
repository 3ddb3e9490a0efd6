use Rattle.std.proofs.lemmas.Result.{err_from_is_err_and}
use Rattle.line_refusals.proofs.LineLaws.{start_is_marked, line_is_right}
use Rattle.line_run.proofs.RunRefusals.{run_file_refused, run_start_refused, run_line_refused, run_answered}
use Rattle.line_run.proofs.run_line.Goals as goal

-- The `?` hands the reader's refusal on.
pub returns-in_err-job : goal.returns-in_err-job
returns-in_err-job c =
    let exit = err_from_is_err_and c.from_residual.result c.from_residual.ensures.1 in
    rw (exit.1, exit.2) (run_file_refused _ _ _ _ _ c.in_err-job.ensures.refused)

-- Here and below, the job's file is the one that was opened.
pub returns-then-not-is_start : goal.returns-then-not-is_start
returns-then-not-is_start c =
    rw (← c.in_ok-job.ensures.opened) (search run_start_refused)

pub returns-then-line_wrong : goal.returns-then-line_wrong
returns-then-line_wrong c =
    rw (← c.in_ok-job.ensures.opened) (search run_line_refused)

pub run_in_job-requires : goal.run_in_job-requires
run_in_job-requires c =
    ((search start_is_marked), (search line_is_right))

pub returns : goal.returns
returns c =
    rw (← c.in_ok-job.ensures.opened) (search run_answered)
