use Rattle.std.proofs.Common.{Ok, Err}
use Rattle.std.proofs.lemmas.Result.{err_from_is_err_and}
use Rattle.plan_check.proofs.Answering.{short_checked}
use Rattle.plan_check.proofs.check_up_to.Goals as goal

pub returns-in_err-check_lines : goal.returns-in_err-check_lines
returns-in_err-check_lines c =
    let exit = err_from_is_err_and c.from_residual.result c.from_residual.ensures.1 in
    rw (exit.1, exit.2) (short_checked _ _ (Err _) _ _ c.in_err-check_lines.ensures)

pub returns : goal.returns
returns c =
    short_checked _ _ (Ok _) _ _ c.in_ok-check_lines.ensures
