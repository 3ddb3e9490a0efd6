use Rattle.std.proofs.Common.{sym, ap, ◌∙◌, arith, ℕ, Some, Ok}
use Rattle.std.proofs.lemmas.Result.{err_from_is_err_and}
use Rattle.job_tables.proofs.Ranges.{states_are}
use Rattle.cabinet.proofs.Answering.{action_file_refused, action_above, action_ended, action_acts}
use Rattle.cabinet.proofs.next_action.Goals as goal

pub returns-in_err-job : goal.returns-in_err-job
returns-in_err-job c =
    let p = err_from_is_err_and c.from_residual.result c.from_residual.ensures.1 in
    rw (p.1, p.2) (action_file_refused c.args.file.now c.in_err-job.ensures.refused c.args.state)

pub returns-then-job-state : goal.returns-then-job-state
returns-then-job-state c =
    let job = c.in_ok-job.job in
    let states = states_are job.file.now job.head job.opened in
    rw (← c.in_ok-job.ensures.opened) (sym (action_above job.file.now job.opened c.args.state (omega arith)))

pub returns-then-state-job : goal.returns-then-state-job
returns-then-state-job c =
    let job = c.in_ok-job.job in
    let states = states_are job.file.now job.head job.opened in
    rw (← c.in_ok-job.ensures.opened) (sym (action_ended job.file.now job.opened c.args.state (omega arith)))

pub returns : goal.returns
returns c =
    let job = c.in_ok-job.job in
    let states = states_are job.file.now job.head job.opened in
    rw (← c.in_ok-job.ensures.opened)
    (ap (λ (a : ℕ). Ok (Some a)) c.action.ensures
    ∙ sym (action_acts job.file.now job.opened c.args.state (omega arith)))
