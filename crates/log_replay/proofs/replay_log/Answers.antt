use Rattle.std.proofs.lemmas.Result.{err_from_is_err_and}
use Rattle.log_replay.proofs.ReplayRefusals.{replay_file_refused, replay_size_refused, replay_entries_refused, replay_answered}
use Rattle.log_replay.proofs.replay_log.Goals as goal

pub returns-in_err-job : goal.returns-in_err-job
returns-in_err-job c =
    let p = err_from_is_err_and c.from_residual.result c.from_residual.ensures.1 in
    rw (p.1, p.2) (replay_file_refused c.args.file.now c.args.log.now c.in_err-job.ensures.refused)

pub returns-then-log_size_wrong : goal.returns-then-log_size_wrong
returns-then-log_size_wrong c =
    let opened = rw c.in_ok-job.ensures.opened at c.in_ok-job.job.opened in
    replay_size_refused c.args.file.now c.args.log.now opened c.log_size_wrong.ensures c.if-log_size_wrong.true

pub returns-then-entries_wrong : goal.returns-then-entries_wrong
returns-then-entries_wrong c =
    let opened = rw c.in_ok-job.ensures.opened at c.in_ok-job.job.opened in
    replay_entries_refused c.args.file.now c.args.log.now opened c.log_size_wrong.ensures c.if-log_size_wrong.false
    c.entries_wrong.ensures c.if-entries_wrong.true

pub returns : goal.returns
returns c =
    let opened = rw c.in_ok-job.ensures.opened at c.in_ok-job.job.opened in
    replay_answered c.args.file.now c.args.log.now opened c.log_size_wrong.ensures c.if-log_size_wrong.false
    c.entries_wrong.ensures _ c.if-entries_wrong.false (rw c.in_ok-job.ensures.opened at c.replay_in_job.ensures)
