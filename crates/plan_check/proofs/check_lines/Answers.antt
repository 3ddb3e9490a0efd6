use Rattle.std.proofs.Common.{arith}
use Rattle.std.proofs.lemmas.Result.{err_from_is_err_and}
use Rattle.job_layout.specs.JobTables.{tables_by}
use Rattle.line_finding.specs.inner.Finding.{Finds}
use Rattle.plan_check.proofs.CheckRefusals.{enough_lent, file_refused_checked, buffer_refused, list_refused, words_refused, has_room, found_checked}
use Rattle.plan_check.proofs.check_lines.Goals as goal
use Rattle.plan_check.proofs.check_lines.Goals.{then-size-le256, else-size-le256+then-size-le8192, else-size-le256+else-size-le8192}

-- The `?` hands the reader's refusal on.
pub returns-in_err-job : goal.returns-in_err-job
returns-in_err-job c =
    let exit = err_from_is_err_and c.from_residual.result c.from_residual.ensures.1 in
    rw (exit.1, exit.2) (file_refused_checked _ _ _ c.in_err-job.ensures.refused)

-- Here and below, the job's file is the one that was opened.
pub returns-then-line-live : goal.returns-then-line-live
returns-then-line-live c =
    rw (← c.in_ok-job.ensures.opened) (buffer_refused _ _ _ c.in_ok-job.job.opened c.if-line-live.true)

pub returns-then-list-pairs : goal.returns-then-list-pairs
returns-then-list-pairs c =
    rw (← c.in_ok-job.ensures.opened) (list_refused _ _ _ c.in_ok-job.job.opened c.if-line-live.false c.if-list-pairs.true)

pub returns-then-words-pairs : goal.returns-then-words-pairs
returns-then-words-pairs c =
    rw (← c.in_ok-job.ensures.opened)
    (words_refused _ _ _ c.in_ok-job.job.opened c.if-line-live.false c.if-list-pairs.false c.if-words-pairs.true)

pub find-requires-else-size-le8192 : goal.find-requires-else-size-le8192
find-requires-else-size-le8192 c =
    let a = c.args in
    let enough = enough_lent a.line.now a.list.now a.words.now c.in_ok-job.job.opened c.if-line-live.false c.if-list-pairs.false c.if-words-pairs.false in
    (has_room enough, omega arith, omega arith)

-- Whichever memory it is, the search has found the failure. The `?` hands it on.
pub returns-in_err-found : goal.returns-in_err-found
returns-in_err-found c =
    let a = c.args in
    let enough = enough_lent a.line.now a.list.now a.words.now c.in_ok-job.job.opened c.if-line-live.false c.if-list-pairs.false c.if-words-pairs.false in
    let finds : Finds (tables_by c.in_ok-job.job.file.now c.in_ok-job.job.head) c.args.longest c.if-size-le256.found c.args.line.now c.if-size-le256.line =
    elim c.if-size-le256.branch [
      | then-size-le256 w ↦ rw (w.found-is, w.line-is) w.find-found.ensures
      | else-size-le256+then-size-le8192 w ↦ rw (w.found-is, w.line-is) w.find.ensures
      | else-size-le256+else-size-le8192 w ↦ rw (w.found-is, w.line-is) w.find-else-size-le8192.ensures
    ] in
    let exit = err_from_is_err_and c.from_residual-in_err-found.result c.from_residual-in_err-found.ensures.1 in
    rw (← c.in_ok-job.ensures.opened, exit.1, exit.2) (found_checked enough _ (rw c.in_err-found.was at finds))

pub returns : goal.returns
returns c =
    let a = c.args in
    let enough = enough_lent a.line.now a.list.now a.words.now c.in_ok-job.job.opened c.if-line-live.false c.if-list-pairs.false c.if-words-pairs.false in
    let finds : Finds (tables_by c.in_ok-job.job.file.now c.in_ok-job.job.head) c.args.longest c.if-size-le256.found c.args.line.now c.if-size-le256.line =
    elim c.if-size-le256.branch [
      | then-size-le256 w ↦ rw (w.found-is, w.line-is) w.find-found.ensures
      | else-size-le256+then-size-le8192 w ↦ rw (w.found-is, w.line-is) w.find.ensures
      | else-size-le256+else-size-le8192 w ↦ rw (w.found-is, w.line-is) w.find-else-size-le8192.ensures
    ] in
    rw (← c.in_ok-job.ensures.opened) (found_checked enough _ (rw c.in_ok-found.was at finds))
