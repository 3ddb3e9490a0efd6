use Rattle.std.proofs.Common.{sym, ap, ◌∙◌, Ok}
use Rattle.std.proofs.lemmas.Result.{err_from_is_err_and}
use Rattle.lamp_line.specs.declared.ProgramState.{ProgramState}
use Rattle.job_tables.proofs.Ranges.{first_is}
use Rattle.cabinet.proofs.Answering.{begin_file_refused, begin_opened}
use Rattle.cabinet.proofs.begin.Goals as goal

pub returns-in_err-job : goal.returns-in_err-job
returns-in_err-job c =
    let p = err_from_is_err_and c.from_residual.result c.from_residual.ensures.1 in
    rw (p.1, p.2) (begin_file_refused c.args.file.now c.in_err-job.ensures.refused c.args.count)

pub returns : goal.returns
returns c =
    let job = c.in_ok-job.job in
    rw (← c.in_ok-job.ensures.opened)
    (ap (λ (q : ProgramState). Ok (record { state = q; lamps = c.args.count })) (first_is job.file.now job.head job.opened)
    ∙ sym (begin_opened job.file.now job.opened c.args.count))
