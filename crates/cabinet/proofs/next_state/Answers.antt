use Rattle.std.proofs.Common.{sym, ap, ◌∙◌, arith}
use Rattle.std.proofs.lemmas.Result.{err_from_is_err_and}
use Rattle.lamp_line.specs.Tables.{moves_on}
use Rattle.job_layout.specs.JobTables.{tables_of}
use Rattle.job_tables.proofs.Ranges.{states_are, action_below}
use Rattle.cabinet.proofs.Answering.{state_file_refused, state_above, state_ended, state_no_branch, state_stays, state_no_lamp, state_passes}
use Rattle.cabinet.proofs.next_state.Goals as goal

pub returns-in_err-job : goal.returns-in_err-job
returns-in_err-job c =
    let p = err_from_is_err_and c.from_residual.result c.from_residual.ensures.1 in
    rw (p.1, p.2) (state_file_refused c.args.file.now c.in_err-job.ensures.refused c.args.state c.args.sensed)

-- ---- the tests of the state

pub returns-then-job-from : goal.returns-then-job-from
returns-then-job-from c =
    let job = c.in_ok-job.job in
    let states = states_are job.file.now job.head job.opened in
    rw (← c.in_ok-job.ensures.opened) (sym (state_above job.file.now job.opened c.args.state c.args.sensed (omega arith)))

pub returns-then-from-job : goal.returns-then-from-job
returns-then-from-job c =
    let job = c.in_ok-job.job in
    let states = states_are job.file.now job.head job.opened in
    rw (← c.in_ok-job.ensures.opened) (sym (state_ended job.file.now job.opened c.args.state c.args.sensed (omega arith)))

-- ---- the branch

pub returns-in_default-to : goal.returns-in_default-to
returns-in_default-to c =
    let job = c.in_ok-job.job in
    let states = states_are job.file.now job.head job.opened in
    rw (← c.in_ok-job.ensures.opened)
    (sym (state_no_branch job.file.now job.opened c.args.state c.args.sensed (omega arith)
    (sym c.branch-to.ensures ∙ c.in_default-to.is)))

pub moves_on-requires : goal.moves_on-requires
moves_on-requires c =
    let job = c.in_ok-job.job in
    action_below job.file.now job.head job.opened c.args.state.state _ (omega arith) c.action.ensures

pub returns-then-not-moves_on : goal.returns-then-not-moves_on
returns-then-not-moves_on c =
    let job = c.in_ok-job.job in
    let states = states_are job.file.now job.head job.opened in
    rw (← c.in_ok-job.ensures.opened)
    (sym (state_stays job.file.now job.opened c.args.state c.args.sensed (omega arith)
    (sym c.branch-to.ensures ∙ c.in_Some-to.is)
    (ap (moves_on (tables_of job.file.now)) (sym c.action.ensures) ∙ sym c.moves_on.ensures ∙ c.if-not-moves_on.true)))

pub returns-then-lamps-eq0 : goal.returns-then-lamps-eq0
returns-then-lamps-eq0 c =
    let job = c.in_ok-job.job in
    let states = states_are job.file.now job.head job.opened in
    rw (← c.in_ok-job.ensures.opened)
    (sym (state_no_lamp job.file.now job.opened c.args.state c.args.sensed (omega arith)
    (sym c.branch-to.ensures ∙ c.in_Some-to.is)
    (ap (moves_on (tables_of job.file.now)) (sym c.action.ensures) ∙ sym c.moves_on.ensures ∙ c.if-not-moves_on.false)
    c.if-lamps-eq0.true))

pub returns : goal.returns
returns c =
    let job = c.in_ok-job.job in
    let states = states_are job.file.now job.head job.opened in
    rw (← c.in_ok-job.ensures.opened)
    (sym (state_passes job.file.now job.opened c.args.state c.args.sensed (omega arith)
    (sym c.branch-to.ensures ∙ c.in_Some-to.is)
    (ap (moves_on (tables_of job.file.now)) (sym c.action.ensures) ∙ sym c.moves_on.ensures ∙ c.if-not-moves_on.false)
    (omega arith)))
