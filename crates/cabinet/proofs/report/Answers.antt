use Rattle.std.proofs.Common.{rules, ap, ◌∙◌}
use Rattle.cabinet.specs.CabinetAnswers.{keeping, report_answer}
use Rattle.cabinet.proofs.Answering.{reported}
use Rattle.cabinet.proofs.report.Goals as goal

pub returns : goal.returns
unfolding report_answer
returns c =
    reported c.args.state c.next_state.result c.map_err.ensures.cases (λ because error made. search rules)
    ∙ ap (keeping c.args.state) c.next_state.ensures
