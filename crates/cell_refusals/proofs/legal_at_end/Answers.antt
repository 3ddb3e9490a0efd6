use Rattle.std.proofs.Common.{◌∙◌, refl, arith, rules, tests}
use Rattle.std.proofs.lemmas.Iterator.{YieldsList-from_range}
use Rattle.std.proofs.lemmas.Iterator.Search.{any_from_yields_List}
use Rattle.lamp_line.proofs.Scan.{any_below}
use Rattle.job_layout.specs.FileRefusals.{legal_at}
use Rattle.cell_refusals.proofs.legal_at_end.Goals as goal

pub returns : goal.returns
returns c =
    any_from_yields_List (legal_at c.args.laid.now.file.now c.args.laid.now.head c.args.action c.args.end) _ _ _ c.any.ensures.ran
    (YieldsList-from_range 0 _ c.args.laid.now.head.worlds refl (omega arith))
    (λ x b q k. search (rules, tests))
    ∙ any_below _ _
