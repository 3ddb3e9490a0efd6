use Rattle.std.proofs.Common.{◌∙◌, refl, arith, rules, tests}
use Rattle.std.proofs.lemmas.Iterator.{YieldsList-from_range}
use Rattle.std.proofs.lemmas.Iterator.Search.{any_from_yields_List}
use Rattle.lamp_line.proofs.Scan.{any_below}
use Rattle.job_layout.specs.FileRefusals.{row_wrong}
use Rattle.plan_refusals.proofs.target_wrong.Goals as goal

pub returns : goal.returns
returns c =
    any_from_yields_List (row_wrong c.args.laid.now.file.now c.args.laid.now.head) _ _ _ c.any.ensures.ran
    (YieldsList-from_range 0 _ c.args.laid.now.head.states refl (omega arith))
    (λ x b q k. search (rules, tests))
    ∙ any_below _ _
