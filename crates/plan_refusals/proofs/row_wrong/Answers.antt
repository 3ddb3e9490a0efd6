use Rattle.std.proofs.Common.{◌∙◌, ◌&&◌, ltb, refl, rules, tests}
use Rattle.std.proofs.lemmas.Iterator.{YieldsList-from_slice}
use Rattle.std.proofs.lemmas.Iterator.Search.{any_from_yields_List}
use Rattle.lamp_line.proofs.Scan.{any_in_part}
use Rattle.job_layout.proofs.Bounds.{row_in}
use Rattle.job_layout.specs.FileRefusals.{differs}
use Rattle.plan_refusals.proofs.row_wrong.Goals as goal

pub returns : goal.returns
returns c =
    any_from_yields_List (λ n. ltb c.args.laid.now.head.states n && differs n 255) _ _ _ c.any.ensures.ran
    (YieldsList-from_slice _ c.iter.ensures.rest)
    (λ x b q k. search (rules, tests))
    ∙ rw c.action_place-from.ensures
    (any_in_part (λ n. ltb c.args.laid.now.head.states n && differs n 255) _ _ _ (row_in c.args.laid.now.laid _ refl c.requires))
