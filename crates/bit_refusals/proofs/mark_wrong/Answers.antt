use Rattle.std.proofs.Common.{◌∙◌, ltb, rules, tests}
use Rattle.std.proofs.lemmas.Iterator.{YieldsList-from_slice}
use Rattle.std.proofs.lemmas.Iterator.Search.{any_from_yields_List}
use Rattle.lamp_line.proofs.Scan.{any_in_part}
use Rattle.bit_refusals.proofs.mark_wrong.Goals as goal

pub returns : goal.returns
returns c =
    any_from_yields_List (ltb 1) _ _ _ c.any.ensures.ran (YieldsList-from_slice _ c.iter.ensures.rest) (λ x b q k. search (rules, tests))
    ∙ any_in_part (ltb 1) _ _ _ c.args.laid.now.laid.marks_in
