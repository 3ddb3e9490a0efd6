use Rattle.std.proofs.Common.{◌∙◌, ap₂, Bool, ◌||◌, not, ltb, eqb, rules, tests}
use Rattle.std.proofs.lemmas.Iterator.{YieldsList-from_slice}
use Rattle.std.proofs.lemmas.Iterator.Search.{any_from_yields_List}
use Rattle.lamp_line.proofs.Scan.{any_in_part}
use Rattle.bit_refusals.proofs.start_wrong.Goals as goal

pub returns : goal.returns
returns c =
    ap₂ (λ (a b : Bool). a || not b)
    (any_from_yields_List (ltb 1) _ _ _ c.any.ensures.ran (YieldsList-from_slice _ c.iter.ensures.rest) (λ x b q k. search (rules, tests))
    ∙ any_in_part (ltb 1) _ _ _ c.args.laid.now.laid.starts_in)
    (c.contains.ensures.value ∙ any_in_part (λ n. eqb n 1) _ _ _ c.args.laid.now.laid.starts_in)
