use Rattle.std.proofs.Common.{rules, tests}
use Rattle.std.proofs.lemmas.Iterator.{YieldsList-from_slice}
use Rattle.std.proofs.lemmas.Iterator.Search.{any_from_yields_List}
use Rattle.lamp_line.proofs.Scan.{some_of_any}
use Rattle.job_layout.specs.FileRefusals.{outside}
use Rattle.line_refusals.proofs.LineLaws.{not_an_end}
use Rattle.line_refusals.proofs.line_wrong.Goals as goal

pub returns : goal.returns
returns c =
    let a = c.args in
    rw (
      any_from_yields_List (outside 1 a.job.kinds) _ _ _ c.any.ensures.ran (YieldsList-from_slice _ c.iter.ensures.rest) (λ x b q k. search (rules, tests)),
      some_of_any (outside 1 a.job.kinds) a.line.now,
      not_an_end a.job.ends a.end,
    )
