use Rattle.std.proofs.Common.{rules, tests, Bool, ℕ, ◌+◌, refl, arith, ◌∙◌}
use Rattle.std.proofs.lemmas.Iterator.{YieldsList-from_range}
use Rattle.std.proofs.lemmas.Iterator.Search.{any_from_yields_List}
use Rattle.lamp_line.proofs.Scan.{any_below}
use Rattle.world_cells.specs.inner.CellsWritten.{undecided}
use Rattle.world_cells.proofs.any_undecided.Goals as goal

pub returns : goal.returns
returns c =
    let a = c.args in
    let test : ℕ → Bool = λ k. undecided a.part.now (a.first + k) in
    any_from_yields_List test _ _ _ c.any.ensures.ran (YieldsList-from_range 0 a.count a.count refl (omega arith))
    (λ x b q k. search (rules, tests))
    ∙ any_below test a.count
