use Rattle.lamp_line.specs.Refusals.{some_below}
use Rattle.lamp_line.proofs.Scan.{NoneYet}
use Rattle.job_layout.specs.Layout.{width}
use Rattle.world_cells.specs.inner.CellsWritten.{undecided, cell_number}
use Rattle.world_cells.proofs.any_left.Given as goal

abbrev pub invariant-loop-a : goal.invariant-loop-a
invariant-loop-a l =
    NoneYet (λ a. some_below (width l.fn.sizes) (λ c. undecided l.fn.part (cell_number l.fn.sizes a l.fn.world.0 c))) l.fn.sizes.actions l.a
