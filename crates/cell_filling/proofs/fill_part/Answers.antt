use Rattle.std.proofs.Common.{arith}
use Rattle.cell_filling.proofs.WholePart.{part_start, part_more, part_done}
use Rattle.cell_filling.proofs.fill_part.Goals as goal

pub loop-w-init : goal.loop-w-init
loop-w-init c =
    part_start c.requires c.clear_cells.ensures

pub loop-w-preserved : goal.loop-w-preserved
loop-w-preserved c =
    part_more c.loop-w.invariant c.fill_world.ensures

pub returns : goal.returns
returns c =
    part_done c.loop-w.invariant (omega arith)
