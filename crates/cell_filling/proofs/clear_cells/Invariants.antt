use Rattle.cell_filling.proofs.WholePart.{ClearedTo}
use Rattle.cell_filling.proofs.clear_cells.Given as goal

abbrev pub invariant-loop-i : goal.invariant-loop-i
invariant-loop-i l = ClearedTo l.initial.part l.i l.part
