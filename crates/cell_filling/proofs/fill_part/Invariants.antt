use Rattle.cell_filling.proofs.WholePart.{PartFilled}
use Rattle.cell_filling.proofs.fill_part.Given as goal

abbrev pub invariant-loop-w : goal.invariant-loop-w
invariant-loop-w l = PartFilled l.fn.rules.bytes.now l.fn.rules.sizes l.w l.part
