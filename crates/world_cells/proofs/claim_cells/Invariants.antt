use Rattle.world_cells.specs.inner.CellsWritten.{Claimed}
use Rattle.world_cells.proofs.claim_cells.Given as goal

abbrev pub invariant-loop-i : goal.invariant-loop-i
invariant-loop-i l = Claimed l.initial.part l.part l.first l.i l.next.0 l.sensed
