use Rattle.rules_file.proofs.CountsProduct.{Multiplied}
use Rattle.rules_file.proofs.world_count.Given as goal

abbrev pub invariant-loop-count : goal.invariant-loop-count
invariant-loop-count l = Multiplied l.counts l.count-index l.product
