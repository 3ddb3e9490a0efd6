use Rattle.pair_bits.proofs.WordSums.{Summed}
use Rattle.pair_bits.proofs.sum_bits.Given as goal

abbrev pub invariant-loop-word : goal.invariant-loop-word
invariant-loop-word l = Summed l.fn.words l.fn.n l.sum l.word-index
