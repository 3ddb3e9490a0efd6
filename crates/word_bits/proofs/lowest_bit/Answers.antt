use Rattle.std.proofs.Common.{rules}
use Rattle.word_bits.proofs.LowestBit.{lowest}
use Rattle.word_bits.proofs.lowest_bit.Goals as goal

pub returns : goal.returns
returns c =
    lowest (search rules) (search rules)
