use Rattle.std.proofs.Common.{rules}
use Rattle.word_bits.proofs.LowestBit.{lowest_removed}
use Rattle.word_bits.proofs.without_lowest.Goals as goal

pub returns : goal.returns
returns c =
    lowest_removed (search rules) (search rules)
