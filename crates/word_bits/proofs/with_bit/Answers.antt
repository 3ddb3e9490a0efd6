use Rattle.word_bits.proofs.WordBits.{only_added}
use Rattle.word_bits.proofs.with_bit.Goals as goal

pub returns : goal.returns
returns c =
    search only_added
