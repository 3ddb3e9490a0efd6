use Rattle.word_bits.proofs.WordBits.{added_if}
use Rattle.word_bits.proofs.with_bit_if.Goals as goal

pub returns : goal.returns
returns c =
    search added_if
