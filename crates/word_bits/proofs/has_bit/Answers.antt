use Rattle.std.proofs.Common.{refl}
use Rattle.word_bits.specs.Bits.{bit_in}
use Rattle.word_bits.proofs.has_bit.Goals as goal

pub returns : goal.returns
unfolding bit_in
returns c =
    refl
