use Rattle.pair_bits.specs.Sum.{bit_at}
use Rattle.pair_bits.proofs.is_set.Goals as goal

pub returns : goal.returns
unfolding bit_at
returns c =
    c.has_bit.ensures
