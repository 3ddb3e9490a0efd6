use Rattle.pair_bits.proofs.SetBits.{only_set}
use Rattle.pair_bits.proofs.set_bit.Goals as goal

pub returns : goal.returns
returns c =
    search only_set
