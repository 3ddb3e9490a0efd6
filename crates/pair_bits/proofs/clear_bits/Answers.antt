use Rattle.pair_bits.proofs.SetBits.{filled_cleared}
use Rattle.pair_bits.proofs.clear_bits.Goals as goal

pub returns : goal.returns
returns c = rw (c.fill.ensures.after (λ y e. e)) (filled_cleared c.args.words.now c.args.n c.requires)
