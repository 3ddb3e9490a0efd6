use Rattle.log_candidates.proofs.NextWorlds.{bit_below}
use Rattle.log_candidates.proofs.add_start.Goals as goal

pub with_bit_if-requires : goal.with_bit_if-requires
with_bit_if-requires c =
    search bit_below
