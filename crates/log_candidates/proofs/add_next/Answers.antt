use Rattle.log_candidates.proofs.NextWorlds.{next_bit_below, next_added}
use Rattle.log_candidates.proofs.add_next.Goals as goal

pub with_bit_if-requires : goal.with_bit_if-requires
with_bit_if-requires c =
    search next_bit_below

pub returns : goal.returns
returns c =
    search next_added
