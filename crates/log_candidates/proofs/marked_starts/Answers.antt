use Rattle.log_candidates.proofs.NextWorlds.{starts_gathered}
use Rattle.log_candidates.proofs.marked_starts.Goals as goal

pub returns : goal.returns
returns c =
    search starts_gathered
