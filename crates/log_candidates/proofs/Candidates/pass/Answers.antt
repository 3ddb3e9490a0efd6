use Rattle.log_candidates.proofs.WorldSets.{gathered_more}
use Rattle.log_candidates.proofs.Candidates.pass.Goals as goal

pub loop-column-preserved : goal.loop-column-preserved
loop-column-preserved c =
    search gathered_more
