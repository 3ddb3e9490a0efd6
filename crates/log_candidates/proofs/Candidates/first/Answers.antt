use Rattle.std.proofs.Common.{refl}
use Rattle.log_candidates.proofs.Holding.{first_held}
use Rattle.log_candidates.proofs.Candidates.first.Goals as goal

pub returns : goal.returns
returns c =
    first_held c.args.job.now.file.now c.args.job.now.opened c.marked_starts-set.ensures refl
