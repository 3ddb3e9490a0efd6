use Rattle.std.proofs.Common.{refl}
use Rattle.log_candidates.proofs.Holding.{passed_held, stayed_held}
use Rattle.log_candidates.proofs.Candidates.advance.Goals as goal

pub returns-then-moves_on : goal.returns-then-moves_on
returns-then-moves_on c =
    passed_held c.args.job.now.file.now c.args.job.now.opened _ c.moves_on.ensures c.if-moves_on.true c.pass-self.ensures refl

pub returns : goal.returns
returns c =
    stayed_held c.args.job.now.file.now c.args.job.now.opened _ c.moves_on.ensures c.if-moves_on.false c.stay.ensures
