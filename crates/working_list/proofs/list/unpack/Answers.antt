use Rattle.std.proofs.Common.{refl}
use Rattle.working_list.specs.inner.Placing.{unpacked}
use Rattle.working_list.proofs.list.unpack.Goals as goal

pub returns : goal.returns
unfolding unpacked
returns c =
    refl
