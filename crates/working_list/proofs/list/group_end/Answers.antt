use Rattle.working_list.proofs.GroupEnds.{so_far_begins, ends_here, so_far_on, ends_last}
use Rattle.working_list.proofs.list.group_end.Goals as goal

pub loop-to-init : goal.loop-to-init
loop-to-init c =
    so_far_begins c.requires.0 c.requires.1

pub returns-then-unpack : goal.returns-then-unpack
returns-then-unpack c =
    ends_here c.loop-to.invariant c.loop-to-test.true c.unpack.ensures c.if-unpack.true

pub loop-to-preserved : goal.loop-to-preserved
loop-to-preserved c =
    so_far_on c.loop-to.invariant c.loop-to-test.true c.unpack.ensures c.if-unpack.false

pub returns : goal.returns
returns c =
    ends_last c.loop-to.invariant c.loop-to-test.false
