use native.Mathlib.Omega.{arith}
use Rattle.std.proofs.Common.{rules}
use Rattle.working_list.proofs.LineLoops.{from_within, writes_on, all_written}
use Rattle.working_list.proofs.line.write_line.Goals as goal

pub bounds-list-from : goal.bounds-list-from
bounds-list-from c =
    from_within c.loop-at.invariant c.loop-at-test.true

pub loop-at-preserved : goal.loop-at-preserved
loop-at-preserved c =
    writes_on c.loop-at.invariant c.loop-at-test.true c.unpack-before.ensures

pub overflow_cast-result : goal.overflow_cast-result
overflow_cast-result c =
    omega (arith, c.loop-at.invariant.member_of.a_start (all_written c.loop-at.invariant c.loop-at-test.false))

pub returns : goal.returns
returns c =
    search (rules, all_written c.loop-at.invariant c.loop-at-test.false)
