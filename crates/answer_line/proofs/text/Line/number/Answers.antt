use Rattle.std.proofs.Common.{ap, arith, length}
use Rattle.answer_line.proofs.Writing.{one_number, length_decimal, decimal_same, appended_then}
use Rattle.answer_line.proofs.text.Line.number.Goals as goal

pub digits-requires : goal.digits-requires
digits-requires c =
    let few = length_decimal 10 c.args.n in
    rw (← decimal_same c.args.n c.ranges.n.fits) (omega (arith, few, c.byte.ensures.size, c.byte.ensures.wrote.place))

pub returns-clause-appended : goal.returns-clause-appended
returns-clause-appended c =
    rw (one_number c.args.n, decimal_same c.args.n c.ranges.n.fits) (appended_then c.byte.ensures c.digits.ensures)

pub returns-clause-upper_bound : goal.returns-clause-upper_bound
returns-clause-upper_bound c =
    let few = length_decimal 10 c.args.n in
    let same = ap length (decimal_same c.args.n c.ranges.n.fits) in
    omega (arith, few, same, c.byte.ensures.wrote.place, c.digits.ensures.wrote.place)
