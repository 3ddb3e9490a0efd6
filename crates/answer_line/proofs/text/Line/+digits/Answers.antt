use Rattle.std.proofs.Common.{◌/◌, arith, rules}
use Rattle.std.specs.Fmt.{decimal}
use Rattle.std.proofs.lemmas.Fmt.{decimal_step, decimal_digit, decimal_nonempty}
use Rattle.answer_line.proofs.Writing.{appended_then, more_digits}
use Rattle.answer_line.proofs.text.Line.+digits.Goals as goal
use Rattle.answer_line.proofs.text.Line.+digits.Goals.{then-n-ge10, else-n-ge10}

pub digits-requires : goal.digits-requires
digits-requires t c =
    let more = more_digits c.args.n c.if-n-ge10.true c.ranges.n.fits in
    (search rules, omega (arith, c.requires, more))

pub byte-requires : goal.byte-requires
byte-requires t c =
    elim c.if-n-ge10.branch [
      | then-n-ge10 w ↦
          let more = more_digits c.args.n w.if-n-ge10.true c.ranges.n.fits in
          rw w.self-is (omega (arith, c.requires, more, w.digits.ensures.size, w.digits.ensures.wrote.place))
      | else-n-ge10 w ↦ rw w.self-is (omega (arith, c.requires, decimal_nonempty c.args.n (omega (arith, c.ranges.n.fits))))
    ]

pub returns : goal.returns
returns t c =
    elim c.if-n-ge10.branch [
      | then-n-ge10 w ↦
          rw (decimal_step c.args.n w.if-n-ge10.true (omega (arith, c.ranges.n.fits)))
          (appended_then {xs = decimal (c.args.n / 10)} (rw w.self-is w.digits.ensures) c.byte.ensures)
      | else-n-ge10 w ↦ rw (decimal_digit c.args.n w.if-n-ge10.false, ← w.self-is) (search (rules, c.byte.ensures))
    ]
