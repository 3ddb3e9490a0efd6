use Rattle.std.proofs.Common.{◌≡◌, ◌<◌, ◌/◌, arith, get_or-take, length-take}
use Rattle.pair_bits.proofs.Sums.{sum_le}
use Rattle.pair_bits.proofs.WordSums.{summed_none, summed_more, summed_rest, summed_all, summed_le}
use Rattle.pair_bits.proofs.sum_bits.Goals as goal

pub loop-word-init : goal.loop-word-init
loop-word-init c = summed_none

pub loop-word-preserved : goal.loop-word-preserved
loop-word-preserved c =
    let o = c.loop-word in
    let within : o.word-index < c.min.result = omega (arith, length-take c.min.result c.args.words.now) in
    rw (get_or-take c.min.result c.args.words.now o.word-index 0 within)
    (summed_more o.invariant (omega arith) (c.type_inv.words o.word-index).fits)

pub overflow_add-sum : goal.overflow_add-sum
overflow_add-sum c = omega (arith, summed_le (loop-word-preserved c))

-- A word is left, so the loop ended with the words that the bits fill.
pub returns-in-Some : goal.returns-in-Some
returns-in-Some c =
    let found = c.in-Some.ensures.lookup in
    let all : c.loop-word.word-index ≡ c.args.n / 64 =
    omega (arith, found.3.0, c.loop-word.invariant.filled, length-take c.min.result c.args.words.now) in
    rw (found.3.1 0, ← all) (summed_rest c.loop-word.invariant (omega arith))

pub overflow_add-sum-in-Some : goal.overflow_add-sum-in-Some
overflow_add-sum-in-Some c = omega (arith, sum_le (returns-in-Some c))

pub returns-in_default : goal.returns-in_default
returns-in_default c =
    summed_all c.loop-word.invariant (omega (arith, c.in_default.ensures.lookup.3, length-take c.min.result c.args.words.now))
