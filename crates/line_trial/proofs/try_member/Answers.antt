use native.Mathlib.Omega.{arith}
use Rattle.line_trial.proofs.NewPairs.{new_pair, few_pairs, list_has_room, bit_has_room, packable, pair_placed, pair_passed}
use Rattle.line_trial.proofs.try_member.Goals as goal

pub set_bit-requires : goal.set_bit-requires
set_bit-requires c =
    let new = new_pair _ c.args.job.now.opened c.requires.1 c.requires.2 c.try_line.ensures c.in_ok-pair.was c.in-Some.is in
    omega (arith, c.pair_number.ensures, bit_has_room new)

pub pack-requires : goal.pack-requires
pack-requires c =
    let new = new_pair _ c.args.job.now.opened c.requires.1 c.requires.2 c.try_line.ensures c.in_ok-pair.was c.in-Some.is in
    packable new _

pub offset_bounds-list-count : goal.offset_bounds-list-count
offset_bounds-list-count c =
    let new = new_pair _ c.args.job.now.opened c.requires.1 c.requires.2 c.try_line.ensures c.in_ok-pair.was c.in-Some.is in
    omega (arith, few_pairs new)

pub bounds-list-count : goal.bounds-list-count
bounds-list-count c =
    let new = new_pair _ c.args.job.now.opened c.requires.1 c.requires.2 c.try_line.ensures c.in_ok-pair.was c.in-Some.is in
    omega (arith, list_has_room new)

pub overflow_add-result : goal.overflow_add-result
overflow_add-result c =
    let new = new_pair _ c.args.job.now.opened c.requires.1 c.requires.2 c.try_line.ensures c.in_ok-pair.was c.in-Some.is in
    omega (arith, few_pairs new)

pub returns : goal.returns
returns c =
    let new = new_pair _ c.args.job.now.opened c.requires.1 c.requires.2 c.try_line.ensures c.in_ok-pair.was c.in-Some.is in (
      pair_placed new _ c.if-not-clean.false c.pack.ensures c.pair_number.ensures
          c.set_bit.ensures,
      c.try_line.ensures.remembers,
    )

pub returns-then-not-clean : goal.returns-then-not-clean
returns-then-not-clean c =
    let new = new_pair _ c.args.job.now.opened c.requires.1 c.requires.2 c.try_line.ensures c.in_ok-pair.was c.in-Some.is in
    (pair_passed new _ c.if-not-clean.true, c.try_line.ensures.remembers)
