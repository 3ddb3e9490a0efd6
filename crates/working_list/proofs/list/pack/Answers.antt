use Rattle.std.proofs.Common.{◌≡◌, ◌<◌, refl, Bool, true, false, cond, arith}
use mir.Val.{bool_byte}
use Rattle.working_list.specs.inner.Placing.{packed}
use Rattle.working_list.proofs.list.pack.Goals as goal

-- The byte of a test.
record OneBit (b : Bool) : Type 0 where
  is : bool_byte b ≡ cond b 1 0
  small : bool_byte b < 2

one_bit : (b : Bool) → OneBit b
one_bit true = record { is = refl; small = omega arith }
one_bit false = record { is = refl; small = omega arith }

pub returns : goal.returns
unfolding packed
returns c =
    omega (arith, c.row-2.ensures, c.row.ensures, one_bit c.args.placed.opens)
