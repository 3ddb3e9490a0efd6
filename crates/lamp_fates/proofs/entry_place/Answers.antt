use Rattle.std.proofs.Common.{◌≡◌, ℕ, ◌+◌, ◌*◌, ◌≤◌, arith}
use Rattle.lamp_line.proofs.Products.{product_le}
use Rattle.lamp_line.specs.declared.Pair.{Pair}
use Rattle.run_laws.specs.inner.Pairs.{pair_number}
use Rattle.lamp_fates.proofs.entry_place.Goals as goal

-- The number of a pair is small, and so is the first place of a column, whatever the numbers of the job are.
number_small :
    {worlds number : ℕ} (p : Pair) → number ≡ pair_number worlds p → p.state.0 ≤ 255 → p.world.0 ≤ 255 → worlds ≤ 255 →
    number ≤ 65280
unfolding pair_number
number_small {worlds} p e state≤ world≤ worlds≤ = omega (arith, product_le 255 255 p.state.0 worlds state≤ worlds≤)

first_small :
    (column states worlds : ℕ) → column ≤ 255 → states ≤ 255 → worlds ≤ 255 → column * ((states + 1) * worlds) ≤ 255 * 65280
first_small column states worlds column≤ states≤ worlds≤ =
    product_le 255 65280 column ((states + 1) * worlds) column≤ (product_le 256 255 (states + 1) worlds (omega arith) worlds≤)

pub overflow_add-result : goal.overflow_add-result
overflow_add-result c =
    let a = c.args in
    let job = a.job.now.head in
    omega (
      arith,
      c.first_place.ensures,
      first_small a.column job.states job.worlds (omega arith) (omega arith) (omega arith),
      number_small a.pair c.pair_number.ensures (omega arith) (omega arith) (omega arith),
    )
