-- The arithmetic of pairs: how many there are at most; their numbers are below the number of pairs, and the pair is read off its number.
use mathlib.Core.Path.{◌≡◌, sym, ap, ap₂, ◌∙◌}
use Prim.Native.Nat.{ℕ, ◌+◌, ◌*◌, ◌≤◌, ◌<◌}
use native.Mathlib.Omega.{arith}
use lib.Arith.{digits_lt, digits_div, digits_mod}
use Rattle.lamp_line.specs.Tables.{Tables, program_state, world_state}
use Rattle.lamp_line.specs.inner.WellFormed.{WellFormed}
use Rattle.lamp_line.specs.declared.Pair.{Pair}
use Rattle.lamp_line.specs.Run.{pair}
use Rattle.lamp_line.proofs.Products.{product_le}
use Rattle.run_laws.specs.inner.Pairs.{InRange, pairs, pair_number, pair_of}

-- There are at most 65 times 64 pairs.
pub pairs_few : {t : Tables} → WellFormed t → pairs t ≤ 4160
pairs_few {t} wf = product_le 65 64 (t.states + 1) t.worlds (omega (arith, wf.formed.states_range)) wf.formed.worlds_range.1

-- The number of a pair whose state is below a bound is below as many rows. With S as the bound the state is not final.
pub pair_number_bound :
    (states worlds : ℕ) (p : Pair) → p.state.0 < states → p.world.0 < worlds → pair_number worlds p < states * worlds
unfolding pair_number
pair_number_bound states worlds p h k = digits_lt h k

-- The number of a pair of the tables is below the number of pairs.
pub pair_number_in : (t : Tables) (p : Pair) → InRange t p → pair_number t.worlds p < pairs t
pair_number_in t p range = pair_number_bound (t.states + 1) t.worlds p (omega (arith, range.state_range)) range.world_range

-- The pair with the number of a pair is that pair.
pub pair_of_number : (worlds : ℕ) (p : Pair) → p.world.0 < worlds → pair_of worlds (pair_number worlds p) ≡ p
unfolding pair_of pair_number
pair_of_number worlds p h =
    ap₂ (λ q w. pair (program_state q) (world_state w)) (digits_div p.state.0 h) (digits_mod p.state.0 h)

-- Pairs with the same number are equal.
pub pair_number_injective :
    (worlds : ℕ) (p p' : Pair) → p.world.0 < worlds → p'.world.0 < worlds → pair_number worlds p ≡ pair_number worlds p' → p ≡ p'
pair_number_injective worlds p p' h h' e = sym (pair_of_number worlds p h) ∙ ap (pair_of worlds) e ∙ pair_of_number worlds p' h'
