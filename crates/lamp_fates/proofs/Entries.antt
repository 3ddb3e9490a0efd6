-- Entries as numbers: the entry of a fate is no link, and the fate can be read off it.
use mathlib.Core.Path.{◌≡◌, refl, ap₂, ◌∙◌}
use Prim.Native.Nat.{ℕ, ◌+◌, ◌-◌, ◌/◌, ◌%◌, ◌≤◌, ◌<◌}
use native.Mathlib.Omega.{arith}
use borrow.Author.Tests.{ne_eqb, le-ltb}
use lib.Arith.{digits_div, digits_mod}
use Rattle.lamp_line.specs.declared.FailureKind.{FailureKind}
use Rattle.lamp_line.specs.declared.FailureKind.TheVariants.{NotLegal, NoBranch, Circles, GoalFalse}
use Rattle.lamp_line.specs.declared.Ending.TheVariants.{Goal, Failure}
use Rattle.lamp_line.specs.Tables.{Tables, program_state, world_state}
use Rattle.lamp_line.specs.inner.WellFormed.{WellFormed}
use Rattle.lamp_line.specs.Endings.{kind_number}
use Rattle.lamp_line.specs.declared.Pair.{Pair}
use Rattle.lamp_line.specs.Run.{pair, Walk, ended, arrived, lamp_walk}
use Rattle.run_laws.specs.inner.Pairs.{InRange}
use Rattle.run_laws.proofs.Walks.{arrived_in_range}
use Rattle.fate_laws.specs.inner.Fates.{uncounted}
use Rattle.lamp_fates.specs.inner.Memory.{pair_code, fate_entry, fate_from}

-- The entry of a walk does not depend on the steps that it counts.
pub entry_uncounted : (v : Walk) → fate_entry (uncounted v) ≡ fate_entry v
entry_uncounted (ended Goal k) = refl
entry_uncounted (ended (Failure kind) k) = refl
entry_uncounted (arrived p k) = refl

-- The state and the world are read off the code of a pair.
pair_from_code : (p : Pair) → p.world.0 < 64 → pair (program_state (pair_code p / 64)) (world_state (pair_code p % 64)) ≡ p
pair_from_code p w< =
    ap₂ (λ q w. pair (program_state q) (world_state w)) (digits_div p.state.0 {m = 64} {r = p.world.0} w<)
    (digits_mod p.state.0 {m = 64} {r = p.world.0} w<)

-- An entry from 16 on stands for an arrival.
pub from_arrivals :
    (v : ℕ) → 16 ≤ v → fate_from v ≡ arrived (pair (program_state ((v - 16) / 64)) (world_state ((v - 16) % 64))) 0
from_arrivals v v≥ =
    rw (
      le-ltb v 2 (omega arith),
      ne_eqb v 2 (λ e. omega arith),
      ne_eqb v 3 (λ e. omega arith),
      ne_eqb v 4 (λ e. omega arith),
      le-ltb v 16 v≥,
    )

-- The fate is read off the entry of an arrival.
from_arrival : (p : Pair) (k : ℕ) → p.world.0 < 64 → fate_from (fate_entry (arrived p k)) ≡ arrived p 0
from_arrival p k w< =
    let code : 16 + pair_code p - 16 ≡ pair_code p = omega arith in
    from_arrivals (16 + pair_code p) (omega arith) ∙ rw (code, pair_from_code p w<)

kind_small : (kind : FailureKind) → kind_number kind ≤ 4
kind_small NotLegal = omega arith
kind_small NoBranch = omega arith
kind_small Circles = omega arith
kind_small GoalFalse = omega arith

module _ (t : Tables) (wf : WellFormed t) where
  -- The code of a pair of the tables is small.
  code_small : (p : Pair) → InRange t p → pair_code p < 4160
  code_small p range = omega (arith, range.state_range, range.world_range, wf.formed.states_range, wf.formed.worlds_range.1)

  world_small : (p : Pair) → InRange t p → p.world.0 < 64
  world_small p range = omega (arith, range.world_range, wf.formed.worlds_range.1)

  module _ (p : Pair) (column : ℕ) where
    -- The entry of a fate is no link.
    pub fate_below : fate_entry (lamp_walk t p column) < 8192
    fate_below = go (lamp_walk t p column) refl
      where
        go : (v : Walk) → v ≡ lamp_walk t p column → fate_entry v < 8192
        go (ended Goal k) e = omega arith
        go (ended (Failure kind) k) e = omega (arith, kind_small kind)
        go (arrived p' k) e = omega (arith, code_small p' (arrived_in_range t wf _ p p' column k e))

    -- The fate is read off its entry.
    pub from_entry : fate_from (fate_entry (lamp_walk t p column)) ≡ uncounted (lamp_walk t p column)
    from_entry = go (lamp_walk t p column) refl
      where
        go : (v : Walk) → v ≡ lamp_walk t p column → fate_from (fate_entry v) ≡ uncounted v
        go (ended Goal k) e = refl
        go (ended (Failure NotLegal) k) e = refl
        go (ended (Failure NoBranch) k) e = refl
        go (ended (Failure Circles) k) e = refl
        go (ended (Failure GoalFalse) k) e = refl
        go (arrived p' k) e = from_arrival p' k (world_small p' (arrived_in_range t wf _ p p' column k e))
