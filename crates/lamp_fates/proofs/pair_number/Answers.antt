use Rattle.std.proofs.Common.{ℕ, ◌+◌, ap₂, ◌∙◌}
use native.Mathlib.Nat.{mul-one}
use Rattle.run_laws.specs.inner.Pairs.{pair_number}
use Rattle.lamp_fates.proofs.pair_number.Goals as goal

pub returns : goal.returns
unfolding pair_number
returns c =
    ap₂ (λ (row place : ℕ). row + place) c.row.ensures (c.row-2.ensures ∙ mul-one c.args.pair.world.0)
