-- The numbers of failures, and what the fate of a pair says about the one-lamp walk.
use mathlib.Core.Path.{◌≡◌, refl, sym, ap, ◌∙◌}
use mathlib.Core.Bool.{true, cond}
use Prim.Native.Nat.{ℕ, zero, suc, ◌<◌}
use native.Mathlib.Decide.{ℕ_discrete}
use native.Mathlib.Omega.{arith}
use borrow.Author.Tests.{eq-eqb}
use lib.Dec.{eqb}
use Rattle.lamp_line.specs.declared.FailureKind.{FailureKind}
use Rattle.lamp_line.specs.declared.FailureKind.TheVariants.{NotLegal, NoBranch, Circles, GoalFalse}
use Rattle.lamp_line.specs.declared.Ending.TheVariants.{Goal, Failure}
use Rattle.lamp_line.specs.Tables.{Tables}
use Rattle.lamp_line.specs.Endings.{kind_number}
use Rattle.lamp_line.specs.declared.Pair.{Pair}
use Rattle.lamp_line.specs.Run.{Walk, ended, arrived, is_final, judged, walk, lamp_walk}
use Rattle.run_laws.specs.inner.Pairs.{InRange, pair_number}
use Rattle.run_laws.proofs.Pairs.{pair_of_number}
use Rattle.run_laws.proofs.Actions.{act_final}
use Rattle.run_laws.proofs.Walks.{walk_spent, walk_ends}
use Rattle.check_laws.specs.inner.Fates.{fails, arrives, fate_of, fate}

-- ---- numbers of failures

-- Failure kinds with the same number are equal.
pub kind_number_injective : (kind kind' : FailureKind) → kind_number kind ≡ kind_number kind' → kind ≡ kind'
kind_number_injective kind kind' e = sym (back kind) ∙ ap kind_from e ∙ back kind'
  where
    kind_from : ℕ → FailureKind
    kind_from n = cond (eqb n 1) NotLegal (cond (eqb n 2) NoBranch (cond (eqb n 3) Circles GoalFalse))

    back : (kind : FailureKind) → kind_from (kind_number kind) ≡ kind
    back NotLegal = refl
    back NoBranch = refl
    back Circles = refl
    back GoalFalse = refl

-- ---- walks and fates

module _ (worlds : ℕ) where
  -- If the fate is a failure, the walk ends with it.
  pub fails_walk : (kind : FailureKind) (v : Walk) → fate_of worlds v ≡ fails kind → (k : ℕ) × (v ≡ ended (Failure kind) k)
  fails_walk kind (ended Goal k) e = absurd (let z : ◌≡◌ {A = ℕ} 0 1 = cc in omega arith)
  fails_walk kind (ended (Failure kind') k) e = (k, cc)
  fails_walk kind (arrived p k) e = absurd (let z : ◌≡◌ {A = ℕ} 0 1 = cc in omega arith)

  -- If the fate is an arrival, the walk arrives with the pair of this number.
  pub arrives_walk :
      (y : ℕ) (v : Walk) → fate_of worlds v ≡ arrives y → (p : Pair) × (k : ℕ) × (v ≡ arrived p k) × (y ≡ pair_number worlds p)
  arrives_walk y (ended Goal k) e = absurd (let z : ◌≡◌ {A = ℕ} 0 1 = cc in omega arith)
  arrives_walk y (ended (Failure kind) k) e = absurd (let z : ◌≡◌ {A = ℕ} 0 1 = cc in omega arith)
  arrives_walk y (arrived p k) e = (p, k, refl, cc)

module _ (t : Tables) where
  -- The fate of a pair of the tables, by its number, is the fate that its walk gives.
  pub fate_of_pair :
      (p : Pair) (c : ℕ) → InRange t p → fate t (pair_number t.worlds p) c ≡ fate_of t.worlds (lamp_walk t p c)
  unfolding fate
  fate_of_pair p c range =
      ap (λ (q : Pair). fate_of t.worlds (lamp_walk t q c)) (pair_of_number t.worlds p range.world_range)

  -- A walk that arrives did not begin in the final state.
  pub arrived_not_final : (n : ℕ) (p p' : Pair) (c k : ℕ) → InRange t p → walk t n p c ≡ arrived p' k → p.state.0 < t.states
  arrived_not_final n p p' c k range e = go (ℕ_discrete p.state.0 t.states)
    where
      stuck : (n : ℕ) → is_final t p.state ≡ true → ¬ (walk t n p c ≡ arrived p' k)
      stuck zero f e = let g = walk_spent t p c true f in let z : ◌≡◌ {A = ℕ} 0 1 = cc in omega arith
      stuck (suc n) f e =
          let g = walk_ends t n p c (judged t p.world c) (act_final t p c f) in
          let z : ◌≡◌ {A = ℕ} 0 1 = cc in
          omega arith

      go : Dec (p.state.0 ≡ t.states) → p.state.0 < t.states
      go (yes f) = absurd (stuck n (eq-eqb p.state.0 t.states f) e)
      go (no f) = omega (arith, range.state_range)
