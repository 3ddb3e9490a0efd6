-- How an execution ends (01, "One run"), for any planning problem of 001. It comes to rest with Goal or with failure 1, 2 or 4, or
-- it goes on for ever, which is failure 3. These definitions have no step counter.
use Rattle.std.specs.Prelude.{◌≡◌, ◌≢◌, List, ℕ}
use Rattle.std.specs.Prelude.{None}
use Rattle.plans.specs.Plan.{Action, Result, PlanningProblem, Plan}
use Rattle.plans.specs.Execution.{Label, T*, Forever}
use Rattle.lamp_line.specs.declared.FailureKind.{FailureKind}
use Rattle.lamp_line.specs.declared.FailureKind.TheVariants.{NotLegal, NoBranch, Circles, GoalFalse}
use Rattle.lamp_line.specs.declared.Ending.{Ending}
use Rattle.lamp_line.specs.declared.Ending.TheVariants.{Goal, Failure}

-- The numbers that 01 gives to the failure kinds.
abbrev pub kind_number : FailureKind → ℕ
kind_number NotLegal = 1
kind_number NoBranch = 2
kind_number Circles = 3
kind_number GoalFalse = 4

module _ (problem : PlanningProblem) (P : Plan) where
  -- Poss(a, s) of 001: the action has some outcome.
  abbrev pub Poss : Action → problem.theory.Situation → Type 0
  Poss a s = (r : Result) × (s' : problem.theory.Situation) × problem.theory.Does a s r s'

  -- The action of q has an outcome whose result has no branch in the plan.
  abbrev pub LacksBranch : P.State → problem.theory.Situation → Type 0
  LacksBranch q s =
      (r : Result) × (s' : problem.theory.Situation) × problem.theory.Does (P.γ q) s r s' × (P.δ q r ≡ None)

  -- The execution is at rest at q and s, and this is its ending. An execution that circles is never at rest.
  unfoldable pub Ends : Ending → P.State → problem.theory.Situation → Type 0
  Ends Goal q s = (q ≡ P.final) × problem.Goal s
  Ends (Failure NotLegal) q s = (q ≢ P.final) × ¬ (Poss (P.γ q) s)
  Ends (Failure NoBranch) q s = (q ≢ P.final) × LacksBranch q s
  Ends (Failure Circles) q s = ⊥
  Ends (Failure GoalFalse) q s = (q ≡ P.final) × ¬ (problem.Goal s)

  -- The execution from q and s comes to rest with this ending.
  abbrev pub Rests : Ending → P.State → problem.theory.Situation → Type 0
  Rests x q s =
      (ls : List Label) × (q' : P.State) × (s' : problem.theory.Situation) ×
      T* problem.theory P ls q s q' s' × Ends x q' s'

  -- The execution from q and s has this ending: it comes to rest with it or, for failure 3, goes on for ever.
  unfoldable pub Leads : Ending → P.State → problem.theory.Situation → Type 0
  Leads Goal q s = Rests Goal q s
  Leads (Failure NotLegal) q s = Rests (Failure NotLegal) q s
  Leads (Failure NoBranch) q s = Rests (Failure NoBranch) q s
  Leads (Failure Circles) q s = Forever problem.theory P q s
  Leads (Failure GoalFalse) q s = Rests (Failure GoalFalse) q s
