-- Action theories, planning problems and plans: 001 (Hu and Levesque, 2011), Definitions 1 and 2.
use Rattle.std.specs.Prelude.{Option}
use Rattle.std.specs.Prelude.{ℕ}

-- 001 leaves open what actions and sensing results are; 01 numbers both from 0.
abbrev pub Action : Type 0
Action = ℕ

abbrev pub Result : Type 0
Result = ℕ

-- 001, "Problem and Plan Representation": an action theory, as far as an execution reads it. `Does a s r s'` says that Poss(a, s),
-- SR(a, s) = r and do(a, s) = s'.
pub record ActionTheory : Type 1 where
  pub Situation : Type 0
  pub Does : Action → Situation → Result → Situation → Type 0

-- 001, Definition 1: an action theory and a goal. Two models of the theory differ in their first situation only, so a set of models
-- is given by the situations that may come first.
pub record PlanningProblem : Type 1 where
  pub theory : ActionTheory
  pub First : theory.Situation → Type 0
  pub Goal : theory.Situation → Type 0

-- 001, Definition 2: the program states, the initial and the final one, the action of each state (γ), and the next state for each
-- sensing result (δ). γ and δ are read only at states that are not final. Where 01 has no branch, δ has no value.
pub record Plan : Type 1 where
  pub State : Type 0
  pub initial : State
  pub final : State
  pub γ : State → Action
  pub δ : State → Result → Option State
