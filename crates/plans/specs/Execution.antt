-- The execution of a plan, and when a plan is correct: 001 (Hu and Levesque, 2011), Definitions 4 and 5.
use Rattle.std.specs.Prelude.{◌≡◌, ◌≢◌, List, [], ◌∷◌, ◌++◌, ℕ, suc}
use Rattle.std.specs.Prelude.{Some}
use Rattle.plans.specs.Plan.{Action, Result, ActionTheory, PlanningProblem, Plan}

-- What can be seen of a step: its action and its sensing result.
pub data Label : Type 0 where
  did : Action → Result → Label

abbrev pub action_of : Label → Action
action_of (did a r) = a

abbrev pub result_of : Label → Result
result_of (did a r) = r

module _ (D : ActionTheory) (P : Plan) where
  -- 001, Definition 4, the premise of the third clause: γ(q) = a, Poss(a, s), SR(a, s) = r, δ(q, r) = q' and s' = do(a, s). γ is
  -- not defined at the final state, so no step leaves it.
  pub record Step (q : P.State) (s : D.Situation) (step : Label) (q' : P.State) (s' : D.Situation) : Type 0 where
    pub live : q ≢ P.final
    pub acts : action_of step ≡ P.γ q
    pub does : D.Does (P.γ q) s (result_of step) s'
    pub branch : P.δ q (result_of step) ≡ Some q'

  -- 001, Definition 4: the least relation that satisfies the three clauses. It also carries the labels of the steps, first to last;
  -- the length of that list is the number of steps.
  pub data T* : List Label → P.State → D.Situation → P.State → D.Situation → Type 0 where
    here : {q : P.State} {s : D.Situation} → T* [] q s q s
    join :
        {m n : List Label} {q q'' q' : P.State} {s s'' s' : D.Situation} →
        T* m q s q'' s'' → T* n q'' s'' q' s' → T* (m ++ n) q s q' s'
    step : {l : Label} {q q' : P.State} {s s' : D.Situation} → Step q s l q' s' → T* (l ∷ []) q s q' s'

  -- The execution goes on for ever: an endless sequence of program states and situations, with a step from each to the next.
  pub record Forever (q : P.State) (s : D.Situation) : Type 0 where
    pub states : ℕ → P.State
    pub situations : ℕ → D.Situation
    pub labels : ℕ → Label
    pub begins : (states 0 ≡ q) × (situations 0 ≡ s)
    pub steps : (i : ℕ) → Step (states i) (situations i) (labels i) (states (suc i)) (situations (suc i))

-- 001, Definition 5: from every situation that may come first, the execution reaches the final state with the goal true.
unfoldable pub Correct : PlanningProblem → Plan → Type 0
Correct problem P =
    (s : problem.theory.Situation) → problem.First s →
    (ls : List Label) × (s' : problem.theory.Situation) ×
    T* problem.theory P ls P.initial s P.final s' × problem.Goal s'
