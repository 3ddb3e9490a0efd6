-- The ending of a line's execution, and how many steps are counted (01, "One run"; 001, Definitions 2 and 4). These definitions
-- have no loop, no test and no limit.
use Rattle.std.specs.Prelude.{◌≡◌, List, ℕ, ◌+◌, ◌*◌, length}
use Rattle.plans.specs.Execution.{Label, T*, Forever}
use Rattle.lamp_line.specs.declared.ProgramState.{ProgramState}
use Rattle.lamp_line.specs.declared.WorldState.{WorldState}
use Rattle.lamp_line.specs.declared.FailureKind.TheVariants.{NotLegal, NoBranch, Circles, GoalFalse}
use Rattle.lamp_line.specs.declared.Ending.{Ending}
use Rattle.lamp_line.specs.declared.Ending.TheVariants.{Goal, Failure}
use Rattle.lamp_line.specs.Tables.{Tables, Line, Situation, lamp_theory, lamp_problem, plan_of}
use Rattle.lamp_line.specs.Endings.{Ends}
use Rattle.lamp_line.specs.Run.{own_steps}
use Rattle.lamp_line.specs.Check.{situation, Arrival}

module _ (t : Tables) where
  -- The execution from a start along a line, by these labels, reaches this program state and situation.
  abbrev pub Execution : WorldState → Line → List Label → ProgramState → Situation → Type 0
  Execution start line ls q s = T* (lamp_theory t) (plan_of t) ls t.first (situation start line) q s

  -- The execution comes to rest with this ending. k counts its steps, and those that the ending itself adds.
  pub record RestsAfter (x : Ending) (k : ℕ) (start : WorldState) (line : Line) : Type 0 where
    pub labels : List Label
    pub state : ProgramState
    pub at : Situation
    pub execution : Execution start line labels state at
    pub ends : Ends (lamp_problem t) (plan_of t) x state at
    pub count : k ≡ length labels + own_steps x

  -- The execution goes on for ever at one lamp, or at the line's end. `labels` are its steps up to its arrival there. k counts
  -- these, and S·W more.
  pub record CirclesAfter (k : ℕ) (start : WorldState) (line : Line) : Type 0 where
    pub labels : List Label
    pub state : ProgramState
    pub at : Situation
    pub execution : Execution start line labels state at
    pub arrives : Arrival t labels
    pub passes_none :
        (ms : List Label) (q : ProgramState) (s : Situation) →
        T* (lamp_theory t) (plan_of t) ms state at q s → s.rest ≡ at.rest
    pub forever : Forever (lamp_theory t) (plan_of t) state at
    pub count : k ≡ length labels + t.states * t.worlds

  -- The execution of the line from the start has this ending, with k counted steps.
  unfoldable pub Comes : Ending → ℕ → WorldState → Line → Type 0
  Comes Goal = RestsAfter Goal
  Comes (Failure NotLegal) = RestsAfter (Failure NotLegal)
  Comes (Failure NoBranch) = RestsAfter (Failure NoBranch)
  Comes (Failure Circles) = CirclesAfter
  Comes (Failure GoalFalse) = RestsAfter (Failure GoalFalse)
