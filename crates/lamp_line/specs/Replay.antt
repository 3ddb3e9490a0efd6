-- Replaying a cabinet's log (02, (a)): which logs a start and a line can give, and the first entry of one that none can. A log is
-- the list of the labels of steps, from the plan's first step on. The lines of these definitions may have any length.
use Rattle.std.specs.Prelude.{List, ℕ, suc, ◌<◌, length, take}
use Rattle.plans.specs.Execution.{Label}
use Rattle.lamp_line.specs.declared.ProgramState.{ProgramState}
use Rattle.lamp_line.specs.declared.WorldState.{WorldState}
use Rattle.lamp_line.specs.Tables.{Tables, Line, Situation, Beginning}
use Rattle.lamp_line.specs.Executions.{Execution}

module _ (t : Tables) where
  -- The start and the line give the log: it has the labels of an execution of 001 from there. No steps are counted, so a plan that
  -- circles may go on, and the log may stop before the plan ends.
  pub record Gives (start : WorldState) (line : Line) (log : List Label) : Type 0 where
    pub beginning : Beginning t start line
    pub state : ProgramState
    pub at : Situation
    pub execution : Execution t start line log state at

  -- 02, (a), what is asked of a log: there are a start and a line that give it.
  abbrev pub Possible : List Label → Type 0
  Possible log = (start : WorldState) × (line : Line) × Gives start line log

  -- 02, (a), what is answered of any other log: places are counted from 0, and this is the first at which the log, cut off after that
  -- entry, is given by no start and line.
  pub record FirstImpossible (log : List Label) (place : ℕ) : Type 0 where
    pub is_entry : place < length log
    pub impossible : ¬ (Possible (take (suc place) log))
    pub possible_before : (i : ℕ) → i < place → Possible (take (suc i) log)
