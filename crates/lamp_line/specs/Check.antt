-- The check (01, "The check"): failing lines and their order, the pairs that some line reaches, and which answers are right. The
-- lines of these definitions may have any length.
use Rattle.std.specs.Prelude.{◌≡◌, ◌⊎◌, true, List, [], ◌∷◌, ◌++◌, ℕ, ◌+◌, ◌*◌, ◌≤◌, length}
use Rattle.plans.specs.Execution.{Label, action_of, T*, Correct}
use Rattle.lamp_line.specs.declared.WorldState.{WorldState}
use Rattle.lamp_line.specs.declared.FailureKind.{FailureKind}
use Rattle.lamp_line.specs.declared.Ending.TheVariants.{Failure}
use Rattle.lamp_line.specs.Lists.{NumberOf, ◌≼◌}
use Rattle.lamp_line.specs.Tables.{Tables, Line, Beginning, Situation, lamp_theory, lamp_problem, plan_of, moves_on}
use Rattle.lamp_line.specs.Endings.{Leads}
use Rattle.lamp_line.specs.declared.Pair.{Pair}

-- A world state, and the part of the line that is left.
abbrev pub situation : WorldState → Line → Situation
situation w line = record { world = w; rest = line }

-- What the check answers for a job that is not refused: accepted with a number of pairs, or failed with the failure kind, the start
-- and the line.
pub data Verdict : Type 0 where
  accepted : ℕ → Verdict
  failed : FailureKind → WorldState → Line → Verdict

module _ (t : Tables) where
  -- 01, "The check": the line fails from the start, with this failure kind, if the execution of the line leads to that failure.
  pub record Fails (kind : FailureKind) (start : WorldState) (line : Line) : Type 0 where
    pub beginning : Beginning t start line
    pub leads : Leads (lamp_problem t) (plan_of t) (Failure kind) t.first (situation start line)

  -- 02, (f): failing lines are ordered by length, then by the lamp kinds from the first lamp on, then by the kind of the line's end, and
  -- last by the start. The ranks of two lines and their starts are compared by ≼.
  unfoldable pub rank : WorldState → Line → List ℕ
  rank start line = length line.lamps ∷ (line.lamps ++ (line.end ∷ start.0 ∷ []))

  -- What a failing check names: the line fails from the start with this failure kind, it comes first of all that fail, and it has
  -- at most S·W + 1 lamps.
  pub record Counterexample (kind : FailureKind) (start : WorldState) (line : Line) : Type 0 where
    pub fails : Fails kind start line
    pub first :
        (kind' : FailureKind) (start' : WorldState) (line' : Line) → Fails kind' start' line' →
        rank start line ≼ rank start' line'
    pub short : length line.lamps ≤ t.states * t.worlds + 1

  -- After these steps the execution has just arrived at a lamp or at the line's end: there is no step, or the last one moves on.
  abbrev pub Arrival : List Label → Type 0
  Arrival ls = (ls ≡ []) ⊎ ((ms : List Label) × (l : Label) × (ls ≡ ms ++ (l ∷ [])) × (moves_on t (action_of l) ≡ true))

  -- 01, "The check": which pairs are counted. The execution of some line from some marked start has the pair at its beginning, or
  -- directly after a step that moves on. The program state may be S.
  pub record Reached (p : Pair) : Type 0 where
    pub start : WorldState
    pub line : Line
    pub beginning : Beginning t start line
    pub labels : List Label
    pub rest : Line
    pub arrives : Arrival labels
    pub execution :
        T* (lamp_theory t) (plan_of t) labels t.first (situation start line) p.state (situation p.world rest)

  -- What Accepted with a count says: the plan is correct (001, Definition 5) for every marked start and every line of any length and
  -- any kind of end, and the count is the number of reached pairs.
  pub record Accepts (count : ℕ) : Type 0 where
    pub correct : Correct (lamp_problem t) (plan_of t)
    pub counted : NumberOf Reached count

  -- The verdict is a right answer of the check.
  unfoldable pub Right : Verdict → Type 0
  Right (accepted count) = Accepts count
  Right (failed kind start line) = Counterexample kind start line
