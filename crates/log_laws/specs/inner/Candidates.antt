-- The candidates of a replay: the world states and columns at which an execution can be that has given the log so far. They all have
-- the same program state, since the log's results lead the plan there.
use Rattle.std.specs.Prelude.{◌≡◌, ◌≢◌, ◌↔◌, true, false, List, ℕ, ◌<◌}
use Rattle.std.specs.Prelude.{Some}
use Rattle.plans.specs.Execution.{Label, action_of, result_of}
use Rattle.lamp_line.specs.declared.ProgramState.{ProgramState}
use Rattle.lamp_line.specs.declared.WorldState.{WorldState}
use Rattle.lamp_line.specs.Lists.{◌∈◌}
use Rattle.lamp_line.specs.Tables.{outcome, Tables, Line, Fits, Beginning, column, final, moves_on, column_count}
use Rattle.lamp_line.specs.Check.{situation}
use Rattle.lamp_line.specs.Executions.{Execution}

-- A set of candidates: the world state w is a candidate at column c.
abbrev pub Candidates : Type 1
Candidates = WorldState → ℕ → Type 0

module _ (t : Tables) where
  -- Some start and some line lead by the log to this program state and world state, with this rest of the line.
  pub record LeadsTo (log : List Label) (q : ProgramState) (w : WorldState) (rest : Line) : Type 0 where
    pub start : WorldState
    pub line : Line
    pub beginning : Beginning t start line
    pub execution : Execution t start line log q (situation w rest)

  -- Before any entry: the marked starts, at every column.
  abbrev pub FirstCandidates : Candidates
  FirstCandidates w c = (t.start w ≡ true) × (c < column_count t)

  -- After one more entry: where its action leads with its result from some candidate. An action that moves on arrives at any column;
  -- any other stays at the candidate's.
  pub record NextCandidates (From : Candidates) (l : Label) (w : WorldState) (c : ℕ) : Type 0 where
    pub world : WorldState
    pub at : ℕ
    pub candidate : From world at
    pub leads : outcome w (result_of l) ∈ t.cell (action_of l) world at
    pub is_column : c < column_count t
    pub stays : moves_on t (action_of l) ≡ false → c ≡ at

  -- What an entry needs to be made in the program state q from one of these candidates, and to lead to q' and to w at column c.
  pub record NextEntry (q : ProgramState) (From : Candidates) (l : Label) (q' : ProgramState) (w : WorldState) (c : ℕ) : Type 0 where
    pub live : q ≢ final t
    pub acts : action_of l ≡ t.action q
    pub branch : t.target q (result_of l) ≡ Some q'
    pub next : NextCandidates From l w c

  -- The entry cannot be made.
  abbrev pub Stuck : ProgramState → Candidates → Label → Type 0
  Stuck q From l = (q' : ProgramState) (w : WorldState) (c : ℕ) → ¬ (NextEntry q From l q' w c)

  -- The entry can be made, and leads to q' and these candidates.
  pub record GoesOn (q : ProgramState) (From : Candidates) (l : Label) (q' : ProgramState) (Held : Candidates) : Type 0 where
    pub live : q ≢ final t
    pub acts : action_of l ≡ t.action q
    pub branch : t.target q (result_of l) ≡ Some q'
    pub next : (w : WorldState) (c : ℕ) → Held w c ↔ NextCandidates From l w c
    pub some_next : (w : WorldState) × (c : ℕ) × Held w c

  -- After the log, the program state is q and these are the candidates.
  pub record Follows (log : List Label) (q : ProgramState) (Held : Candidates) : Type 0 where
    -- Whatever comes of the line from the candidate's column on, some start and some line lead there.
    pub led : {w : WorldState} {c : ℕ} → Held w c → (rest : Line) → Fits t rest → column t rest ≡ c → LeadsTo log q w rest
    -- No execution that gives the log is anywhere else.
    pub all : {q' : ProgramState} {w : WorldState} {rest : Line} → LeadsTo log q' w rest → (q' ≡ q) × Held w (column t rest)
    -- Candidates are at columns of the tables.
    pub at_column : {w : WorldState} {c : ℕ} → Held w c → c < column_count t
    -- There is a candidate.
    pub some_candidate : (w : WorldState) × (c : ℕ) × Held w c
