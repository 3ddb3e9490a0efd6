-- Request (a) of 02: what the answers of the replay mean, beyond what its contract says of each call, and what a log is.
use Rattle.std.specs.Prelude.{◌≡◌, ◌≢◌, ◌↔◌, List, [], ◌∷◌, ◌++◌, ℕ, length, None, Ok, Err}
use Rattle.plans.specs.Execution.{Label, action_of}
use Rattle.lamp_line.specs.declared.WorldState.{WorldState}
use Rattle.lamp_line.specs.declared.FailureKind.TheVariants.{Circles}
use Rattle.lamp_line.specs.declared.Ending.{Ending}
use Rattle.lamp_line.specs.declared.Ending.TheVariants.{Failure}
use Rattle.lamp_line.specs.Tables.{Tables, Line, Beginning, final}
use Rattle.lamp_line.specs.Refusals.{refusal}
use Rattle.lamp_line.specs.Executions.{Comes}
use Rattle.lamp_line.specs.Replay.{Gives, Possible, FirstImpossible}
use Rattle.job_layout.specs.declared.Job.{Job}
use Rattle.job_layout.specs.JobTables.{tables_of}
use Rattle.job_file.specs.Reading.{Opened}
use Rattle.log_replay.specs.declared.ReplayError.TheVariants.{ImpossibleAt}
use Rattle.log_replay.specs.Logs.{log_of}
use Rattle.log_replay.specs.ReplayAnswers.{replay_refusals, ReplayAnswer, Replayed}

-- ---- the answers

-- A statement about the answer of every replay that is not refused.
abbrev OfEveryReplay : (List ℕ → List ℕ → ReplayAnswer → Type 0) → Type 0
OfEveryReplay Says = (s log : List ℕ) (r : ReplayAnswer) → refusal (replay_refusals s log) ≡ None → Replayed s log r → Says s log r

-- A log is answered to be possible exactly when some start and some line give it.
abbrev pub PossibleExactly : Type 0
PossibleExactly = OfEveryReplay (λ s log r. (r ≡ Ok tt) ↔ Possible (tables_of s) (log_of log))

-- A place is answered exactly when its entry is the first with which no start and line give the log so far.
abbrev pub PlaceExactly : Type 0
PlaceExactly =
    OfEveryReplay (λ s log r. (place : ℕ) →
    (r ≡ Err (ImpossibleAt place)) ↔ FirstImpossible (tables_of s) (log_of log) place)

-- Two replays that are handed the same give the same answer.
abbrev pub ReplayDetermined : Type 0
ReplayDetermined = (s log : List ℕ) (r r' : ReplayAnswer) → Replayed s log r → Replayed s log r' → r ≡ r'

-- ---- logs

-- Where a log is possible, so is each beginning of it; so the places before the first impossible entry are the possible ones.
abbrev pub BeginningPossible : Type 0
BeginningPossible = (t : Tables) (log more : List Label) → Possible t (log ++ more) → Possible t log

-- The log without entries is possible.
abbrev pub EmptyPossible : Type 0
EmptyPossible = (s : List ℕ) (j : Job) → Opened s j → Possible (tables_of s) []

-- No entry comes after the plan's end, nor with an action that is not the plan's: if a log leads to a program state, an entry after it is
-- possible only if that state is not S and has this action.
abbrev pub EntryOfPlan : Type 0
EntryOfPlan =
    (t : Tables) (start : WorldState) (line : Line) (log : List Label) (given : Gives t start line log) (l : Label) →
    Possible t (log ++ (l ∷ [])) → (given.state ≢ final t) × (action_of l ≡ t.action given.state)

-- A log has an entry for each step that is counted: if the run of a line ends with k counted steps, and does not circle, then the logs that
-- the line gives are the beginnings of one list of k entries.
abbrev pub EntriesCounted : Type 0
EntriesCounted =
    (s : List ℕ) (j : Job) → Opened s j → (start : WorldState) (line : Line) → Beginning (tables_of s) start line →
    (x : Ending) (k : ℕ) → Comes (tables_of s) x k start line → x ≢ Failure Circles →
    (labels : List Label) × (length labels ≡ k) ×
    ((log : List Label) → Gives (tables_of s) start line log ↔ ((more : List Label) × (labels ≡ log ++ more)))

-- A plan that circles may go on: the line gives logs of every length.
abbrev pub CirclingGoesOn : Type 0
CirclingGoesOn =
    (s : List ℕ) (start : WorldState) (line : Line) → Beginning (tables_of s) start line →
    (k : ℕ) → Comes (tables_of s) (Failure Circles) k start line →
    (n : ℕ) → (log : List Label) × (length log ≡ n) × Gives (tables_of s) start line log
