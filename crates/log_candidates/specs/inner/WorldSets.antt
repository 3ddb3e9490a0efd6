-- For the functions of this crate: sets of world states as words, with a bit for each world state, and the candidates (log_laws) as
-- such words, one for each column.
use Rattle.std.specs.Prelude.{◌≡◌, ◌⊎◌, ◌↔◌, Bool, true, false, List, ℕ, ◌<◌, get_or}
use Rattle.plans.specs.Execution.{Label, did, action_of, result_of}
use Rattle.lamp_line.specs.declared.WorldState.{WorldState}
use Rattle.lamp_line.specs.Lists.{◌∈◌}
use Rattle.lamp_line.specs.Tables.{outcome, Tables, world_state}
use Rattle.word_bits.specs.Bits.{has_bit}
use Rattle.job_layout.specs.declared.Job.{Job}
use Rattle.job_layout.specs.Layout.{job_columns}
use Rattle.log_laws.specs.inner.Candidates.{Candidates}
use Rattle.log_candidates.specs.declared.LogEntry.{LogEntry}

-- What an entry stands for.
abbrev pub label_of : LogEntry → Label
label_of e = did e.action e.result

-- The job has the action and the result of the entry.
pub record EntryInJob (j : Job) (e : LogEntry) : Type 0 where
  pub action_range : e.action < j.actions
  pub result_range : e.result < j.results

-- The world state is in the set.
abbrev pub Has : ℕ → WorldState → Type 0
Has set w = has_bit set w.0 ≡ true

-- The set has only world states below this number.
pub record InWorlds (set worlds : ℕ) : Type 0 where
  pub below : (w : WorldState) → Has set w → w.0 < worlds

-- The candidates that these words hold: at each column of the tables, the world states of its word.
pub record Holds (j : Job) (sets : List ℕ) (w : WorldState) (c : ℕ) : Type 0 where
  pub is_column : c < job_columns j
  pub has : Has (get_or sets c 0) w

-- They are in world states of the job.
pub record WorldsIn (j : Job) (sets : List ℕ) : Type 0 where
  pub below : (w : WorldState) (c : ℕ) → Holds j sets w c → w.0 < j.worlds

-- `after` has what `before` has, the world states with the property, and nothing else.
pub record Adds (Added : WorldState → Type 0) (before after : ℕ) : Type 0 where
  pub adds : (v : WorldState) → Has after v ↔ (Has before v ⊎ Added v)

-- The world states that some number below n gives.
abbrev pub Gathered : (ℕ → WorldState → Type 0) → ℕ → WorldState → Type 0
Gathered Given n v = (i : ℕ) × (i < n) × Given i v

module _ (t : Tables) where
  -- The number w gives the world state w, if it is a start.
  abbrev pub StartAt : ℕ → WorldState → Type 0
  StartAt w v = (v ≡ world_state w) × (t.start v ≡ true)

  -- The number w gives the world states to which the entry leads from the world state w at this column.
  abbrev pub Led : Label → ℕ → ℕ → WorldState → Type 0
  Led l c w v = outcome v (result_of l) ∈ t.cell (action_of l) (world_state w) c

  -- The world states to which it leads there from some world state of the set.
  abbrev pub LedFrom : Label → ℕ → ℕ → WorldState → Type 0
  LedFrom l c set v = (w : WorldState) × Has set w × Led l c w.0 v

  -- The column c gives those to which it leads there from the column's set.
  abbrev pub LedAt : Label → List ℕ → ℕ → WorldState → Type 0
  LedAt l sets c v = LedFrom l c (get_or sets c 0) v

  -- An entry that stays has led at each of the first n columns from the world states of `before` there to those of `after`.
  pub record Stayed (l : Label) (before after : List ℕ) (n : ℕ) : Type 0 where
    pub led : (c : ℕ) → c < n → Adds (LedAt l before c) 0 (get_or after c 0)

-- The words hold these candidates.
pub record HoldJust (j : Job) (Held : Candidates) (sets : List ℕ) : Type 0 where
  pub holds : (w : WorldState) (c : ℕ) → Holds j sets w c ↔ Held w c

-- Whether no candidate is left.
abbrev pub NoneLeft : Job → List ℕ → Bool → Type 0
NoneLeft j sets true = (w : WorldState) (c : ℕ) → ¬ (Holds j sets w c)
NoneLeft j sets false = (w : WorldState) × (c : ℕ) × Holds j sets w c
