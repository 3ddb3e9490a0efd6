-- For the functions and proofs of the search: a line that is tried from a member, and what each function answers on it.
use Rattle.std.specs.Prelude.{◌≡◌, List, ◌≢◌, false, ℕ, ◌+◌, ◌≤◌, ◌<◌, Option, None, Some, Result, Ok, Err}
use Rattle.lamp_line.specs.Tables.{Tables, column_count}
use Rattle.lamp_line.specs.declared.Pair.{Pair}
use Rattle.lamp_line.specs.declared.FailureKind.{FailureKind}
use Rattle.job_layout.specs.declared.Job.{Job}
use Rattle.job_layout.specs.JobTables.{tables_by}
use Rattle.job_file.specs.Reading.{Opened}
use Rattle.run_laws.specs.inner.Pairs.{InRange, pair_number}
use Rattle.pair_bits.specs.Sum.{bit_at}
use Rattle.lamp_fates.specs.inner.Memory.{Memory}
use Rattle.search_laws.specs.inner.Entries.{Entry}
use Rattle.check_laws.specs.inner.Fates.{fate, at_ends}
use Rattle.check_laws.specs.inner.Search.{fails_at, quiet, finds, visited, visit, at_lamp, tried}
use Rattle.line_trial.specs.declared.Leg.{Leg}
use Rattle.line_trial.specs.declared.FailingEnd.{FailingEnd}

-- The file is not refused and has this job, and the memory is one of fates in its tables.
pub record Ready (s : List ℕ) (j : Job) (memory : List ℕ) : Type 0 where
  pub opened : Opened s j
  pub remembers : Memory (tables_by s j) memory

-- With n pairs in the list there is this member for a line whose last lamp has this kind: a start if the kind is 0, else the place of a
-- pair.
pub record HasMember (t : Tables) (n member kind : ℕ) : Type 0 where
  pub a_start : kind ≡ 0 → member < t.worlds
  pub a_place : 1 ≤ kind → member < n
  pub kind_range : kind ≤ t.kinds

-- ---- one line from one member

-- Where the line goes on with the pair y: at its last lamp, or at its end.
pub data Going (t : Tables) (E : List Entry) (member kind end y column : ℕ) : Type 0 where
  going_at_lamp : t.ends < column → tried t E member kind ≡ at_lamp t E (fate t y column) → Going t E member kind end y column
  going_at_end : column ≡ end → tried t E member kind ≡ visit t E y → Going t E member kind end y column

-- The line goes on so with the pair p, which is one of the tables.
pub record Goes (t : Tables) (E : List Entry) (member kind end : ℕ) (p : Pair) (column : ℕ) : Type 0 where
  pub range : InRange t p
  pub column_range : column < column_count t
  pub going : Going t E member kind end (pair_number t.worlds p) column

-- What the answer on the last leg says of trying the line.
abbrev BeginsSo : Tables → List Entry → ℕ → ℕ → ℕ → Option Leg → Type 0
BeginsSo t E member kind end None = tried t E member kind ≡ quiet
BeginsSo t E member kind end (Some leg) = Goes t E member kind end leg.pair leg.column

-- `last_leg` answered r for this member, kind and end.
pub record Begins (t : Tables) (E : List Entry) (member kind end : ℕ) (r : Option Leg) : Type 0 where
  pub so : BeginsSo t E member kind end r

-- The lower ends were tried: the line fails with none of them, and if there is one, the pair with which it reaches its end is new.
pub record TriedBelow (t : Tables) (E : List Entry) (member kind end : ℕ) : Type 0 where
  pub none_fails : (failure : FailureKind) (e : ℕ) → e < end → tried t E member kind ≢ fails_at failure e
  pub some_new : 0 < end → tried t E member kind ≢ quiet

-- The line reaches its end with a pair that was not met before, and fails with none of the ends up to this one.
pub record EndsSoFar (t : Tables) (E : List Entry) (member kind end : ℕ) (words : List ℕ) (p : Pair) : Type 0 where
  pub range : InRange t p
  pub unmarked : bit_at words (pair_number t.worlds p) ≡ false
  pub visits :
      tried t E member kind ≡ visited (pair_number t.worlds p) false (at_ends t (pair_number t.worlds p))
  pub tried_below : TriedBelow t E member kind (end + 1)

-- The line reaches its end with a pair that was not met before, and fails with no kind of end.
pub record EndsNew (t : Tables) (E : List Entry) (member kind : ℕ) (words : List ℕ) (p : Pair) : Type 0 where
  pub range : InRange t p
  pub unmarked : bit_at words (pair_number t.worlds p) ≡ false
  pub found : tried t E member kind ≡ finds (pair_number t.worlds p)

-- What the functions that try lines answer.
abbrev pub Tried : Type 0
Tried = Result (Option Pair) FailingEnd

-- What the answer on a line says of trying it; of a new pair it says `ForNew`.
abbrev TriesSo : Tables → List Entry → ℕ → ℕ → (Pair → Type 0) → Tried → Type 0
TriesSo t E member kind ForNew (Err fails) = tried t E member kind ≡ fails_at fails.failure fails.end
TriesSo t E member kind ForNew (Ok None) = tried t E member kind ≡ quiet
TriesSo t E member kind ForNew (Ok (Some p)) = ForNew p

-- A function that tries lines answered r for this member and kind, and the memory is still one of fates.
pub record Tries (t : Tables) (E : List Entry) (member kind : ℕ) (ForNew : Pair → Type 0) (r : Tried) (memory' : List ℕ) : Type 0 where
  pub so : TriesSo t E member kind ForNew r
  pub remembers : Memory t memory'

-- `try_end` answered so for one end, and `try_line` for all.
abbrev pub TriesEnd : Tables → List Entry → ℕ → ℕ → ℕ → List ℕ → Tried → List ℕ → Type 0
TriesEnd t E member kind end words = Tries t E member kind (EndsSoFar t E member kind end words)

abbrev pub TriesLine : Tables → List Entry → ℕ → ℕ → List ℕ → Tried → List ℕ → Type 0
TriesLine t E member kind words = Tries t E member kind (EndsNew t E member kind words)
