-- For the functions and proofs of the search: what trying a line from a member answers and leaves.
use Rattle.std.specs.Prelude.{◌≡◌, Bool, true, false, List, ℕ, ◌≤◌, Result, Ok, Err}
use Rattle.lamp_line.specs.Tables.{Tables}
use Rattle.search_laws.specs.inner.Entries.{Entry, grown}
use Rattle.check_laws.specs.inner.Search.{fails_at, quiet, finds, tried, line_entry}
use Rattle.working_list.specs.inner.Listing.{table, Listed}
use Rattle.line_trial.specs.declared.FailingEnd.{FailingEnd}

-- The table after a line was tried from a member from which it does not fail: nothing is new, or a pair was found.
pub data Grows (t : Tables) (E : List Entry) (before member kind : ℕ) (E' : List Entry) : Type 0 where
  stays : tried t E member kind ≡ quiet → E' ≡ E → Grows t E before member kind E'
  adds : {y : ℕ} → tried t E member kind ≡ finds y → E' ≡ grown E (line_entry before E member kind y) → Grows t E before member kind E'

-- The line does not fail from the member, and the list holds m pairs: while no member has failed it has those that were found; after that
-- it stays as it is.
pub data Keeps (t : Tables) (list : List ℕ) (n before member kind : ℕ) (list' : List ℕ) (m : ℕ) (clean : Bool) : Type 0 where
  grows :
      clean ≡ true → Grows t (table t list n) before member kind (table t list' m) → Keeps t list n before member kind list' m clean
  was_quiet :
      clean ≡ false → tried t (table t list n) member kind ≡ quiet → list' ≡ list → m ≡ n →
      Keeps t list n before member kind list' m clean
  was_new :
      {y : ℕ} → clean ≡ false → tried t (table t list n) member kind ≡ finds y → list' ≡ list → m ≡ n →
      Keeps t list n before member kind list' m clean

-- What the answer on one member says, with the list and the bits that are left.
abbrev TurnedSo : Tables → List ℕ → ℕ → ℕ → ℕ → ℕ → Bool → Result ℕ FailingEnd → List ℕ → List ℕ → Type 0
TurnedSo t list n before i k clean (Err fails) list' words' =
    (tried t (table t list n) i k ≡ fails_at fails.failure fails.end) × (list' ≡ list) × Listed t list' words' n
TurnedSo t list n before i k clean (Ok m) list' words' =
    Keeps t list n before i k list' m clean × Listed t list' words' m × (n ≤ m)

-- `try_member` answered r for this member and kind.
pub record Turned (t : Tables) (list : List ℕ) (n before i k : ℕ) (clean : Bool) (r : Result ℕ FailingEnd) (list' words' : List ℕ) : Type 0 where
  pub so : TurnedSo t list n before i k clean r list' words'
