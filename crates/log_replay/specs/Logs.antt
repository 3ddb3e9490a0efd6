-- The bytes of a log (02, (a)): a pair of bytes for each entry, its action and the result that was sensed.
use Rattle.std.specs.Prelude.{List, [], ◌∷◌, ◌++◌, ℕ, zero, suc, ◌+◌, ◌*◌, ◌/◌, length}
use Rattle.plans.specs.Execution.{Label, did}
use Rattle.job_layout.specs.Layout.{byte}

-- Entry i of a log, counted from 0.
abbrev pub log_entry : List ℕ → ℕ → Label
log_entry log i = did (byte log (2 * i)) (byte log (2 * i + 1))

-- The first n entries of a log.
unfoldable pub first_entries : List ℕ → ℕ → List Label
first_entries log zero = []
first_entries log (suc n) = first_entries log n ++ (log_entry log n ∷ [])

-- How many entries a log has.
abbrev pub entry_count : List ℕ → ℕ
entry_count log = length log / 2

-- The log that these bytes hold.
abbrev pub log_of : List ℕ → List Label
log_of log = first_entries log (entry_count log)
