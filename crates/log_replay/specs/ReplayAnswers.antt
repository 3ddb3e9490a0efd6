-- What a replay answers (02, (a)).
use Rattle.std.specs.Prelude.{◌≡◌, Bool, ◌||◌, List, [], ◌∷◌, ◌++◌, ℕ, ◌%◌, eqb, leb, ltb, length}
use Rattle.std.specs.Prelude.{Option, None, Some, Result, Ok, Err}
use Rattle.plans.specs.Execution.{action_of, result_of}
use Rattle.lamp_line.specs.Tables.{Tables}
use Rattle.lamp_line.specs.declared.Refusal.{Refusal}
use Rattle.lamp_line.specs.declared.Refusal.TheVariants as refused
use Rattle.lamp_line.specs.Refusals.{Rule, ◌when◌, refusal, some_below}
use Rattle.lamp_line.specs.Replay.{Possible, FirstImpossible}
use Rattle.job_layout.specs.JobTables.{tables_of}
use Rattle.job_file.specs.Reading.{file_refusals}
use Rattle.log_replay.specs.declared.ReplayError.{ReplayError}
use Rattle.log_replay.specs.declared.ReplayError.TheVariants.{ImpossibleAt, Refused}
use Rattle.log_replay.specs.Logs.{log_entry, entry_count, log_of}

-- 20: the log has an odd number of bytes, or more than 65,534.
abbrev pub log_size_wrong : List ℕ → Bool
log_size_wrong log = eqb (length log % 2) 1 || ltb 65534 (length log)

-- Entry i of the log has an action that is not below A, or a result that is not below R.
abbrev pub entry_wrong : ℕ → ℕ → List ℕ → ℕ → Bool
entry_wrong actions results log i = leb actions (action_of (log_entry log i)) || leb results (result_of (log_entry log i))

-- 21: some entry of the log has, wherever it stands.
abbrev pub entries_wrong : ℕ → ℕ → List ℕ → Bool
entries_wrong actions results log = some_below (entry_count log) (entry_wrong actions results log)

-- The refusals of a replay: those of the file, then 20 and 21.
abbrev pub replay_refusals : List ℕ → List ℕ → List Rule
replay_refusals s log =
    file_refusals s ++
    (refused.LogSize when log_size_wrong log) ∷ (refused.LogEntry when entries_wrong (tables_of s).actions (tables_of s).results log) ∷ []

-- What a replay answers: that the log is possible, or why not.
abbrev pub ReplayAnswer : Type 0
ReplayAnswer = Result (Unit {0}) ReplayError

-- A right answer on tables that are not refused.
unfoldable pub ReplayedRight : Tables → List ℕ → ReplayAnswer → Type 0
ReplayedRight t log (Ok possible) = Possible t (log_of log)
ReplayedRight t log (Err (ImpossibleAt place)) = FirstImpossible t (log_of log) place
ReplayedRight t log (Err (Refused because)) = ⊥

-- If a refusal applies, it is the answer; otherwise the answer is right.
abbrev pub ReplayedBy : Option Refusal → Tables → List ℕ → ReplayAnswer → Type 0
ReplayedBy (Some because) t log r = r ≡ Err (Refused because)
ReplayedBy None t log r = ReplayedRight t log r

-- The contract of the replay, for the file's bytes, the log's bytes and the answer.
abbrev pub Replayed : List ℕ → List ℕ → ReplayAnswer → Type 0
Replayed s log r = ReplayedBy (refusal (replay_refusals s log)) (tables_of s) log r
