-- The check's answer, and what it leaves in the lent buffers (01, "The check" and "Who can cause which number"; 02, (c), for the end kind).
use Rattle.std.specs.Prelude.{◌≡◌, Bool, ◌||◌, List, [], ◌∷◌, ◌++◌, ℕ, ◌+◌, ◌*◌, ◌≤◌, ltb, length, take, drop}
use Rattle.std.specs.Prelude.{Option, None, Some, Result, Ok, Err}
use Rattle.lamp_line.specs.Tables.{Tables, Line, line_of}
use Rattle.lamp_line.specs.declared.Refusal.{Refusal}
use Rattle.lamp_line.specs.declared.Refusal.TheVariants as refused
use Rattle.lamp_line.specs.Refusals.{Rule, ◌when◌, refusal}
use Rattle.lamp_line.specs.Check.{accepted, failed, Right}
use Rattle.job_layout.specs.JobTables.{tables_of}
use Rattle.job_file.specs.Reading.{file_refusals}
use Rattle.line_finding.specs.declared.Failure.{Failure}
use Rattle.plan_check.specs.declared.CheckError.{CheckError}
use Rattle.plan_check.specs.declared.CheckError.TheVariants as error

-- 12: the line buffer has fewer than S·W + 1 bytes.
abbrev pub buffer_short : Tables → ℕ → Bool
buffer_short t size = ltb size (t.states * t.worlds + 1)

-- 13: the working list has fewer than (S + 1)·W numbers, or the words have fewer bits than that.
abbrev pub list_short : Tables → ℕ → ℕ → Bool
list_short t numbers words = ltb numbers ((t.states + 1) * t.worlds) || ltb (64 * words) ((t.states + 1) * t.worlds)

-- The refusals of a check: those of the file, then 12 and 13. The sizes are those of the lent line buffer, working list and words.
abbrev pub check_refusals : List ℕ → ℕ → ℕ → ℕ → List Rule
check_refusals s buffer numbers words =
    file_refusals s ++
    (refused.LineBuffer when buffer_short (tables_of s) buffer) ∷
    (refused.WorkingSpace when list_short (tables_of s) numbers words) ∷
    []

-- The line of a failure: it has the kind of end that is told, and its lamps are at the front of the line buffer.
abbrev pub failed_line : Failure → List ℕ → Line
failed_line f buffer = line_of f.end (take f.lamps buffer)

-- The failure is the right one, and the bytes of the line buffer after its lamps are as before.
pub record FailedRight (t : Tables) (f : Failure) (line line' : List ℕ) : Type 0 where
  pub right : Right t (failed f.kind f.start (failed_line f line'))
  pub within : f.lamps ≤ length line'
  pub others : drop f.lamps line' ≡ drop f.lamps line

-- What a check answers: what it has found where no line fails, or why it does not accept.
abbrev pub CheckAnswer : Type 0 → Type 0
CheckAnswer A = Result A CheckError

-- A right answer on tables that are not refused, for the line buffer before and after. After Ok, with the number of pairs that are reached,
-- the buffer is as before.
unfoldable pub AnsweredRight : Tables → CheckAnswer ℕ → List ℕ → List ℕ → Type 0
AnsweredRight t (Ok count) line line' = Right t (accepted count) × (line' ≡ line)
AnsweredRight t (Err (error.Failed f)) line line' = FailedRight t f line line'
AnsweredRight t (Err (error.Refused because)) line line' = ⊥

-- The content of the lent buffers.
pub record Lent : Type 0 where
  pub line : List ℕ
  pub list : List ℕ
  pub words : List ℕ

-- If a refusal applies, it is the answer, and no lent byte is changed; otherwise the answer is right. The full and the short check are right
-- each in its own way, which is handed in: with the answers that are right for the line buffer before and after.
abbrev pub CheckedBy : {A : Type 0} → (CheckAnswer A → List ℕ → List ℕ → Type 0) → Option Refusal → CheckAnswer A → Lent → Lent → Type 0
CheckedBy IsRight (Some because) r before after = (r ≡ Err (error.Refused because)) × (after ≡ before)
CheckedBy IsRight None r before after = IsRight r before.line after.line

-- The refusal of a call with these buffers.
abbrev pub check_refusal : List ℕ → Lent → Option Refusal
check_refusal s before = refusal (check_refusals s (length before.line) (length before.list) (length before.words))

-- The contract of the check, for the file's bytes, the answer, and the lent buffers before and after.
abbrev pub Checked : List ℕ → CheckAnswer ℕ → Lent → Lent → Type 0
Checked s r before after = CheckedBy (AnsweredRight (tables_of s)) (check_refusal s before) r before after
