-- The line that the program prints for a job file (01, "Bench line G", last paragraph), as ASCII bytes: `accepted` and the number of pairs;
-- `refused` and the number of the refusal; or `fails`, the failure kind, the start, the number of lamps, the kind of each lamp and last
-- the kind of the line's end (02, (c)).
use Rattle.std.specs.Prelude.{◌≡◌, cond, List, [], ◌∷◌, ◌++◌, ℕ, zero, suc, ◌+◌, ◌/◌, ◌%◌, ◌≤◌, ltb, length, take, drop}
use Rattle.std.specs.Prelude.{Option, None, Some}
use Rattle.lamp_line.specs.Tables.{Tables}
use Rattle.lamp_line.specs.Endings.{kind_number}
use Rattle.lamp_line.specs.declared.Refusal.{Refusal}
use Rattle.lamp_line.specs.Refusals.{refusal_number, refusal}
use Rattle.lamp_line.specs.Check.{Verdict, accepted, failed, Right}
use Rattle.job_layout.specs.JobTables.{tables_of}
use Rattle.job_file.specs.Reading.{file_refusals}

-- The decimal digits of a number that has at most `places` of them, with no leading zero.
unfoldable pub decimal_by : ℕ → ℕ → List ℕ
decimal_by zero n = []
decimal_by (suc places) n = cond (ltb n 10) ((48 + n) ∷ []) (decimal_by places (n / 10) ++ ((48 + n % 10) ∷ []))

-- Ten digits are enough for every 32-bit number.
abbrev pub decimal : ℕ → List ℕ
decimal n = decimal_by 10 n

-- The numbers one after the other, each with a blank before it.
unfoldable pub numbers : List ℕ → List ℕ
numbers [] = []
numbers (n ∷ ns) = (32 ∷ decimal n) ++ numbers ns

-- A line of text: a word, numbers, and the end of the line.
abbrev pub text_line : List ℕ → List ℕ → List ℕ
text_line word ns = word ++ (numbers ns ++ (10 ∷ []))

-- "accepted"
abbrev pub accepted_text : List ℕ
accepted_text = 97 ∷ 99 ∷ 99 ∷ 101 ∷ 112 ∷ 116 ∷ 101 ∷ 100 ∷ []

-- "refused"
abbrev pub refused_text : List ℕ
refused_text = 114 ∷ 101 ∷ 102 ∷ 117 ∷ 115 ∷ 101 ∷ 100 ∷ []

-- "fails"
abbrev pub fails_text : List ℕ
fails_text = 102 ∷ 97 ∷ 105 ∷ 108 ∷ 115 ∷ []

-- The line for a refusal.
abbrev pub refused_line : Refusal → List ℕ
refused_line because = text_line refused_text (refusal_number because ∷ [])

-- The line for a verdict of the check.
abbrev pub verdict_line : Verdict → List ℕ
verdict_line (accepted count) = text_line accepted_text (count ∷ [])
verdict_line (failed kind start line) =
    text_line fails_text (kind_number kind ∷ start.0 ∷ length line.lamps ∷ (line.lamps ++ (line.end ∷ [])))

-- The text is the line for the file's refusal, or else for a right verdict.
abbrev pub PrintedBy : Option Refusal → Tables → List ℕ → Type 0
PrintedBy (Some because) t text = text ≡ refused_line because
PrintedBy None t text = (v : Verdict) × Right t v × (text ≡ verdict_line v)

-- The line for the file with bytes s is this text. It is the only such text, since only one answer is right.
abbrev pub Printed : List ℕ → List ℕ → Type 0
Printed s text = PrintedBy (refusal (file_refusals s)) (tables_of s) text

-- The line is the first r bytes of the buffer; the bytes after it are as before.
pub record AnswerIn (s : List ℕ) (r : ℕ) (before after : List ℕ) : Type 0 where
  pub printed : Printed s (take r after)
  pub within : r ≤ length after
  pub others : drop r after ≡ drop r before
