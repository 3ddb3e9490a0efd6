-- What is known of a call with a start and a line that is not refused: its file is not, and neither 14 nor 15 applies.
use Rattle.std.proofs.Common.{◌≡◌, refl, sym, Bool, true, false, ◌||◌, not, List, [], ◌∷◌, ℕ, ◌≤◌, leb, length, None}
use Rattle.lamp_line.specs.declared.WorldState.{WorldState}
use Rattle.lamp_line.specs.declared.Refusal.TheVariants as refused
use Rattle.lamp_line.specs.Tables.{Tables, Line, Beginning}
use Rattle.lamp_line.specs.Refusals.{Rule, ◌when◌, refusal}
use Rattle.lamp_line.proofs.Answering.{none_of_both, first_not_applied}
use Rattle.job_layout.specs.Layout.{head}
use Rattle.job_layout.specs.JobTables.{tables_of}
use Rattle.job_file.specs.Reading.{file_refusals, Opened}
use Rattle.job_file.proofs.Opening.{opened_unrefused}
use Rattle.line_refusals.specs.LineRefusals.{start_unmarked, line_wrong, line_refusals}
use Rattle.line_refusals.proofs.LineLaws.{line_right, line_few}

-- The reader has answered for the file, the start is marked, and the line is one of the job's with at most 65,535 lamps.
pub record UnrefusedLine (s : List ℕ) (start : WorldState) (line : Line) : Type 0 where
  pub opened : Opened s (head s)
  pub beginning : Beginning (tables_of s) start line
  pub few : length line.lamps ≤ 65535

-- The two refusals besides those of the file.
abbrev own : Tables → WorldState → Line → List Rule
own t start line = (refused.Start when start_unmarked t start) ∷ (refused.Line when line_wrong t.ends t.kinds line) ∷ []

marked_unless : (a b : Bool) → (a || not b) ≡ false → b ≡ true
marked_unless a true e = refl
marked_unless true false e = sym e
marked_unless false false e = sym e

-- This is known where none of the refusals applies.
pub unrefused_line :
    (s : List ℕ) (start : WorldState) (line : Line) → refusal (line_refusals s start line) ≡ None → UnrefusedLine s start line
unrefused_line s start line e =
    let opened = opened_unrefused s (own (tables_of s) start line) e in
    let (marked, after) =
    first_not_applied refused.Start (start_unmarked (tables_of s) start) _ (none_of_both (file_refusals s) (own (tables_of s) start line) e).1 in
    let (right, _) = first_not_applied refused.Line (line_wrong (tables_of s).ends (tables_of s).kinds line) [] after in
    record {
      opened = opened;
      beginning =
          record {
            marked = marked_unless (leb (tables_of s).worlds start.0) ((tables_of s).start start) marked;
            fits = line_right (tables_of s) line right;
          };
      few = line_few (tables_of s) line right;
    }
