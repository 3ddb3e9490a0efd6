-- What the tests for refusals 14 and 15 say of a start and a line.
use Rattle.std.proofs.Common.{◌≡◌, refl, sym, ◌∙◌, Bool, true, false, not, ◌||◌, List, [], ◌∷◌, ℕ, ◌+◌, ◌≤◌, ◌<◌, leb, ltb, length, arith, leb-false, ltb-false, le-leb, lt-ltb, le-ltb}
use Rattle.std.proofs.Math.Bool.{or-true}
use Rattle.std.proofs.Math.Decide.{dec_lt}
use Rattle.std.proofs.lemmas.Bool.{lt-leb, not-false}
use Rattle.lamp_line.specs.declared.WorldState.{WorldState}
use Rattle.lamp_line.specs.Tables.{Tables, Line, kinds_of_ends, Kinds, Fits}
use Rattle.lamp_line.specs.inner.WellFormed.{WellFormed}
use Rattle.lamp_line.specs.Refusals.{some_of}
use Rattle.job_layout.specs.declared.Job.{Job}
use Rattle.job_layout.specs.FileRefusals.{outside}
use Rattle.job_layout.specs.JobTables.{tables_by, tables_of}
use Rattle.head_refusals.proofs.HeadLaws.{neither}
use Rattle.line_refusals.specs.LineRefusals.{start_unmarked, line_wrong}

-- If no lamp has a kind outside 1 to `kinds`, the line is of the job's kinds.
right_kinds : (kinds : ℕ) (lamps : List ℕ) → some_of lamps (outside 1 kinds) ≡ false → Kinds kinds lamps
unfolding some_of Kinds
right_kinds kinds [] e = tt
right_kinds kinds (kind ∷ lamps) e =
    let both = neither (outside 1 kinds kind) _ e in
    let bounds = neither (ltb kind 1) (ltb kinds kind) both.0 in
    (ltb-false _ _ bounds.0, ltb-false _ _ bounds.1, right_kinds kinds lamps both.1)

-- A line to which refusal 15 does not apply is one of the job's lines.
pub line_right : (t : Tables) (line : Line) → line_wrong t.ends t.kinds line ≡ false → Fits t line
line_right t line e =
    let to_end = neither _ (leb (kinds_of_ends t.ends) line.end) e in
    let to_kinds = neither (ltb 65535 (length line.lamps)) _ to_end.0 in
    record {
      of_kinds = right_kinds t.kinds line.lamps to_kinds.1;
      ended = leb-false _ _ to_end.1;
    }

-- It has at most 65,535 lamps.
pub line_few : (t : Tables) (line : Line) → line_wrong t.ends t.kinds line ≡ false → length line.lamps ≤ 65535
line_few t line e = ltb-false _ _ (neither (ltb 65535 (length line.lamps)) _ (neither _ _ e).0).0

-- The converse: in a line of these kinds no lamp has a kind outside 1 to `kinds`.
none_outside : (kinds : ℕ) (lamps : List ℕ) → Kinds kinds lamps → some_of lamps (outside 1 kinds) ≡ false
unfolding some_of Kinds
none_outside kinds [] k = refl
none_outside kinds (kind ∷ lamps) (low, high, rest) =
    rw (le-ltb kind 1 low, le-ltb kinds kind high) (none_outside kinds lamps rest)

-- Refusal 15 does not apply to a line of the job that is not too long.
pub line_not_wrong :
    (t : Tables) (line : Line) → length line.lamps ≤ 65535 → Fits t line → line_wrong t.ends t.kinds line ≡ false
line_not_wrong t line few fits =
    rw (
      le-ltb 65535 (length line.lamps) few,
      none_outside t.kinds line.lamps fits.of_kinds,
      lt-leb (kinds_of_ends t.ends) line.end fits.ended,
    )

-- The end's kind is not below E exactly when it is above the highest kind.
pub not_an_end : (ends end : ℕ) → ltb ends end ≡ leb (kinds_of_ends ends) end
unfolding kinds_of_ends
not_an_end ends end = by (dec_lt ends end)
  where
    by : Dec (ends < end) → ltb ends end ≡ leb (ends + 1) end
    by (yes above) = lt-ltb ends end above ∙ sym (le-leb (ends + 1) end (omega arith))
    by (no below) = le-ltb ends end (omega arith) ∙ sym (lt-leb (ends + 1) end (omega arith))

-- A marked start is below W, so refusal 14 applies exactly when the start is not marked.
pub unmarked_is : (t : Tables) → WellFormed t → (start : WorldState) → start_unmarked t start ≡ not (t.start start)
unmarked_is t wf start = by (t.start start) refl
  where
    by : (b : Bool) → t.start start ≡ b → (leb t.worlds start.0 || not b) ≡ not b
    by true e = rw (lt-leb _ _ (wf.formed.start_range start e))
    by false e = or-true (leb t.worlds start.0)

-- What the two tests have found, where neither applies.
pub start_is_marked :
    (s : List ℕ) (start : WorldState) {marked : Bool} → marked ≡ (tables_of s).start start → not marked ≡ false →
    (tables_of s).start start ≡ true
start_is_marked s start is e = sym is ∙ not-false _ e

pub line_is_right :
    (s : List ℕ) (j : Job) (line : Line) {wrong : Bool} → wrong ≡ line_wrong j.ends j.kinds line → wrong ≡ false →
    Fits (tables_by s j) line
line_is_right s j line is e = line_right (tables_by s j) line (sym is ∙ e)
