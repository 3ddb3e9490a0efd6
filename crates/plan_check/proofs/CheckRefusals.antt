-- The check's answer, refusal by refusal.
use mathlib.Core.Path.{◌≡◌, refl, sym, ap, subst, ◌∙◌}
use mathlib.Core.Bool.{Bool, true, false, cond, ◌||◌}
use Rattle.std.specs.Prelude.{Option, None, Some, Result, Ok, Err}
use mathlib.Core.List.{List}
use Prim.Native.Nat.{ℕ, ◌+◌, ◌*◌, ◌/◌, ◌≤◌, ◌<◌}
use native.Mathlib.Nat.{suc-mul}
use native.Mathlib.Numerals.{add-one}
use native.Mathlib.Omega.{arith}
use borrow.Author.Tests.{ltb-true, ltb-false, lt-ltb, le-ltb}
use lib.Dec.{ltb}
use lib.ListN.{length}
use Rattle.lamp_line.specs.declared.Refusal.{Refusal}
use Rattle.lamp_line.specs.declared.Refusal.TheVariants as refused
use Rattle.lamp_line.specs.Refusals.{Rule, refusal, Answer, or_refused, answer_by}
use Rattle.job_layout.specs.declared.Job.{Job}
use Rattle.job_layout.specs.JobTables.{tables_by, tables_of}
use Rattle.job_file.specs.Reading.{reading_of, Opened}
use Rattle.plan_check.specs.CheckAnswers.{CheckAnswer, check_refusals, Lent, CheckedBy}
use Rattle.job_file.proofs.Opening.{file_refused, file_opened}
use Rattle.job_file.proofs.WellFormed.{tables_are, well_formed_by}
use Rattle.job_tables.proofs.Ranges.{states_are, worlds_are}
use Rattle.lamp_line.specs.Tables.{Tables}
use Rattle.lamp_line.specs.Check.{Right}
use Rattle.lamp_line.specs.inner.WellFormed.{WellFormed}
use Rattle.lamp_line.proofs.Answering.{by_refusal, by_no_refusal}
use Rattle.check_laws.specs.inner.Search.{verdict_of}
use Rattle.check_laws.proofs.VerdictRight.{verdict_right}
use Rattle.check_laws.proofs.UpTo.{beyond_exactly}
use Rattle.line_finding.specs.declared.Failure.{Failure}
use Rattle.line_finding.specs.inner.Finding.{Room, Finds}
use Rattle.run_laws.proofs.Pairs.{pairs_few}
use Rattle.plan_check.specs.declared.CheckError.TheVariants as error
use Rattle.plan_check.specs.inner.Outcomes.{OutcomeRight, CheckedLines}

-- ---- sizes

same_test : (words n : ℕ) → ltb words ((n + 63) / 64) ≡ ltb (64 * words) n
same_test words n = by (ltb (64 * words) n) refl
  where
    by : (b : Bool) → ltb (64 * words) n ≡ b → ltb words ((n + 63) / 64) ≡ b
    by true e = lt-ltb words ((n + 63) / 64) (omega (arith, ltb-true (64 * words) n e))
    by false e = le-ltb words ((n + 63) / 64) (omega (arith, ltb-false (64 * words) n e))

-- The pairs with a state that is not final, and those with the final one.
all_pairs : (states worlds : ℕ) → (states + 1) * worlds ≡ states * worlds + worlds
all_pairs states worlds = rw (add-one states) (suc-mul states worlds)

-- ---- the refusals

-- The refusals alone, as an answer that says no more than that none applies.
abbrev refused_by_rules : List Rule → Answer (Unit {0})
refused_by_rules rules = answer_by rules tt

-- Where an answer by refusals is one of them, it is the first that applies; where it is none, none applies.
refusal_applies : (rules : List Rule) {because : Refusal} → refused_by_rules rules ≡ Err because → refusal rules ≡ Some because
unfolding answer_by
refusal_applies rules {because} = by (refusal rules)
  where
    by : (o : Option Refusal) → or_refused {A = Unit {0}} o (Ok tt) ≡ Err because → o ≡ Some because
    by None e = absurd (let z : ◌≡◌ {A = ℕ} 0 1 = cc in omega arith)
    by (Some other) e = let same : other ≡ because = cc in ap Some same

no_refusal_applies : (rules : List Rule) → refused_by_rules rules ≡ Ok tt → refusal rules ≡ None
unfolding answer_by
no_refusal_applies rules = by (refusal rules)
  where
    by : (o : Option Refusal) → or_refused {A = Unit {0}} o (Ok tt) ≡ Ok tt → o ≡ None
    by None e = refl
    by (Some other) e = absurd (let z : ◌≡◌ {A = ℕ} 0 1 = cc in omega arith)

module _ (s : List ℕ) (lent : Lent) where
  abbrev rules : List Rule
  rules = check_refusals s (length lent.line) (length lent.list) (length lent.words)

  check_by_refusals :
      {j : Job} → Opened s j →
      refused_by_rules rules
      ≡ cond (ltb (length lent.line) (j.states * j.worlds + 1)) (Err refused.LineBuffer)
      (cond
      (ltb (length lent.list) (j.states * j.worlds + j.worlds)
      || ltb (length lent.words) ((j.states * j.worlds + j.worlds + 63) / 64))
      (Err refused.WorkingSpace) (Ok tt))
  check_by_refusals {j} opened =
      file_opened s _ tt j opened ∙ (by_refusal _ _ _ tt ∙ rw (
        by_refusal,
        by_no_refusal,
        same_test (length lent.words) (j.states * j.worlds + j.worlds),
        ← all_pairs j.states j.worlds,
        states_are s j opened,
        worlds_are s j opened,
      ))

-- ---- the answer

-- What a check answers for what the search found.
abbrev pub answer_of : Result ℕ Failure → CheckAnswer ℕ
answer_of (Ok count) = Ok count
answer_of (Err f) = Err (error.Failed f)

-- What the search finds is right, since the verdict of its definition is.
found_right :
    (s : List ℕ) {j : Job} {longest : ℕ} {r : Result ℕ Failure} {line line' : List ℕ} → Opened s j →
    Finds (tables_by s j) longest r line line' → OutcomeRight (tables_of s) longest (answer_of r) line line'
unfolding OutcomeRight Right
found_right s {j} {longest} {r} {line} {line'} opened finds =
    subst (λ (t : Tables). OutcomeRight t longest (answer_of r) line line') (tables_are s j opened) (go r finds)
  where
    wf : WellFormed (tables_by s j)
    wf = well_formed_by s j opened

    right : Right (tables_by s j) (verdict_of (tables_by s j))
    right = verdict_right (tables_by s j) wf

    go : (r : Result ℕ Failure) → Finds (tables_by s j) longest r line line' → OutcomeRight (tables_by s j) longest (answer_of r) line line'
    go (Ok count) finds =
        record {
          none = (beyond_exactly (tables_by s j) wf longest (verdict_of (tables_by s j)) right).0 finds.so.none;
          all = λ far. subst (Right (tables_by s j)) (finds.so.all (omega (arith, pairs_few wf))) right;
          unchanged = finds.others;
        }
    go (Err f) finds =
        record {
          failed_right = record {
            right = subst (Right (tables_by s j)) finds.so.verdict_is right;
            within = finds.within;
            others = finds.others;
          };
          up_to = finds.so.short;
        }

-- A file that is not refused, with lent buffers that are large enough.
pub record Enough (s : List ℕ) (lent : Lent) (j : Job) : Type 0 where
  pub opened : Opened s j
  pub line_enough : j.states * j.worlds + 1 ≤ length lent.line
  pub list_enough : j.states * j.worlds + j.worlds ≤ length lent.list
  pub words_enough : (j.states * j.worlds + j.worlds + 63) / 64 ≤ length lent.words

-- The tests that the code makes of the three lengths.
pub enough_lent : (line list words : List ℕ) {s : List ℕ} {j : Job} → Opened s j → j.states * j.worlds + 1 ≤ length line →
    j.states * j.worlds + j.worlds ≤ length list → (j.states * j.worlds + j.worlds + 63) / 64 ≤ length words →
    Enough s (record { line = line; list = list; words = words }) j
enough_lent line list words opened line_enough list_enough words_enough =
    record { opened = opened; line_enough = line_enough; list_enough = list_enough; words_enough = words_enough }

module _ {s : List ℕ} {lent : Lent} {j : Job} (enough : Enough s lent j) where
  none_applies : refusal (rules s lent) ≡ None
  none_applies =
      no_refusal_applies (rules s lent)
      (check_by_refusals s lent enough.opened
      ∙ rw (le-ltb _ _ enough.line_enough, le-ltb _ _ enough.list_enough, le-ltb _ _ enough.words_enough))

  -- No refusal applies, so what the search finds is the answer.
  pub found_checked :
      {longest : ℕ} {r : Result ℕ Failure} (after : Lent) → Finds (tables_by s j) longest r lent.line after.line →
      CheckedLines s longest (answer_of r) lent after
  unfolding CheckedLines
  found_checked {longest} {r} after finds =
      subst (λ (o : Option Refusal). CheckedBy (OutcomeRight (tables_of s) longest) o (answer_of r) lent after) (sym none_applies)
      (found_right s enough.opened finds)

  -- There is room for the search.
  pub has_room : Room (tables_by s j) (length lent.line) (length lent.list) (length lent.words)
  has_room =
      record {
        line_room = enough.line_enough;
        list_room = rw (all_pairs j.states j.worlds) enough.list_enough;
        words_room = rw (all_pairs j.states j.worlds) (omega (arith, enough.words_enough));
      }

module _ (s : List ℕ) (longest : ℕ) (lent : Lent) where
  abbrev RefusedWith : Refusal → Type 0
  RefusedWith because = CheckedLines s longest (Err (error.Refused because)) lent lent

  -- The first refusal that applies is the answer, and nothing is changed.
  refused_by : {because : Refusal} → refused_by_rules (rules s lent) ≡ Err because → RefusedWith because
  unfolding CheckedLines
  refused_by {because} e =
      subst (λ (o : Option Refusal). CheckedBy (OutcomeRight (tables_of s) longest) o (Err (error.Refused because)) lent lent)
      (sym (refusal_applies (rules s lent) e))
      (refl, refl)

  -- A refused file is answered with its refusal.
  pub file_refused_checked : {because : Refusal} → reading_of s ≡ Err because → RefusedWith because
  file_refused_checked {because} e = refused_by (sym (file_refused s _ tt because e))

  module _ {j : Job} (opened : Opened s j) where
    -- So is a line buffer that is too short.
    pub buffer_refused : length lent.line < j.states * j.worlds + 1 → RefusedWith refused.LineBuffer
    buffer_refused short = refused_by (check_by_refusals s lent opened ∙ rw (lt-ltb _ _ short))

    module _ (enough : j.states * j.worlds + 1 ≤ length lent.line) where
      -- So is a working list that is too short.
      pub list_refused : length lent.list < j.states * j.worlds + j.worlds → RefusedWith refused.WorkingSpace
      list_refused short = refused_by (check_by_refusals s lent opened ∙ rw (le-ltb _ _ enough, lt-ltb _ _ short))

      -- So are too few words.
      pub words_refused :
          j.states * j.worlds + j.worlds ≤ length lent.list →
          length lent.words < (j.states * j.worlds + j.worlds + 63) / 64 → RefusedWith refused.WorkingSpace
      words_refused listed short = refused_by (check_by_refusals s lent opened ∙ rw (le-ltb _ _ enough, le-ltb _ _ listed, lt-ltb _ _ short))
