-- The words hold the candidates: before the first entry, and after one more. A loop goes through the columns.
use Rattle.std.proofs.Common.{◌≡◌, refl, sym, ◌∙◌, ◌≢◌, ◌↔◌, Bool, true, false, List, ℕ, ◌+◌, ◌≤◌, ◌<◌, arith, length, get_or, set, take, replicate, MatchBool, HoldsAt, get_or-set_same, get_or-set_other, get_or-take, length-take-le}
use mathlib.Core.Bool.{false≢true}
use native.Mathlib.Decide.{ℕ_discrete}
use Rattle.std.proofs.lemmas.List.{get_or-replicate}
use Rattle.std.specs.List.{AllWithin}
use Rattle.plans.specs.Execution.{Label, action_of, result_of}
use Rattle.lamp_line.specs.declared.WorldState.{WorldState}
use Rattle.lamp_line.specs.Tables.{Tables, world_state, moves_on, column_count}
use Rattle.job_layout.specs.Layout.{job_columns}
use Rattle.job_layout.specs.declared.Job.{Job}
use Rattle.job_layout.specs.JobTables.{tables_of}
use Rattle.job_file.specs.Reading.{Opened}
use Rattle.job_tables.proofs.Ranges.{columns_few, worlds_are, kinds_are, ends_are, well_formed}
use Rattle.word_bits.proofs.LowestBit.{some_bit}
use Rattle.word_bits.proofs.WordBits.{none_in_zero}
use Rattle.log_laws.specs.inner.Candidates.{Candidates, FirstCandidates, NextCandidates}
use Rattle.log_candidates.specs.inner.WorldSets.{Has, Holds, WorldsIn, Adds, Gathered, StartAt, LedFrom, LedAt, Stayed, HoldJust, NoneLeft}
use Rattle.log_candidates.proofs.WorldSets.{added_to_none}

-- ---- columns one by one

-- The words of the first n columns are led from those of `before`, and the others are still as there.
pub record Staying (t : Tables) (l : Label) (before after : List ℕ) (n : ℕ) : Type 0 where
  pub stayed : Stayed t l before after n
  pub others : (c : ℕ) → n ≤ c → get_or after c 0 ≡ get_or before c 0

-- One column more.
pub staying_more :
    {t : Tables} {l : Label} {before after : List ℕ} {n word : ℕ} → Staying t l before after n → n < length after →
    Adds (LedFrom t l n (get_or after n 0)) 0 word → Staying t l before (set after n word) (n + 1)
staying_more {t} {l} {before} {after} {n} {word} those room this =
    record {
      stayed = record { led = λ c c<. led c c< (ℕ_discrete c n) };
      others = λ c n<. get_or-set_other after n c word 0 (λ e. omega arith) ∙ those.others c (omega arith);
    }
  where
    led : (c : ℕ) → c < n + 1 → Dec (c ≡ n) → Adds (LedAt t l before c) 0 (get_or (set after n word) c 0)
    led c c< (yes e) = rw (e, get_or-set_same after n word 0 room) (rw (those.others n (omega arith)) at this)
    led c c< (no d) = rw (get_or-set_other after n c word 0 d) (those.stayed.led c (omega arith))

-- ---- no candidate

-- Where the words of all columns are empty there is none.
pub no_candidate : {j : Job} {sets : List ℕ} → ((c : ℕ) → c < job_columns j → get_or sets c 0 ≡ 0) → NoneLeft j sets true
no_candidate empty w c held = false≢true (sym (none_in_zero w.0) ∙ (rw (empty c held.is_column) at held.has))

-- A word that is not 0 holds one.
pub some_candidate_left : {j : Job} {sets : List ℕ} {c : ℕ} → c < job_columns j → get_or sets c 0 ≢ 0 → NoneLeft j sets false
some_candidate_left {c = c} c< other =
    let (w, has) = some_bit other in
    (world_state w, c, record { is_column = c<; has = has })

-- The test of the words up to the number of columns says whether there is no candidate.
pub none_left_by :
    (j : Job) {k : ℕ} (sets : List ℕ) (r : Bool) → k ≡ job_columns j → k ≤ length sets →
    MatchBool r (AllWithin (λ set. set ≡ 0) (take k sets) 0 (length (take k sets)))
    ((c : ℕ) × (c < length (take k sets)) × HoldsAt (λ set. set ≢ 0) (take k sets) c) →
    NoneLeft j sets r
none_left_by j {k} sets true is room all =
    no_candidate (λ c c<.
    sym (get_or-take k sets c 0 (omega arith)) ∙ all c 0 (omega arith) (omega (arith, length-take-le k sets room)))
none_left_by j {k} sets false is room (c, c<, other) =
    let below : c < k = omega (arith, length-take-le k sets room) in
    some_candidate_left (omega arith) (λ e. other 0 (get_or-take k sets c 0 below ∙ e))

-- ---- a file that is not refused

module _ (s : List ℕ) {j : Job} (opened : Opened s j) where
  -- A column of the tables is one of the job's.
  job_column : {c : ℕ} → c < column_count (tables_of s) → c < job_columns j
  job_column c< = rw (kinds_are s j opened, ends_are s j opened) c<

  -- And the other way round.
  table_column : {c : ℕ} → c < job_columns j → c < column_count (tables_of s)
  table_column c< = rw (← kinds_are s j opened, ← ends_are s j opened) c<

  -- The same set at every column.
  everywhere :
      {Held : Candidates} {sets : List ℕ} (word : ℕ) →
      ((w : WorldState) (c : ℕ) → Held w c ↔ (Has word w × (c < column_count (tables_of s)))) → sets ≡ replicate 16 word →
      HoldJust j Held sets
  everywhere {Held} {sets} word is filled =
      record {
        holds = λ w c. (
          λ held. (is w c).1 (rw (same held.is_column) at held.has, table_column held.is_column),
          λ held.
              let (has, c<) = (is w c).0 held in
              record { is_column = job_column c<; has = rw (same (job_column c<)) has },
        );
      }
    where
      same : {c : ℕ} → c < job_columns j → get_or sets c 0 ≡ word
      same {c} c< = rw filled (get_or-replicate 16 c word 0 (omega (arith, columns_few s j opened)))

  -- Before the first entry.
  pub first_held :
      {sets : List ℕ} {word : ℕ} → Adds (Gathered (StartAt (tables_of s)) (tables_of s).worlds) 0 word → sets ≡ replicate 16 word →
      HoldJust j (FirstCandidates (tables_of s)) sets
  first_held added =
      everywhere _ (λ w c. (
        λ (marked, c<). (
          (added_to_none added w).1 (w.0, (well_formed s j opened).formed.start_range w marked, (refl, marked)),
          c<,
        ),
        λ (has, c<). let (i, i<, (same, marked)) = (added_to_none added w).0 has in (marked, c<),
      ))

  -- The first candidates are in world states of the job.
  pub first_worlds : {sets : List ℕ} → HoldJust j (FirstCandidates (tables_of s)) sets → WorldsIn j sets
  first_worlds first =
      record {
        below = λ w c held.
            rw (worlds_are s j opened) ((well_formed s j opened).formed.start_range w ((first.holds w c).0 held).0);
      }

  -- So are those after an entry.
  pub next_worlds :
      {From : Candidates} {l : Label} {sets : List ℕ} → HoldJust j (NextCandidates (tables_of s) From l) sets → WorldsIn j sets
  next_worlds {l = l} next =
      record {
        below = λ w c held.
            let n = (next.holds w c).0 held in
            rw (worlds_are s j opened)
            ((well_formed s j opened).formed.next_range (action_of l) n.world w n.at (result_of l) n.leads);
      }

  -- After one more entry.
  module _ (l : Label) {before : List ℕ} {b : Bool} (read : b ≡ moves_on (tables_of s) (action_of l)) where
    -- It moves on.
    pub passed_held :
        {after : List ℕ} {word : ℕ} → b ≡ true → Adds (Gathered (LedAt (tables_of s) l before) (job_columns j)) 0 word →
        after ≡ replicate 16 word → HoldJust j (NextCandidates (tables_of s) (Holds j before) l) after
    passed_held moving added =
        everywhere _ (λ w c. (
          λ n. (
            (added_to_none added w).1 (
              n.at,
              n.candidate.is_column,
              (n.world, n.candidate.has, n.leads),
            ),
            n.is_column,
          ),
          λ (has, c<).
              let (at, at<, (world, from, leads)) = (added_to_none added w).0 has in
              record {
                world = world;
                at = at;
                candidate = record { is_column = at<; has = from };
                leads = leads;
                is_column = c<;
                stays = λ staying. absurd (false≢true (sym staying ∙ (sym read ∙ moving)));
              },
        ))

    -- It stays.
    pub stayed_held :
        {after : List ℕ} → b ≡ false → Stayed (tables_of s) l before after (job_columns j) →
        HoldJust j (NextCandidates (tables_of s) (Holds j before) l) after
    stayed_held {after} staying stayed =
        record {
          holds = λ w c. (
            λ held.
                let (world, from, leads) = (added_to_none (stayed.led c held.is_column) w).0 held.has in
                record {
                  world = world;
                  at = c;
                  candidate = record { is_column = held.is_column; has = from };
                  leads = leads;
                  is_column = table_column held.is_column;
                  stays = λ e. refl;
                },
            λ n.
                let same : c ≡ n.at = n.stays (sym read ∙ staying) in
                record {
                  is_column = job_column n.is_column;
                  has =
                      (added_to_none (stayed.led c (job_column n.is_column)) w).1
                      (n.world, rw same n.candidate.has, rw same n.leads);
                },
          );
        }
