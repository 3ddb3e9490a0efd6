-- From one world state: it is added if it is a start, and the world state to which an entry leads from it if the cell has its result.
-- From all of a set: the scan of its bits gathers them.
use Rattle.std.proofs.Common.{◌≡◌, refl, sym, ◌∙◌, ◌≢◌, Bool, true, false, List, [], ◌∷◌, ℕ, ◌+◌, ◌*◌, ◌≤◌, ◌<◌, arith, eqb-true, ne_eqb, eqb}
use mathlib.Core.Bool.{false≢true}
use native.Mathlib.Decide.{dec_lt}
use borrow.Author.Tests.{eqb-false}
use Rattle.plans.specs.Execution.{Label}
use Rattle.lamp_line.specs.declared.WorldState.{WorldState}
use Rattle.lamp_line.specs.Lists.{◌∈◌}
use Rattle.lamp_line.specs.Tables.{Outcome, outcome, Tables, world_state}
use Rattle.lamp_line.proofs.Members.{none_in_empty, only_member}
use Rattle.job_layout.specs.declared.Job.{Job}
use Rattle.job_layout.specs.JobTables.{outcomes, tables_of}
use Rattle.job_file.specs.Reading.{Opened}
use Rattle.job_tables.specs.declared.CellBytes.{CellBytes}
use Rattle.job_tables.specs.inner.Entries.{BytesOf}
use Rattle.job_tables.proofs.Ranges.{first_in, laid_out, worlds_are}
use Rattle.word_bits.specs.inner.WordBits.{AddedIf, Lowest, WithoutLowest}
use Rattle.word_bits.proofs.BitScan.{Scanning, scan_end, scan_ahead, scan_set, scan_between, scan_more}
use Rattle.log_candidates.specs.declared.LogEntry.{LogEntry}
use Rattle.log_candidates.specs.inner.WorldSets.{label_of, EntryInJob, Has, InWorlds, Adds, Gathered, StartAt, Led, LedFrom}
use Rattle.log_candidates.proofs.WorldSets.{adds_if, adds_same, gathered_more, gathered_on, gathered_all}

-- The bit of a world state is the one of its number, which the code has as the row of a table one wide.
bit_of : {w : WorldState} {add : Bool} {at before after : ℕ} → at ≡ w.0 * 1 → AddedIf add before after at → AddedIf add before after w.0
bit_of {w} e added = let same : w.0 * 1 ≡ w.0 = omega arith in rw (e ∙ same) at added

-- ---- one world state

module _ (s : List ℕ) {j : Job} (opened : Opened s j) where
  -- A world state of the job has a bit in a word.
  pub bit_below : (w : WorldState) {at : ℕ} → at ≡ w.0 * 1 → w.0 < j.worlds → at < 64
  bit_below w e w< = omega (arith, (laid_out s j opened).worlds_range)

  -- So has the one to which a cell leads.
  pub next_bit_below :
      {cell : List Outcome} {bytes : CellBytes} {at : ℕ} → BytesOf cell j.worlds bytes → at ≡ bytes.next.0 * 1 → at < 64
  next_bit_below {bytes = bytes} read e = bit_below bytes.next e read.next_range

  -- All starts are gathered.
  pub starts_gathered :
      {set w : ℕ} → w ≤ j.worlds → j.worlds ≤ w → Adds (Gathered (StartAt (tables_of s)) w) 0 set →
      Adds (Gathered (StartAt (tables_of s)) (tables_of s).worlds) 0 set
  starts_gathered w≤ ≤w = gathered_all w≤ ≤w (worlds_are s j opened)

  -- The world state to which the entry leads is added if the cell has its result. A cell that is not legal has 255, which no result is.
  pub next_added :
      (entry : LogEntry) (c : ℕ) (w : WorldState) {bytes : CellBytes} {at before after : ℕ} →
      BytesOf ((tables_of s).cell entry.action w c) j.worlds bytes → EntryInJob j entry → at ≡ bytes.next.0 * 1 →
      AddedIf (eqb bytes.result entry.result) before after at →
      Adds (Led (tables_of s) (label_of entry) c w.0) before after
  next_added entry c w {bytes} read in_range e added =
      adds_if bytes.next (bit_of e added)
      (λ hit v.
      let same_result = eqb-true bytes.result entry.result hit in
      let legal : ¬ (bytes.result ≡ 255) = λ is. omega (arith, in_range.result_range, (laid_out s j opened).results_range) in
      let is : (tables_of s).cell entry.action w c ≡ outcome bytes.next bytes.result ∷ [] =
      sym read.are ∙ rw (ne_eqb _ _ legal) in (
        λ leads. let same = only_member (outcome v entry.result) (outcome bytes.next bytes.result) (rw is at leads) in cc,
        λ same. rw (is, same, ← same_result) (first_in (outcome bytes.next bytes.result)),
      ))
      (λ miss v leads. elsewhere v (eqb-false _ _ miss) (eqb bytes.result 255) refl (rw (sym read.are) at leads))
    where
      elsewhere :
          (v : WorldState) → bytes.result ≢ entry.result → (b : Bool) → eqb bytes.result 255 ≡ b →
          outcome v entry.result ∈ outcomes bytes.next.0 bytes.result → ⊥
      elsewhere v other true b leads = none_in_empty _ [] refl (rw b at leads)
      elsewhere v other false b leads =
          let same = only_member (outcome v entry.result) (outcome bytes.next bytes.result) (rw b at leads) in
          other (cc)

-- ---- the world states of a set

-- The scan of the set is at w: what the world states below w give is gathered.
pub record Gathering (t : Tables) (l : Label) (c set before rest sum : ℕ) : Type 0 where
  pub w : ℕ
  pub scan : Scanning set rest w
  pub gathered : Adds (Gathered (λ i v. Has set (world_state i) × Led t l c i v) w) before sum

module _ {t : Tables} {l : Label} {c set before : ℕ} where
  module _ {rest sum : ℕ} (now : Gathering t l c set before rest sum) where
    -- The next world state of the set.
    module _ {at : ℕ} (low : Lowest rest at) where
      -- It is one of the job's.
      pub at_world : {worlds : ℕ} → InWorlds set worlds → at < worlds
      at_world within = within.below (world_state at) (scan_set now.scan low)

      -- What it gives is added.
      pub gathering_more :
          {sum' rest' : ℕ} → Adds (Led t l c at) sum sum' → WithoutLowest rest rest' → Gathering t l c set before rest' sum'
      gathering_more this without =
          record {
            w = at + 1;
            scan = scan_more now.scan low without;
            gathered =
                gathered_more (gathered_on now.gathered (scan_ahead now.scan low) nothing_between)
                (adds_same this (λ v. (λ leads. (scan_set now.scan low, leads), λ (has, leads). leads)));
          }
        where
          nothing_between : (k : ℕ) → now.w ≤ k → k < at → (v : WorldState) → ¬ (Has set (world_state k) × Led t l c k v)
          nothing_between k w≤ k< v (has, leads) = false≢true (sym (scan_between now.scan low k w≤ k<) ∙ has)

    -- No world state is left.
    pub gathering_end : rest ≡ 0 → Adds (LedFrom t l c set) before sum
    gathering_end is_empty =
        adds_same now.gathered (λ v. (
          λ (i, i<, (has, leads)). (world_state i, has, leads),
          λ (u, has, leads). by v u (dec_lt u.0 now.w) has leads,
        ))
      where
        by :
            (v u : WorldState) → Dec (u.0 < now.w) → Has set u → Led t l c u.0 v →
            Gathered (λ i v. Has set (world_state i) × Led t l c i v) now.w v
        by v u (yes below) has leads = (u.0, below, (has, leads))
        by v u (no above) has leads =
            absurd (false≢true (sym (scan_end now.scan is_empty u.0 (omega arith)) ∙ has))
