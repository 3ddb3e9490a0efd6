-- The tables of a job whose cells have been filled from rules are the rules' tables, and refusal 6 does not apply to it.
use Rattle.std.proofs.Common.{Bool, true, false, cond, List, [], ◌∷◌, ◌≡◌, refl, sym, ap, ◌∙◌, ℕ, zero, suc, ◌+◌, ◌*◌, ◌≤◌, ◌<◌, ◌/◌, ◌%◌, mod-lt, div-lt_iff_lt-mul, div-add-mod', arith, ne_eqb, lt-ltb, leb, length, get_or, drop, get_or-take, get_or-drop}
use Rattle.std.proofs.Math.Bool.{and-false}
use borrow.Author.Tests.{lt-leb}
use Rattle.std.proofs.Math.Arith.{digits_lt}
use Rattle.lamp_line.specs.Lists.{blocks}
use Rattle.lamp_line.specs.Refusals.{refusal, answer_by}
use Rattle.lamp_line.specs.Tables.{world_state, Outcome, outcome, kinds_of_ends, columns}
use Rattle.job_layout.specs.Layout.{job_columns, byte, head, sizes_of, cells_length, next_place, cell_count, width}
use Rattle.lamp_line.specs.declared.WorldState.{WorldState}
use Rattle.lamp_line.proofs.Scan.{none_below}
use Rattle.job_layout.specs.FileRefusals.{cell_wrong_in, cell_wrong_at}
use Rattle.job_layout.specs.JobTables.{outcomes}
use Rattle.job_layout.specs.declared.Sizes.{Sizes}
use Rattle.fluent_rules.specs.CellRules.{matches, rule_outcome, cell_by, rule_cell}
use Rattle.fluent_rules.specs.CellsPart.{cell_bytes, cells_part}
use Rattle.fluent_rules.specs.Fluents.{values_in}
use Rattle.fluent_rules.proofs.Blocks.{blocks_length, in_block}
use Rattle.fluent_rules.proofs.WorldNumbers.{worlds_are_values}
use Rattle.rules_file.specs.RulesFile.{fluents, value_counts, rules_place, rule_size, rule_count, rule_at, rules_from, rules_of}
use Rattle.rules_file.specs.RulesRefusal.{rules_wrong}
use Rattle.rules_file.proofs.RuleBytes.{fluent_bytes_length, rule_in}
use Rattle.rules_file.proofs.RulesTested.{RulesRight, rules_right, rule_right}
use Rattle.rule_worlds.proofs.NewValues.{new_values_right}
use Rattle.world_cells.specs.inner.CellsWritten.{cell_number}
use Rattle.world_cells.proofs.Columns.{cells_row_in}
use Rattle.cell_filling.specs.FillAnswers.{fill_answer, CellsFilled}
use Rattle.cell_filling.specs.RulesInJobs.{cells_part_of, CellsByRules, FilledInJob}
use Rattle.cell_filling.proofs.WholePart.{places_equal}
use Rattle.head_refusals.proofs.HeadLaws.{SizesInside}
use Rattle.std.specs.Prelude.{Ok}

-- ---- what stands where in the part

-- Byte b of a cell, in the list of all cells.
cell_in_part : (n : Sizes) (cell : ℕ → ℕ → ℕ → List ℕ) → ((a w c : ℕ) → length (cell a w c) ≡ 2) →
    (a w c b : ℕ) → a < n.actions → w < n.worlds → c < width n → b < 2 →
    get_or (blocks n.actions (λ a. blocks n.worlds (λ w. blocks (width n) (λ c. cell a w c)))) (2 * cell_number n a w c + b) 0 ≡ get_or (cell a w c) b 0
cell_in_part n cell two a w c b a< w< c< b< =
    let row_long : (a w : ℕ) → length (blocks (width n) (λ c. cell a w c)) ≡ width n * 2 = λ a w. blocks_length 2 (λ c. cell a w c) (two a w) (width n) in
    let rows_long : (a : ℕ) → length (blocks n.worlds (λ w. blocks (width n) (λ c. cell a w c))) ≡ n.worlds * (width n * 2)
    = λ a. blocks_length (width n * 2) (λ w. blocks (width n) (λ c. cell a w c)) (row_long a) n.worlds in
    let in_Cell = digits_lt {q = c} {m = width n} {r = b} {c = 2} c< b< in
    let in_row = digits_lt {q = w} {m = n.worlds} {r = c * 2 + b} {c = width n * 2} w< in_Cell in
    let at : 2 * cell_number n a w c + b ≡ a * (n.worlds * (width n * 2)) + (w * (width n * 2) + (c * 2 + b))
    = omega (arith, places_equal n.worlds (width n) a w c) in
    rw at
    (in_block (n.worlds * (width n * 2)) _ rows_long n.actions a (w * (width n * 2) + (c * 2 + b)) a< in_row
    ∙ in_block (width n * 2) _ (row_long a) n.worlds w (c * 2 + b) w< in_Cell
    ∙ in_block 2 _ (two a w) (width n) c b c< b<)

two_bytes_each : (o : List Outcome) → length (cell_bytes o) ≡ 2
two_bytes_each [] = refl
two_bytes_each (outcome w r ∷ more) = refl

-- ---- what the rules give

-- Not legal, or one outcome in range.
abbrev InRange : ℕ → ℕ → List Outcome → Type 0
InRange worlds results [] = Unit {0}
InRange worlds results (outcome w r ∷ []) = (w.0 < worlds) × (r < results)
InRange worlds results (outcome w r ∷ o ∷ more) = ⊥

module _ (s : List ℕ) (n : Sizes) (right : RulesRight s n) where
  -- A rule's outcome is in range.
  outcome_range : (i : ℕ) → i < rule_count s → (w : WorldState) → w.0 < n.worlds →
      InRange n.worlds n.results (rule_outcome (value_counts s) (rule_at s i) w ∷ [])
  outcome_range i i< w w< =
      let rule = rule_right n (value_counts s) (rule_at s i) (right.each_rule i i<) in
      let before = (worlds_are_values (value_counts s)).has_values w.0 (omega (arith, right.product)) in
      let long = fluent_bytes_length s 1 (omega (arith, right.counts_in)) in
      let place = rule_in s i right.counts_in i< in
      let new_long = fluent_bytes_length s (rules_place s + i * rule_size s + 3 + fluents s) (omega arith) in
      let after = new_values_right (value_counts s) (rule_at s i).new (values_in (value_counts s) w.0) rule.new_right (omega arith) before in
      (omega (arith, right.product, (worlds_are_values (value_counts s)).has_number _ after), rule.result_range)

  cell_range : (k i : ℕ) → i + k ≤ rule_count s → (end_kinds a : ℕ) (w : WorldState) (c : ℕ) → w.0 < n.worlds →
      InRange n.worlds n.results (cell_by (value_counts s) end_kinds (rules_from s i k) a w c)
  unfolding rules_from cell_by
  cell_range zero i in_file end_kinds a w c w< = tt
  cell_range (suc k) i in_file end_kinds a w c w< =
      by (matches end_kinds (rule_at s i) a (values_in (value_counts s) w.0) c) _ _ (outcome_range i (omega arith) w w<)
      (cell_range k (suc i) (omega arith) end_kinds a w c w<)
    where
      by : (b : Bool) (o o' : List Outcome) → InRange n.worlds n.results o → InRange n.worlds n.results o' →
          InRange n.worlds n.results (cond b o o')
      by true o o' h h' = h
      by false o o' h h' = h'

-- Such a cell is read back from its two bytes, and is not wrong.
module _ {worlds results : ℕ} (some : 1 ≤ worlds) (few : results ≤ 8) where
  read_back : (o : List Outcome) → InRange worlds results o → outcomes (get_or (cell_bytes o) 0 0) (get_or (cell_bytes o) 1 0) ≡ o
  read_back [] h = refl
  read_back (outcome w r ∷ []) (w<, r<) = rw (ne_eqb r 255 (λ e. omega arith))
  read_back (outcome w r ∷ o ∷ more) h = absurd h

  right_cell : (o : List Outcome) → InRange worlds results o → cell_wrong_in worlds results (get_or (cell_bytes o) 0 0) (get_or (cell_bytes o) 1 0) ≡ false
  right_cell [] h = rw (lt-leb worlds 0 (omega arith), and-false (leb results 255))
  right_cell (outcome w r ∷ []) (w<, r<) = rw (lt-leb worlds w.0 w<, lt-leb results r r<, ne_eqb r 255 (λ e. omega arith))
  right_cell (outcome w r ∷ o ∷ more) h = absurd h

-- ---- the job

-- The generator's answer says that the rules are not refused.
filled_right : (s : List ℕ) (n : Sizes) (size : ℕ) → (Ok tt) ≡ fill_answer s n size → RulesRight s n
unfolding fill_answer answer_by refusal
filled_right s n size e = rules_right s n (by (rules_wrong s n) refl)
  where
    by : (b : Bool) → rules_wrong s n ≡ b → rules_wrong s n ≡ false
    by false h = h
    by true h = absurd (let z : ◌≡◌ {A = ℕ} 0 1 = (let e' = rw h at e in cc) in omega arith)

module _ (rules s before after : List ℕ) (filled : CellsFilled rules (sizes_of (head s)) (Ok tt) before after) (in_job : cells_part_of s ≡ after) where
  right : RulesRight rules (sizes_of (head s))
  right = filled_right rules (sizes_of (head s)) (length before) filled.answered

  abbrev cell : ℕ → ℕ → ℕ → List Outcome
  cell a w c = rule_cell (rules_of rules) (kinds_of_ends (head s).ends) a (world_state w) c

  -- The two bytes of a cell in the file.
  byte_is : (a w c b : ℕ) → a < (head s).actions → w < (head s).worlds → c < job_columns (head s) → b < 2 →
      byte s (next_place (head s) a (world_state w) c + b) ≡ get_or (cell_bytes (cell a w c)) b 0
  unfolding columns cells_part
  byte_is a w c b a< w< c< b< =
      let in_row = cells_row_in (sizes_of (head s)) a w a< w< in
      let at : next_place (head s) a (world_state w) c + b ≡ (head s).cells.offset + (2 * cell_number (sizes_of (head s)) a w c + b) = omega arith in
      rw at
      (sym (get_or-drop (head s).cells.offset s (2 * cell_number (sizes_of (head s)) a w c + b) 0)
      ∙ sym (get_or-take (cells_length (head s)) (drop (head s).cells.offset s) (2 * cell_number (sizes_of (head s)) a w c + b) 0 (omega arith))
      ∙ ap (λ l. get_or l (2 * cell_number (sizes_of (head s)) a w c + b) 0) (in_job ∙ filled.part)
      ∙ cell_in_part (sizes_of (head s)) (λ a w c. cell_bytes (cell a w c)) (λ a w c. two_bytes_each (cell a w c)) a w c b a< w< c< b<)

  range : (a w c : ℕ) → w < (head s).worlds → InRange (head s).worlds (head s).results (cell a w c)
  range a w c w< = cell_range rules (sizes_of (head s)) right (rule_count rules) 0 (omega arith) (kinds_of_ends (head s).ends) a (world_state w) c w<

  sizes : SizesInside (sizes_of (head s))
  sizes = right.sizes

  -- A cell of the file, by its number among the cells.
  cell_right : (i : ℕ) → i < cell_count (head s) → cell_wrong_at s (head s).cells.offset (head s).worlds (head s).results i ≡ false
  unfolding columns
  cell_right i i< =
      let width = job_columns (head s) in
      let row = i / width in
      let a = row / (head s).worlds in
      let w = row % (head s).worlds in
      let c = i % width in
      let some_world = sizes.worlds in
      let some_column = sizes.some_end in
      let c< = mod-lt i {m = width} (omega arith) in
      let w< = mod-lt row {m = (head s).worlds} (omega arith) in
      let row< = (div-lt_iff_lt-mul {k = width} {x = i} {y = (head s).actions * (head s).worlds} (omega arith)).1 i< in
      let a< = (div-lt_iff_lt-mul {k = (head s).worlds} {x = row} {y = (head s).actions} (omega arith)).1 row< in
      let number : (a * (head s).worlds + w) * width + c ≡ i =
      rw (div-add-mod' row (head s).worlds) (div-add-mod' i width) in
      let next = rw number at (byte_is a w c 0 a< w< c< (omega arith)) in
      let result = rw number at (byte_is a w c 1 a< w< c< (omega arith)) in
      let place : (head s).cells.offset + 2 * i + 0 ≡ (head s).cells.offset + 2 * i = omega arith in
      rw (rw place at next, result) (right_cell (omega arith) sizes.results.1 (cell a w c) (range a w c w<))

  pub cells_by_refusals : CellsByRules rules s
  cells_by_refusals =
      record {
        not_6 = none_below _ (cell_count (head s)) cell_right;
        cells = λ a w c a< w< c<.
            let place : next_place (head s) a w c + 0 ≡ next_place (head s) a w c = omega arith in
            rw (
              lt-ltb a (head s).actions a<,
              lt-ltb w.0 (head s).worlds w<,
              lt-ltb c (job_columns (head s)) c<,
              rw place at (byte_is a w.0 c 0 a< w< c< (omega arith)),
              byte_is a w.0 c 1 a< w< c< (omega arith),
            )
            (read_back sizes.worlds.0 sizes.results.1 (cell a w.0 c) (range a w.0 c w<));
      }

pub filled_in_job : FilledInJob
filled_in_job rules s before after filled in_job = cells_by_refusals rules s before after filled in_job
