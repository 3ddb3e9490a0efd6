-- The whole part, world state by world state; and that it is the definition's list where each cell is the definition's.
use Rattle.std.proofs.Common.{List, [], ◌∷◌, ◌≡◌, sym, ◌∙◌, ℕ, suc, ◌+◌, ◌*◌, ◌≤◌, ◌<◌, mul_assoc, add-mul, add-one, arith, length, drop-cons, take_all}
use Rattle.std.proofs.Math.Decide.{ℕ_discrete}
use Rattle.lamp_line.specs.Lists.{blocks}
use Rattle.lamp_line.specs.Tables.{world_state}
use Rattle.job_layout.specs.Layout.{byte, width}
use Rattle.job_layout.specs.declared.Sizes.{Sizes}
use Rattle.fluent_rules.specs.CellRules.{rule_cell}
use Rattle.fluent_rules.specs.CellsPart.{cell_bytes, cells_part, part_length}
use Rattle.fluent_rules.proofs.Blocks.{piece, blocks_are}
use Rattle.rules_file.specs.RulesFile.{rules_of}
use Rattle.world_cells.specs.inner.CellsWritten.{cell_at, cell_number, Cleared, WorldFilled}
use Rattle.world_cells.proofs.Columns.{cells_row_in}

-- ---- cells and blocks

-- The place of a cell, by blocks and by its number.
pub places_equal : (worlds columns a w c : ℕ) → a * (worlds * (columns * 2)) + w * (columns * 2) + c * 2 ≡ 2 * ((a * worlds + w) * columns + c)
places_equal worlds columns a w c =
    rw (
      sym (mul_assoc a worlds (columns * 2)),
      sym (mul_assoc (a * worlds) columns 2),
      sym (mul_assoc w columns 2),
      add-mul (a * worlds) w columns,
    )
    (omega arith)

-- Two bytes that follow each other.
two_bytes : (l : List ℕ) (p : ℕ) → p + 1 < length l → piece l p 2 ≡ byte l p ∷ byte l (p + 1) ∷ []
two_bytes l p in_List = rw (drop-cons l p 0 (omega arith), drop-cons l (suc p) 0 (omega arith), add-one p)

-- A part in which each cell is that of a table is the list of the table's cells.
pub cells_are : (n : Sizes) (cell : ℕ → ℕ → ℕ → List ℕ) (l : List ℕ) → length l ≡ part_length n →
    ((a w c : ℕ) → a < n.actions → w < n.worlds → c < width n → cell_at l (cell_number n a w c) ≡ cell a w c) →
    l ≡ blocks n.actions (λ a. blocks n.worlds (λ w. blocks (width n) (λ c. cell a w c)))
cells_are n cell l long each =
    sym (take_all whole l (omega (arith, long, length_by_blocks)))
    ∙ blocks_are n.actions (n.worlds * (width n * 2)) _ l 0 (λ a a<.
    blocks_are n.worlds (width n * 2) _ l (0 + a * (n.worlds * (width n * 2))) (λ w w<.
    blocks_are (width n) 2 _ l (0 + a * (n.worlds * (width n * 2)) + w * (width n * 2)) (λ c c<.
    let at : 0 + a * (n.worlds * (width n * 2)) + w * (width n * 2) + c * 2 ≡ 2 * cell_number n a w c
    = omega (arith, places_equal n.worlds (width n) a w c) in
    let in_row = cells_row_in n a w a< w< in
    rw at (two_bytes l (2 * cell_number n a w c) (omega (arith, long)) ∙ each a w c a< w< c<))))
  where
    whole : ℕ
    whole = n.actions * (n.worlds * (width n * 2))

    length_by_blocks : part_length n ≡ n.actions * (n.worlds * (width n * 2))
    length_by_blocks =
        rw (sym (mul_assoc n.actions n.worlds (width n * 2)), sym (mul_assoc (n.actions * n.worlds) (width n) 2)) (omega arith)

-- ---- the loop that clears the cells

-- The cells before i are not legal.
pub record ClearedTo (before : List ℕ) (i : ℕ) (l : List ℕ) : Type 0 where
  pub long : length l ≡ length before
  pub written : (j : ℕ) → j < i → cell_at l j ≡ cell_bytes []

-- ---- the loop over the world states

-- The world states before `world` are filled; of the others no cell is legal.
pub record PartFilled (s : List ℕ) (n : Sizes) (world : ℕ) (l : List ℕ) : Type 0 where
  pub long : length l ≡ part_length n
  pub filled :
      (a w c : ℕ) → a < n.actions → w < n.worlds → c < width n → w < world →
      cell_at l (cell_number n a w c) ≡ cell_bytes (rule_cell (rules_of s) n.end_kinds a (world_state w) c)
  pub not_legal : (a w c : ℕ) → a < n.actions → w < n.worlds → c < width n → world ≤ w → cell_at l (cell_number n a w c) ≡ cell_bytes []

module _ {s : List ℕ} {n : Sizes} where
  -- No cell is legal.
  pub part_start : {before l : List ℕ} → length before ≡ part_length n → Cleared before l → PartFilled s n 0 l
  part_start long change =
      record {
        long = change.long ∙ long;
        filled = λ a w c a< w< c< w<0. absurd (omega arith);
        not_legal = λ a w c a< w< c< h. let in_row = cells_row_in n a w a< w< in change.written (cell_number n a w c) (omega arith);
      }

  -- The next world state has been filled.
  pub part_more : {world : ℕ} {l after : List ℕ} → PartFilled s n world l → WorldFilled s n world l after → PartFilled s n (world + 1) after
  part_more {world} {l} {after} so_far change =
      record {
        long = change.long ∙ so_far.long;
        filled = λ a w c a< w< c< w<+1. at a w c a< w< c< (ℕ_discrete w world) w<+1;
        not_legal = λ a w c a< w< c< h.
            change.others a w c a< w< c< (λ e. omega arith) ∙ so_far.not_legal a w c a< w< c< (omega arith);
      }
    where
      at : (a w c : ℕ) → a < n.actions → w < n.worlds → c < width n → Dec (w ≡ world) → w < world + 1 →
          cell_at after (cell_number n a w c) ≡ cell_bytes (rule_cell (rules_of s) n.end_kinds a (world_state w) c)
      at a w c a< w< c< (yes e) h = rw e (change.cells a c a< c<)
      at a w c a< w< c< (no other) h = change.others a w c a< w< c< other ∙ so_far.filled a w c a< w< c< (omega arith)

  -- All world states have.
  pub part_done : {world : ℕ} {l : List ℕ} → PartFilled s n world l → n.worlds ≤ world → l ≡ cells_part (rules_of s) n
  unfolding cells_part
  part_done {world} {l} all end =
      cells_are n (λ a w c. cell_bytes (rule_cell (rules_of s) n.end_kinds a (world_state w) c)) l all.long
      (λ a w c a< w< c<. all.filled a w c a< w< c< (omega arith))
