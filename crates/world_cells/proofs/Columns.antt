-- The columns that a rule matches lie together, and so do the cells of a row, which are those of an action and a world state.
use Rattle.std.proofs.Common.{true, false, true≢false, ◌⊎◌, inl, inr, ◌≢◌, ◌≡◌, sym, ap, ◌∙◌, ℕ, suc, ◌+◌, ◌*◌, ◌/◌, ◌%◌, ◌≤◌, ◌<◌, suc-mul, mul-le-mul_right, arith, ltb-false, leb-true, leb-false, eqb-true, le-leb, ne_eqb}
use Rattle.std.proofs.Math.Decide.{dec_lt, ℕ_discrete}
use borrow.Author.Tests.{eqb-false, lt-leb}
use Rattle.std.proofs.Math.Arith.{digits_div, digits_mod, digits_lt}
use Rattle.job_layout.specs.Layout.{width}
use Rattle.job_layout.specs.declared.Sizes.{Sizes}
use Rattle.fluent_rules.specs.CellRules.{column_matches}
use Rattle.fluent_rules.specs.CellsPart.{part_length}
use Rattle.rules_file.specs.RulesRefusal.{column_wrong}
use Rattle.world_cells.specs.inner.CellsWritten.{row_start, first_column, columns_end}

-- What a rule's column can be.
pub data Ruled (columns ruled : ℕ) : Type 0 where
  any : ruled ≡ 255 → Ruled columns ruled
  lamps : ruled ≡ 254 → Ruled columns ruled
  one : ruled < columns → Ruled columns ruled

pub ruled_right : (n : Sizes) (ruled : ℕ) → ruled < 256 → column_wrong n ruled ≡ false → Ruled (width n) ruled
ruled_right n ruled small right = by (dec_lt ruled (width n)) (ℕ_discrete ruled 255)
  where
    by : Dec (ruled < width n) → Dec (ruled ≡ 255) → Ruled (width n) ruled
    by (yes below) any? = one below
    by (no above) (yes e) = any e
    by (no above) (no other) =
        lamps (let high = ltb-false ruled 254 (rw (le-leb (width n) ruled (omega arith)) at right) in omega arith)

module _ (n : Sizes) (few : width n ≤ 16) where
  -- They end within the row.
  pub columns_within : (ruled : ℕ) → Ruled (width n) ruled → (first_column n ruled ≤ columns_end n ruled) × (columns_end n ruled ≤ width n)
  columns_within ruled (any e) = rw e (omega arith, omega arith)
  columns_within ruled (lamps e) = rw e (omega arith, omega arith)
  columns_within ruled (one below) =
      rw (ne_eqb ruled 255 (λ e. omega arith), ne_eqb ruled 254 (λ e. omega arith), lt-leb 254 ruled (omega arith)) (omega arith, omega arith)

  -- A column that matches is one of them.
  pub matching_between : (ruled column : ℕ) → Ruled (width n) ruled → column < width n → column_matches n.end_kinds ruled column ≡ true →
      (first_column n ruled ≤ column) × (column < columns_end n ruled)
  matching_between ruled column (any e) column< h = rw e (omega arith, column<)
  matching_between ruled column (lamps e) column< h = rw e (leb-true n.end_kinds column (rw e at h), column<)
  matching_between ruled column (one below) column< h =
      let not_any = ne_eqb ruled 255 (λ e. omega arith) in
      let not_lamps = ne_eqb ruled 254 (λ e. omega arith) in
      let same = eqb-true ruled column (rw (not_any, not_lamps) at h) in
      rw (not_any, not_lamps, lt-leb 254 ruled (omega arith)) (omega arith, omega arith)

  -- One that does not is not.
  pub other_outside : (ruled column : ℕ) → Ruled (width n) ruled → column < width n → column_matches n.end_kinds ruled column ≡ false →
      (column < first_column n ruled) ⊎ (columns_end n ruled ≤ column)
  other_outside ruled column (any e) column< h = absurd (let z : true ≡ false = (rw e at h) in true≢false z)
  other_outside ruled column (lamps e) column< h = rw e (inl (leb-false n.end_kinds column (rw e at h)))
  other_outside ruled column (one below) column< h =
      let not_any = ne_eqb ruled 255 (λ e. omega arith) in
      let not_lamps = ne_eqb ruled 254 (λ e. omega arith) in
      let other = eqb-false ruled column (rw (not_any, not_lamps) at h) in
      rw (not_any, not_lamps, lt-leb 254 ruled (omega arith)) (by (dec_lt column ruled) other)
    where
      by : Dec (column < ruled) → (ruled ≡ column → ⊥) → (column < ruled) ⊎ (ruled + 1 ≤ column)
      by (yes h) other = inl h
      by (no h) other = inr (omega arith)

-- ---- rows

-- Rows are different where the action or the world state is.
pub other_row : (worlds a w a' w' : ℕ) → w < worlds → w' < worlds → ((a ≡ a') → (w ≡ w') → ⊥) → a * worlds + w ≢ a' * worlds + w'
other_row worlds a w a' w' w< w'< other e =
    other (sym (digits_div a w<) ∙ ap (λ n. n / worlds) e ∙ digits_div a' w'<)
    (sym (digits_mod a w<) ∙ ap (λ n. n % worlds) e ∙ digits_mod a' w'<)

-- A cell of another row lies before or behind all cells of a row.
pub row_apart : (columns row row' c first end : ℕ) → c < columns → end ≤ columns → row' ≢ row →
    (row' * columns + c < row * columns + first) ⊎ (row * columns + end ≤ row' * columns + c)
row_apart columns row row' c first end c< end≤ other = by (dec_lt row' row)
  where
    by : Dec (row' < row) → (row' * columns + c < row * columns + first) ⊎ (row * columns + end ≤ row' * columns + c)
    by (yes before) = inl (omega (arith, mul-le-mul_right {m = suc row'} {n = row} columns before, suc-mul row' columns))
    by (no behind) = inr (omega (arith, mul-le-mul_right {m = suc row} {n = row'} columns (after behind), suc-mul row columns))
      where
        after : (row' < row → ⊥) → row < row'
        after h = omega arith

-- A row lies in the part.
pub cells_row_in : (n : Sizes) (a w : ℕ) → a < n.actions → w < n.worlds → 2 * (row_start n a w + width n) ≤ part_length n
cells_row_in n a w a< w< =
    omega (
      arith,
      mul-le-mul_right {m = suc (a * n.worlds + w)} {n = n.actions * n.worlds} (width n) (digits_lt {q = a} {m = n.actions} {r = w} {c = n.worlds} a< w<),
      suc-mul (a * n.worlds + w) (width n),
    )
