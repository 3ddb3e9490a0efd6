-- For the functions of the generator: the cells of a part by their numbers, and what writing some of them leaves of the others.
use Rattle.std.specs.Prelude.{Bool, cond, ◌&&◌, List, [], ◌∷◌, ◌⊎◌, ◌≢◌, ◌≡◌, ℕ, ◌+◌, ◌*◌, ◌≤◌, ◌<◌, eqb, leb, length, set}
use Rattle.plans.specs.Plan.{Action}
use Rattle.lamp_line.specs.Tables.{world_state}
use Rattle.job_layout.specs.Layout.{byte, width}
use Rattle.job_layout.specs.declared.Sizes.{Sizes}
use Rattle.fluent_rules.specs.CellRules.{matches, rule_outcome, rule_cell}
use Rattle.fluent_rules.specs.CellsPart.{cell_bytes}
use Rattle.fluent_rules.specs.Fluents.{values_in}
use Rattle.rules_file.specs.RulesFile.{value_counts, rule_at, rules_of}

-- The two bytes of cell i.
abbrev pub cell_at : List ℕ → ℕ → List ℕ
cell_at part i = byte part (2 * i) ∷ byte part (2 * i + 1) ∷ []

-- No rule has written cell i: its result is 255, which no rule gives.
abbrev pub undecided : List ℕ → ℕ → Bool
undecided part i = eqb (byte part (2 * i + 1)) 255

-- The part with other bytes in cell i.
abbrev pub with_cell : List ℕ → ℕ → ℕ → ℕ → List ℕ
with_cell part i next result = set (set part (2 * i) next) (2 * i + 1) result

-- The number of the first cell in the row of an action and a world state, and that of the cell at a column.
abbrev pub row_start : Sizes → Action → ℕ → ℕ
row_start n a w = (a * n.worlds + w) * width n

abbrev pub cell_number : Sizes → Action → ℕ → ℕ → ℕ
cell_number n a w c = row_start n a w + c

-- Where the columns that a rule's column matches begin, and where they end.
abbrev pub first_column : Sizes → ℕ → ℕ
first_column n ruled = cond (eqb ruled 255) 0 (cond (eqb ruled 254) n.end_kinds ruled)

abbrev pub columns_end : Sizes → ℕ → ℕ
columns_end n ruled = cond (leb 254 ruled) (width n) (ruled + 1)

-- All cells have been written as not legal.
pub record Cleared (before after : List ℕ) : Type 0 where
  pub long : length after ≡ length before
  pub written : (i : ℕ) → 2 * i + 1 < length before → cell_at after i ≡ cell_bytes []

-- Of the cells from `first` up to and without `end`, those that no rule had written have these two bytes, and all others are as before.
pub record Claimed (before after : List ℕ) (first end next result : ℕ) : Type 0 where
  pub long : length after ≡ length before
  pub claimed :
      (i : ℕ) → first ≤ i → i < end → cell_at after i ≡ cond (undecided before i) (next ∷ result ∷ []) (cell_at before i)
  pub kept : (i : ℕ) → (i < first) ⊎ (end ≤ i) → cell_at after i ≡ cell_at before i

-- The cells of other world states are as before.
abbrev pub OthersKept : Sizes → ℕ → List ℕ → List ℕ → Type 0
OthersKept n world before after =
    (a w c : ℕ) → a < n.actions → w < n.worlds → c < width n → w ≢ world →
    cell_at after (cell_number n a w c) ≡ cell_at before (cell_number n a w c)

-- Rule i has written the cells of the world state where it matches and no rule had.
pub record Applied (s : List ℕ) (n : Sizes) (i world : ℕ) (before after : List ℕ) : Type 0 where
  pub long : length after ≡ length before
  pub others : OthersKept n world before after
  pub cells :
      (a c : ℕ) → a < n.actions → c < width n →
      cell_at after (cell_number n a world c)
      ≡ cond (matches n.end_kinds (rule_at s i) a (values_in (value_counts s) world) c && undecided before (cell_number n a world c))
      (cell_bytes (rule_outcome (value_counts s) (rule_at s i) (world_state world) ∷ [])) (cell_at before (cell_number n a world c))

-- No cell of the world state is legal.
abbrev pub NotLegalYet : Sizes → ℕ → List ℕ → Type 0
NotLegalYet n world part =
    (a c : ℕ) → a < n.actions → c < width n → cell_at part (cell_number n a world c) ≡ cell_bytes []

-- The cells of the world state are those of the rules.
pub record WorldFilled (s : List ℕ) (n : Sizes) (world : ℕ) (before after : List ℕ) : Type 0 where
  pub long : length after ≡ length before
  pub others : OthersKept n world before after
  pub cells :
      (a c : ℕ) → a < n.actions → c < width n →
      cell_at after (cell_number n a world c) ≡ cell_bytes (rule_cell (rules_of s) n.end_kinds a (world_state world) c)
