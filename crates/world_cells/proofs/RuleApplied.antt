-- What one rule writes in a world state.
use Rattle.std.proofs.Common.{Bool, true, false, cond, ◌&&◌, not, List, [], ◌∷◌, inl, inr, ⊎_elim, ◌≡◌, refl, sym, ◌∙◌, ℕ, ◌+◌, ◌*◌, ◌≤◌, ◌<◌, arith, eq-eqb, ne_eqb, eqb, length}
use Rattle.std.proofs.Math.Bool.{and-true, and-false}
use Rattle.std.proofs.Math.Decide.{ℕ_discrete}
use Rattle.lamp_line.specs.Tables.{world_state}
use Rattle.lamp_line.proofs.Products.{product_le}
use Rattle.job_layout.specs.Layout.{width}
use Rattle.job_layout.specs.declared.Sizes.{Sizes}
use Rattle.fluent_rules.specs.CellRules.{CellRule, column_matches, some_pair, unwanted, matches, new_values, rule_outcome}
use Rattle.fluent_rules.specs.CellsPart.{cell_bytes, part_length}
use Rattle.fluent_rules.specs.Fluents.{world_number, values_in, world_count, Values}
use Rattle.fluent_rules.proofs.NewWorlds.{values_length}
use Rattle.fluent_rules.proofs.WorldNumbers.{worlds_are_values}
use Rattle.rules_file.specs.RulesFile.{value_counts, rule_at, fluents, rules_place, rule_size, rule_count}
use Rattle.rules_file.specs.RulesRefusal.{value_wrong, rules_wrong}
use Rattle.rules_file.proofs.RuleBytes.{fluent_bytes_length, rule_in}
use Rattle.rules_file.proofs.RulesTested.{RulesRight, rules_right, RuleRight, rule_right}
use Rattle.world_cells.specs.inner.CellsWritten.{undecided, Claimed, cell_at, row_start, cell_number, first_column, columns_end, Applied}
use Rattle.world_cells.proofs.Columns.{Ruled, columns_within, matching_between, other_outside, other_row, row_apart, ruled_right, cells_row_in}

-- A rule that wants other values matches nowhere in the world state.
applied_nowhere : (s : List ℕ) (n : Sizes) (i world : ℕ) (part : List ℕ) →
    not (some_pair unwanted (rule_at s i).wanted (values_in (value_counts s) world)) ≡ false → Applied s n i world part part
unfolding matches
applied_nowhere s n i world part unwanted_here =
    record {
      long = refl;
      others = λ a w c a< w< c< other. refl;
      cells = λ a c a< c<. sym (rw (unwanted_here, and-false));
    }

-- Otherwise it has written its columns in the row of its action.
module _ (s : List ℕ) (n : Sizes) (i world : ℕ) (before after : List ℕ) (few : width n ≤ 16) (world< : world < n.worlds)
    (ruled : Ruled (width n) (rule_at s i).column)
    (wanted_here : not (some_pair unwanted (rule_at s i).wanted (values_in (value_counts s) world)) ≡ true)
    (change : Claimed before after (row_start n (rule_at s i).action world + first_column n (rule_at s i).column)
    (row_start n (rule_at s i).action world + columns_end n (rule_at s i).column)
    (world_number (value_counts s) (new_values (rule_at s i).new (values_in (value_counts s) world))) (rule_at s i).result) where
  -- The cells of another row are as before.
  other_kept : (a w c : ℕ) → w < n.worlds → c < width n → (((rule_at s i).action ≡ a) → (world ≡ w) → ⊥) →
      cell_at after (cell_number n a w c) ≡ cell_at before (cell_number n a w c)
  other_kept a w c w< c< other =
      change.kept (cell_number n a w c)
      (row_apart (width n) ((rule_at s i).action * n.worlds + world) (a * n.worlds + w) c (first_column n (rule_at s i).column)
      (columns_end n (rule_at s i).column) c< (columns_within n few (rule_at s i).column ruled).1
      (λ e. other_row n.worlds (rule_at s i).action world a w world< w< other (sym e)))

  applied : Applied s n i world before after
  unfolding matches
  applied =
      record {
        long = change.long;
        others = λ a w c a< w< c< other. other_kept a w c w< c< (λ e f. other (sym f));
        cells = λ a c a< c<. rw wanted_here (by_action a c c< (ℕ_discrete (rule_at s i).action a));
      }
    where
      made : List ℕ
      made = cell_bytes (rule_outcome (value_counts s) (rule_at s i) (world_state world) ∷ [])

      by_column : (a c : ℕ) → c < width n → (rule_at s i).action ≡ a → (b : Bool) →
          column_matches n.end_kinds (rule_at s i).column c ≡ b →
          cell_at after (cell_number n a world c)
          ≡ cond (b && undecided before (cell_number n a world c)) made (cell_at before (cell_number n a world c))
      by_column a c c< e true h =
          let between = matching_between n few (rule_at s i).column c ruled c< h in
          rw (sym e) (change.claimed (cell_number n (rule_at s i).action world c) (omega (arith, between.0)) (omega (arith, between.1)))
      by_column a c c< e false h =
          rw (sym e)
          (change.kept (cell_number n (rule_at s i).action world c)
          (⊎_elim (λ low. inl (omega arith)) (λ high. inr (omega arith)) (other_outside n few (rule_at s i).column c ruled c< h)))

      by_action : (a c : ℕ) → c < width n → Dec ((rule_at s i).action ≡ a) →
          cell_at after (cell_number n a world c)
          ≡ cond (eqb (rule_at s i).action a && column_matches n.end_kinds (rule_at s i).column c && true && undecided before (cell_number n a world c))
          made (cell_at before (cell_number n a world c))
      by_action a c c< (yes e) =
          rw (eq-eqb (rule_at s i).action a e, and-true) (by_column a c c< e (column_matches n.end_kinds (rule_at s i).column c) refl)
      by_action a c c< (no other) =
          rw (ne_eqb (rule_at s i).action a other) (other_kept a world c world< c< (λ e f. other e))

-- ---- what the code asks for

-- A file that is not refused.
module _ (s : List ℕ) (n : Sizes) (right : rules_wrong s n ≡ false) where
  rules : RulesRight s n
  rules = rules_right s n right

  counts_long : length (value_counts s) ≡ fluents s
  counts_long = fluent_bytes_length s 1 rules.counts_in

  -- Each rule ends within the file.
  pub rule_in_file : (i : ℕ) → i < rule_count s → rules_place s + i * rule_size s + rule_size s ≤ length s
  rule_in_file i within = rule_in s i rules.counts_in within

  -- The values of a world state are in range.
  pub values_right : (world : ℕ) {values : List ℕ} → world < n.worlds → values ≡ values_in (value_counts s) world → Values (value_counts s) values
  values_right world world< are = rw are ((worlds_are_values (value_counts s)).has_values world (omega (arith, rules.product)))

  -- Rule i has been applied where it does not want the values.
  pub applied_not_here :
      {i world : ℕ} {values : List ℕ} → values ≡ values_in (value_counts s) world → {rule : CellRule} → rule ≡ rule_at s i →
      {part : List ℕ} → not (some_pair unwanted rule.wanted values) ≡ false → Applied s n i world part part
  applied_not_here are is unwanted_here = applied_nowhere s n _ _ _ (rw (is, are) at unwanted_here)

  -- Rule i, for a world state in which the fluents have these values.
  module _ {i world : ℕ} {values : List ℕ} (within : i < rule_count s) (world< : world < n.worlds)
      (are : values ≡ values_in (value_counts s) world) {rule : CellRule} (is : rule ≡ rule_at s i) where
    rule_is_right : RuleRight n (value_counts s) rule
    rule_is_right = rw is (rule_right n (value_counts s) (rule_at s i) (rules.each_rule i within))

    here : Values (value_counts s) values
    here = values_right world world< are

    -- What `wants` asks for.
    pub wants_asked : length rule.wanted ≡ length values
    wants_asked =
        rw is (fluent_bytes_length s (rules_place s + i * rule_size s + 3) (omega (arith, rule_in_file i within)))
        ∙ sym (values_length (value_counts s) values here ∙ counts_long)

    -- What `new_world` asks for.
    pub new_world_asked : {counts : List ℕ} → counts ≡ value_counts s →
        (world_count counts ≤ 64) × (length rule.new ≡ length counts) × (some_pair value_wrong counts rule.new ≡ false) × Values counts values
    new_world_asked are_counts =
        let long : length rule.new ≡ fluents s
        = rw is (fluent_bytes_length s (rules_place s + i * rule_size s + 3 + fluents s) (omega (arith, rule_in_file i within))) in
        rw are_counts (omega (arith, rules.product, rules.sizes.worlds), long ∙ sym counts_long, rule_is_right.new_right, here)

    -- Its cells lie in the part, which has at most 16,384 cells.
    pub rule_cells_in : (part : List ℕ) → length part ≡ part_length n → rule.column < 256 →
        (first_column n rule.column ≤ columns_end n rule.column)
        × (2 * (row_start n rule.action world + columns_end n rule.column) ≤ length part)
        × (length part ≤ 32768)
    rule_cells_in part long known =
        let between = columns_within n rules.sizes.columns_few rule.column (ruled_right n rule.column known rule_is_right.column_right) in
        let rows = product_le 16 64 n.actions n.worlds rules.sizes.actions.1 rules.sizes.worlds.1 in
        let few = product_le 1024 16 (n.actions * n.worlds) (width n) (omega arith) rules.sizes.columns_few in
        (between.0, omega (arith, between.1, long, cells_row_in n rule.action world rule_is_right.action_range world<), omega (arith, long))

    -- The rule has been applied where it wants the values and has claimed its columns in the row of its action.
    pub applied_here :
        {counts before after : List ℕ} {row first end next : ℕ} →
        rule.column < 256 → not (some_pair unwanted rule.wanted values) ≡ true → row ≡ row_start n rule.action world →
        first ≡ first_column n rule.column → end ≡ columns_end n rule.column → counts ≡ value_counts s →
        next ≡ world_number counts (new_values rule.new values) →
        Claimed before after (row + first) (row + end) next rule.result → Applied s n i world before after
    applied_here known wants_them row_is first_is end_is counts_are next_is change =
        applied s n i _ _ _ rules.sizes.columns_few world<
        (rw is at (ruled_right n rule.column known rule_is_right.column_right))
        (rw (is, are) at wants_them)
        (rw (row_is, first_is, end_is, next_is, counts_are, are, is) at change)
