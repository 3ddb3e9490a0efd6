-- Refusal 22, test by test: each test that applies decides, and a file to which none applies is right.
use Rattle.std.proofs.Common.{Bool, true, false, List, ◌≡◌, ℕ, ◌-◌, ◌%◌, ◌≤◌, ◌<◌, arith, ltb-false, lt-ltb, le-ltb, eq-eqb, ne_eqb, leb-false, length}
use Rattle.std.proofs.Math.Bool.{or-true}
use Rattle.std.proofs.Math.ListN.{get_or-eq_default}
use Rattle.lamp_line.specs.Refusals.{some_below}
use Rattle.lamp_line.proofs.Scan.{none_at}
use Rattle.job_layout.specs.FileRefusals.{outside, ranges_wrong, differs}
use Rattle.job_layout.specs.declared.Sizes.{Sizes}
use Rattle.fluent_rules.specs.CellRules.{CellRule, some_pair}
use Rattle.fluent_rules.specs.Fluents.{world_count}
use Rattle.rules_file.specs.RulesFile.{fluents, value_counts, rules_place, rule_size, rule_count, rule_at}
use Rattle.rules_file.specs.RulesRefusal.{rule_wrong, rules_wrong, column_wrong, value_wrong}
use Rattle.head_refusals.proofs.HeadLaws.{neither, inside, same, SizesInside, sizes_inside}

-- Numbers that are not equal differ.
differ : (m n : ℕ) → (m ≡ n → ⊥) → differs m n ≡ true
differ m n h = rw (ne_eqb m n h)

same_differs : (m n : ℕ) → m ≡ n → differs m n ≡ false
same_differs m n e = rw (eq-eqb m n e)

module _ (s : List ℕ) (n : Sizes) where
  abbrev any_rule : Bool
  any_rule = some_below (rule_count s) (λ i. rule_wrong n (value_counts s) (rule_at s i))

  pub wrong_sizes : ranges_wrong n ≡ true → true ≡ rules_wrong s n
  unfolding rules_wrong
  wrong_sizes e = rw e

  pub wrong_fluents : outside 1 6 (fluents s) ≡ true → true ≡ rules_wrong s n
  unfolding rules_wrong
  wrong_fluents e = rw (e, or-true)

  -- An empty file has no fluents.
  pub wrong_empty : length s ≡ 0 → true ≡ rules_wrong s n
  wrong_empty e = wrong_fluents (rw (get_or-eq_default s 0 {n = 0} (omega arith)))

  pub wrong_short : length s < rules_place s → true ≡ rules_wrong s n
  unfolding rules_wrong
  wrong_short h = rw (lt-ltb (length s) (rules_place s) h, or-true)

  pub wrong_product : (world_count (value_counts s) ≡ n.worlds → ⊥) → true ≡ rules_wrong s n
  unfolding rules_wrong
  wrong_product h = rw (differ (world_count (value_counts s)) n.worlds h, or-true)

  pub wrong_end : ((length s - rules_place s) % rule_size s ≡ 0 → ⊥) → true ≡ rules_wrong s n
  unfolding rules_wrong
  wrong_end h = rw (differ ((length s - rules_place s) % rule_size s) 0 h, or-true)

  -- Only the rules are left.
  pub rules_left :
      ranges_wrong n ≡ false → outside 1 6 (fluents s) ≡ false → rules_place s ≤ length s → world_count (value_counts s) ≡ n.worlds →
      (length s - rules_place s) % rule_size s ≡ 0 → any_rule ≡ rules_wrong s n
  unfolding rules_wrong
  rules_left sizes m counts_in product end =
      rw (sizes, m, le-ltb _ _ counts_in, same_differs _ _ product, same_differs _ _ end)

  -- What is known of a file that is not refused.
  pub record RulesRight : Type 0 where
    pub sizes : SizesInside n
    pub fluents_range : (1 ≤ fluents s) × (fluents s ≤ 6)
    pub counts_in : rules_place s ≤ length s
    pub product : world_count (value_counts s) ≡ n.worlds
    pub each_rule : (i : ℕ) → i < rule_count s → rule_wrong n (value_counts s) (rule_at s i) ≡ false

  pub rules_right : rules_wrong s n ≡ false → RulesRight
  unfolding rules_wrong
  rules_right e =
      let to_rules = neither _ _ e in
      let to_end = neither _ _ to_rules.0 in
      let to_product = neither _ _ to_end.0 in
      let to_short = neither _ _ to_product.0 in
      let to_fluents = neither _ _ to_short.0 in
      record {
        sizes = sizes_inside n to_fluents.0;
        fluents_range = inside 1 6 (fluents s) to_fluents.1;
        counts_in = ltb-false _ _ to_short.1;
        product = same _ _ to_product.1;
        each_rule = λ i i<. none_at _ (rule_count s) to_rules.1 i i<;
      }

-- What is known of a rule that is not wrong.
pub record RuleRight (n : Sizes) (counts : List ℕ) (rule : CellRule) : Type 0 where
  pub action_range : rule.action < n.actions
  pub result_range : rule.result < n.results
  pub column_right : column_wrong n rule.column ≡ false
  pub new_right : some_pair value_wrong counts rule.new ≡ false

pub rule_right : (n : Sizes) (counts : List ℕ) (rule : CellRule) → rule_wrong n counts rule ≡ false → RuleRight n counts rule
unfolding rule_wrong
rule_right n counts rule e =
    let to_new = neither _ _ e in
    let to_wanted = neither _ _ to_new.0 in
    let to_column = neither _ _ to_wanted.0 in
    let to_result = neither _ _ to_column.0 in
    record {
      action_range = leb-false _ _ to_result.0;
      result_range = leb-false _ _ to_result.1;
      column_right = to_column.1;
      new_right = to_new.1;
    }
