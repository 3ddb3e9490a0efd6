-- Refusal 22 (02, (e)): one condition on the bytes of a rules file s and the caller's numbers n, which are A, W, C, R and E.
use Rattle.std.specs.Prelude.{Bool, ◌||◌, ◌&&◌, List, ℕ, ◌-◌, ◌%◌, leb, ltb, length}
use Rattle.lamp_line.specs.Refusals.{some_below}
use Rattle.job_layout.specs.declared.Sizes.{Sizes}
use Rattle.job_layout.specs.Layout.{width}
use Rattle.job_layout.specs.FileRefusals.{outside, differs, ranges_wrong}
use Rattle.fluent_rules.specs.Fluents.{world_count}
use Rattle.fluent_rules.specs.CellRules.{CellRule, some_pair}
use Rattle.rules_file.specs.RulesFile.{fluents, value_counts, rules_place, rule_size, rule_count, rule_at}

-- A rule's column is neither one of the E + C columns nor 254 or 255.
abbrev pub column_wrong : Sizes → ℕ → Bool
column_wrong n column = leb (width n) column && ltb column 254

-- A value, wanted or new, of a fluent with this count is neither below the count nor 255.
abbrev pub value_wrong : ℕ → ℕ → Bool
value_wrong count value = leb count value && differs value 255

-- Something in a rule is out of range.
unfoldable pub rule_wrong : Sizes → List ℕ → CellRule → Bool
rule_wrong n counts rule =
    leb n.actions rule.action || leb n.results rule.result || column_wrong n rule.column
    || some_pair value_wrong counts rule.wanted || some_pair value_wrong counts rule.new

-- 22: one of the caller's numbers or the number of fluents is out of its range, the file ends within the counts, their product is not W, the
-- file ends within a rule, or some rule is wrong, whether or not it is ever the first that matches.
unfoldable pub rules_wrong : List ℕ → Sizes → Bool
rules_wrong s n =
    ranges_wrong n || outside 1 6 (fluents s) || ltb (length s) (rules_place s) || differs (world_count (value_counts s)) n.worlds
    || differs ((length s - rules_place s) % rule_size s) 0
    || some_below (rule_count s) (λ i. rule_wrong n (value_counts s) (rule_at s i))
