-- The layout of a rules file (02, (e)): the number m of fluents, the count of values of each, and rules of 3 + 2m bytes up to its end. A
-- rule has an action, a result and a column, then the wanted value of each fluent, and then the new value of each.
use Rattle.std.specs.Prelude.{List, [], ◌∷◌, ℕ, zero, suc, ◌+◌, ◌*◌, ◌-◌, ◌/◌, length, take, drop}
use Rattle.job_layout.specs.Layout.{byte}
use Rattle.fluent_rules.specs.CellRules.{CellRule, FluentRules}

-- How many fluents there are.
abbrev pub fluents : List ℕ → ℕ
fluents s = byte s 0

-- A number for each fluent, from byte i on.
abbrev pub fluent_bytes : List ℕ → ℕ → List ℕ
fluent_bytes s i = take (fluents s) (drop i s)

-- How many values each fluent has.
abbrev pub value_counts : List ℕ → List ℕ
value_counts s = fluent_bytes s 1

-- Where the rules begin.
abbrev pub rules_place : List ℕ → ℕ
rules_place s = 1 + fluents s

-- How many bytes a rule has.
abbrev pub rule_size : List ℕ → ℕ
rule_size s = 3 + 2 * fluents s

-- How many rules there are.
abbrev pub rule_count : List ℕ → ℕ
rule_count s = (length s - rules_place s) / rule_size s

-- The rule whose first byte is byte i.
abbrev pub rule_from : List ℕ → ℕ → CellRule
rule_from s i =
    record {
      action = byte s i;
      result = byte s (i + 1);
      column = byte s (i + 2);
      wanted = fluent_bytes s (i + 3);
      new = fluent_bytes s (i + 3 + fluents s);
    }

-- Rule i, counted from 0.
abbrev pub rule_at : List ℕ → ℕ → CellRule
rule_at s i = rule_from s (rules_place s + i * rule_size s)

-- The n rules from rule i on.
unfoldable pub rules_from : List ℕ → ℕ → ℕ → List CellRule
rules_from s i zero = []
rules_from s i (suc n) = rule_at s i ∷ rules_from s (suc i) n

-- What the file says.
abbrev pub rules_of : List ℕ → FluentRules
rules_of s = record { counts = value_counts s; rules = rules_from s 0 (rule_count s) }
