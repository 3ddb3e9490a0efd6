-- For the functions that read a rules file: a rule by what its fields hold.
use Rattle.std.specs.Prelude.{List, ℕ}
use Rattle.fluent_rules.specs.CellRules.{CellRule}

-- A rule of these numbers.
abbrev pub rule_read : ℕ → ℕ → ℕ → List ℕ → List ℕ → CellRule
rule_read action result column wanted new =
    record { action = action; result = result; column = column; wanted = wanted; new = new }
