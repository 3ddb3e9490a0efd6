-- Where the bytes of a rules file lie.
use Rattle.std.proofs.Common.{List, ◌≡◌, ℕ, ◌+◌, ◌*◌, ◌≤◌, ◌<◌, suc, ◌-◌, suc-mul, mul-le-mul_right, div-mul-le_self, arith, length, length-take, length-drop}
use Rattle.rules_file.specs.RulesFile.{fluents, fluent_bytes, rules_place, rule_size, rule_count}

-- A number for each fluent.
pub fluent_bytes_length : (s : List ℕ) (at : ℕ) → at + fluents s ≤ length s → length (fluent_bytes s at) ≡ fluents s
fluent_bytes_length s at h = simp (length-take, length-drop) (omega arith)

-- Rule i ends within the file.
pub rule_in : (s : List ℕ) (i : ℕ) → rules_place s ≤ length s → i < rule_count s → rules_place s + i * rule_size s + rule_size s ≤ length s
rule_in s i counts_in i< =
    omega (
      arith,
      mul-le-mul_right {m = suc i} {n = rule_count s} (rule_size s) i<,
      suc-mul i (rule_size s),
      div-mul-le_self (length s - rules_place s) (rule_size s),
    )
