-- What the generator of cells answers, and what it writes (02, (e)).
use Rattle.std.specs.Prelude.{◌≡◌, List, [], ◌∷◌, ℕ, Ok, Err, length}
use Rattle.lamp_line.specs.declared.Refusal.TheVariants as refused
use Rattle.lamp_line.specs.Refusals.{Rule, ◌when◌, Answer, answer_by}
use Rattle.job_layout.specs.declared.Sizes.{Sizes}
use Rattle.job_layout.specs.FileRefusals.{differs}
use Rattle.rules_file.specs.RulesFile.{rules_of}
use Rattle.rules_file.specs.RulesRefusal.{rules_wrong}
use Rattle.fluent_rules.specs.CellsPart.{cells_part, part_length}

-- The refusals, for a rules file s, the caller's numbers n and a lent part of so many bytes: 22, and then 23, that the part has another length.
abbrev pub fill_refusals : List ℕ → Sizes → ℕ → List Rule
fill_refusals s n size = (refused.Rules when rules_wrong s n) ∷ (refused.CellsLength when differs size (part_length n)) ∷ []

-- The answer: a refusal, or that the part is filled.
unfoldable pub fill_answer : List ℕ → Sizes → ℕ → Answer Unit
fill_answer s n size = answer_by (fill_refusals s n size) tt

-- The lent part afterwards: the cells that the rules give, or what it was if the call is refused.
abbrev pub part_after : Answer Unit → List ℕ → Sizes → List ℕ → List ℕ
part_after (Ok _) s n before = cells_part (rules_of s) n
part_after (Err because) s n before = before

-- The contract of the generator, for the rules file's bytes, the caller's numbers, the answer, and the part before and after.
pub record CellsFilled (s : List ℕ) (n : Sizes) (r : Answer Unit) (before after : List ℕ) : Type 0 where
  pub answered : r ≡ fill_answer s n (length before)
  pub part : after ≡ part_after r s n before
