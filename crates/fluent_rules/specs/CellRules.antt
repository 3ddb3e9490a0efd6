-- Rules over fluents, and the cells that they give (02, (e)).
use Rattle.std.specs.Prelude.{Bool, true, false, cond, ◌&&◌, ◌||◌, not, List, [], ◌∷◌, ℕ, eqb, leb}
use Rattle.plans.specs.Plan.{Action, Result}
use Rattle.lamp_line.specs.declared.WorldState.{WorldState}
use Rattle.lamp_line.specs.Tables.{Outcome, outcome, world_state}
use Rattle.fluent_rules.specs.Fluents.{world_number, values_in}

-- A rule: where its action is legal, with which result, and what it makes of the fluents. `wanted` and `new` have a number for each fluent.
pub record CellRule : Type 0 where
  pub action : Action
  pub result : Result
  pub column : ℕ
  pub wanted : List ℕ
  pub new : List ℕ

-- What a rules file says: how many values each fluent has, and the rules in their order.
pub record FluentRules : Type 0 where
  pub counts : List ℕ
  pub rules : List CellRule

-- ---- where a rule matches

-- A rule's column matches a column: 255 any, and 254 that of any lamp, which come after those of the E kinds of ends.
abbrev pub column_matches : ℕ → ℕ → ℕ → Bool
column_matches kinds_of_ends ruled column =
    cond (eqb ruled 255) true (cond (eqb ruled 254) (leb kinds_of_ends column) (eqb ruled column))

-- The relation p holds for some number of a list and the number at the same place of another.
unfoldable pub some_pair : (ℕ → ℕ → Bool) → List ℕ → List ℕ → Bool
some_pair p [] ys = false
some_pair p (x ∷ xs) [] = false
some_pair p (x ∷ xs) (y ∷ ys) = p x y || some_pair p xs ys

-- The rule wants another value of a fluent than the fluent has: 255 matches any.
abbrev pub unwanted : ℕ → ℕ → Bool
unwanted wanted value = not (eqb wanted 255) && not (eqb wanted value)

-- The rule matches the action, the values of the fluents and the column.
unfoldable pub matches : ℕ → CellRule → Action → List ℕ → ℕ → Bool
matches kinds_of_ends rule action values column =
    eqb rule.action action && column_matches kinds_of_ends rule.column column && not (some_pair unwanted rule.wanted values)

-- ---- what a rule makes

-- The value of a fluent after the action: 255 keeps the one that it has.
abbrev pub new_value : ℕ → ℕ → ℕ
new_value new value = cond (eqb new 255) value new

-- The values of all fluents after the action.
unfoldable pub new_values : List ℕ → List ℕ → List ℕ
new_values [] values = []
new_values (new ∷ more) [] = []
new_values (new ∷ more) (value ∷ values) = new_value new value ∷ new_values more values

-- The outcome where the rule matches in a world state: the world state of the new values, and the rule's result.
abbrev pub rule_outcome : List ℕ → CellRule → WorldState → Outcome
rule_outcome counts rule w =
    outcome (world_state (world_number counts (new_values rule.new (values_in counts w.0)))) rule.result

-- ---- the cells

-- The cell for an action, a world state and a column. The first rule that matches decides; where none does, there is no outcome: the
-- action is not legal.
unfoldable pub cell_by : List ℕ → ℕ → List CellRule → Action → WorldState → ℕ → List Outcome
cell_by counts kinds_of_ends [] a w c = []
cell_by counts kinds_of_ends (rule ∷ rules) a w c =
    cond (matches kinds_of_ends rule a (values_in counts w.0) c) (rule_outcome counts rule w ∷ []) (cell_by counts kinds_of_ends rules a w c)

-- The cells that a rules file gives, where there are E kinds of ends.
abbrev pub rule_cell : FluentRules → ℕ → Action → WorldState → ℕ → List Outcome
rule_cell file kinds_of_ends = cell_by file.counts kinds_of_ends file.rules
