-- Examples of fluents and rules, each computed from the definitions. They distinguish the definitions from similar ones that would be wrong: the
-- first fluent as the fastest, the last matching rule as the one that decides, 254 as a match of an end, a kept value that is the wanted one, and
-- cells in another order.
use mathlib.Core.List.{List, [], ◌∷◌}
use mathlib.Core.Path.{◌≡◌, refl}
use Prim.Native.Nat.{ℕ}
use Rattle.lamp_line.specs.Lists.{blocks}
use Rattle.lamp_line.specs.Tables.{Outcome, outcome, world_state}
use Rattle.fluent_rules.specs.CellRules.{CellRule, some_pair, matches, new_values, cell_by}
use Rattle.fluent_rules.specs.CellsPart.{cells_part}
use Rattle.fluent_rules.specs.Fluents.{world_count, world_number, values_in}

-- Two fluents: whether the lamp's cover is open (2 values), and its fuse (3 values: none, blown, good). World state 4 is an open cover and a blown fuse.
abbrev counts : List ℕ
counts = 2 ∷ 3 ∷ []

-- A rule for action 0, with its result, column, wanted and new values.
abbrev rule_for : ℕ → ℕ → List ℕ → List ℕ → CellRule
rule_for result column wanted new = record { action = 0; result = result; column = column; wanted = wanted; new = new }

-- The cell of action 0 by these rules, where there are two kinds of ends.
abbrev cell_of : List CellRule → ℕ → ℕ → List Outcome
cell_of rules world column = cell_by counts 2 rules 0 (world_state world) column

-- At any lamp with an open cover: the fuse becomes a good one, whatever it was.
abbrev change_fuse : CellRule
change_fuse = rule_for 1 254 (1 ∷ 255 ∷ []) (255 ∷ 2 ∷ [])

-- Anywhere: the cover is closed, and the fuse stays as it is.
abbrev close_cover : CellRule
close_cover = rule_for 0 255 (255 ∷ 255 ∷ []) (0 ∷ 255 ∷ [])

pub record Examples : Type 0 where
  pub worlds : world_count counts ≡ 6
  pub first_slowest : world_number counts (1 ∷ 0 ∷ []) ≡ 3
  pub values_of_4 : values_in counts 4 ≡ 1 ∷ 1 ∷ []
  -- open and good: world state 5
  pub changed : cell_of (change_fuse ∷ []) 4 2 ≡ outcome (world_state 5) 1 ∷ []
  -- at no end, nor where the cover is closed
  pub not_at_an_end : cell_of (change_fuse ∷ []) 4 1 ≡ []
  pub not_closed : cell_of (change_fuse ∷ []) 1 2 ≡ []
  -- the first rule that matches decides
  pub first_decides : cell_of (change_fuse ∷ close_cover ∷ []) 4 2 ≡ outcome (world_state 5) 1 ∷ []
  pub next_decides : cell_of (change_fuse ∷ close_cover ∷ []) 4 1 ≡ outcome (world_state 1) 0 ∷ []
  -- no rule is for another action
  pub other_action : cell_by counts 2 (change_fuse ∷ close_cover ∷ []) 1 (world_state 4) 2 ≡ []
  -- one fluent of two values, one action, one kind of end and one of lamps: at a lamp world state 0 becomes 1, and nothing else is legal
  pub part :
      cells_part (record { counts = 2 ∷ []; rules = rule_for 0 254 (0 ∷ []) (1 ∷ []) ∷ [] })
      (record { actions = 1; worlds = 2; kinds = 1; results = 1; end_kinds = 1 })
      ≡ 0 ∷ 255 ∷ 1 ∷ 0 ∷ 0 ∷ 255 ∷ 0 ∷ 255 ∷ []

-- Each holds by computation.
pub examples : Examples
unfolding world_count world_number values_in some_pair matches new_values cell_by blocks cells_part
examples =
    record {
      worlds = refl;
      first_slowest = refl;
      values_of_4 = refl;
      changed = refl;
      not_at_an_end = refl;
      not_closed = refl;
      first_decides = refl;
      next_decides = refl;
      other_action = refl;
      part = refl;
    }
