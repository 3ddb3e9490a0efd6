-- For the functions that find a fate: fates as numbers, and the memory that keeps one for each pair of the tables at each column.
use Rattle.std.specs.Prelude.{◌≡◌, ◌⊎◌, cond, List, ℕ, ◌+◌, ◌-◌, ◌*◌, ◌/◌, ◌%◌, ◌≤◌, ◌<◌, eqb, ltb, length, get_or}
use Rattle.lamp_line.specs.declared.FailureKind.TheVariants.{NotLegal, NoBranch, Circles, GoalFalse}
use Rattle.lamp_line.specs.declared.Ending.TheVariants.{Goal, Failure}
use Rattle.lamp_line.specs.Tables.{Tables, program_state, world_state, column_count}
use Rattle.lamp_line.specs.Endings.{kind_number}
use Rattle.lamp_line.specs.declared.Pair.{Pair}
use Rattle.lamp_line.specs.Run.{pair, Walk, ended, arrived, lamp_walk}
use Rattle.run_laws.specs.inner.Pairs.{InRange, pairs, pair_number}
use Rattle.fate_laws.specs.inner.Fates.{uncounted}
use Rattle.lamp_fates.specs.declared.Fate.{Fate}
use Rattle.lamp_fates.specs.declared.Fate.TheVariants.{Succeeds, Fails, Arrives}

-- What a fate stands for: a walk without its steps.
abbrev pub walk_to : Fate → Walk
walk_to Succeeds = ended Goal 0
walk_to (Fails kind) = ended (Failure kind) 0
walk_to (Arrives p) = arrived p 0

-- ---- a fate as one number

-- A pair as one number. Its program state and its world state can be read off without W.
abbrev pub pair_code : Pair → ℕ
pair_code p = p.state.0 * 64 + p.world.0

-- The entry of a fate: 1 for Goal, 2 to 5 for failures 1 to 4, and from 16 on the pair that arrives at the next lamp. An entry of 0
-- means that the fate is not known.
abbrev pub fate_entry : Walk → ℕ
fate_entry (ended Goal k) = 1
fate_entry (ended (Failure kind) k) = 1 + kind_number kind
fate_entry (arrived p k) = 16 + pair_code p

-- The fate that an entry stands for. 0 and links stand for none, and are not asked for.
abbrev pub fate_from : ℕ → Walk
fate_from entry =
    cond (ltb entry 2) (ended Goal 0)
    (cond (eqb entry 2) (ended (Failure NotLegal) 0)
    (cond (eqb entry 3) (ended (Failure NoBranch) 0)
    (cond (eqb entry 4) (ended (Failure Circles) 0)
    (cond (ltb entry 16) (ended (Failure GoalFalse) 0)
    (arrived (pair (program_state ((entry - 16) / 64)) (world_state ((entry - 16) % 64))) 0)))))

-- ---- the memory

module _ (t : Tables) where
  -- How many entries the memory of the tables has.
  abbrev pub memory_size : ℕ
  memory_size = column_count t * pairs t

  -- The place of the entry of a pair at a column. The entries are ordered by column first: a walk stays at one column, so the place
  -- of each of its pairs is the pair's number plus one fixed number.
  abbrev pub entry_place : Pair → ℕ → ℕ
  entry_place p column = column * pairs t + pair_number t.worlds p

  -- The entry at that place.
  abbrev pub remembered : List ℕ → Pair → ℕ → ℕ
  remembered memory p column = get_or memory (entry_place p column) 0

  -- The entry v of a pair at a column is 0, or it is that of the pair's fate.
  abbrev pub UnknownOrRight : Pair → ℕ → ℕ → Type 0
  UnknownOrRight p column v = (v ≡ 0) ⊎ (v ≡ fate_entry (lamp_walk t p column))

  -- A memory has room for all entries, and each is unknown or right. Nothing else is known of it.
  pub record Memory (memory : List ℕ) : Type 0 where
    pub room : memory_size ≤ length memory
    pub unknown_or_right :
        (p : Pair) (column : ℕ) → InRange t p → column < column_count t → UnknownOrRight p column (remembered memory p column)

  -- What a look-up gives: it answers the fate r of the pair at the column, and leaves a memory.
  pub record LookedUp (p : Pair) (column : ℕ) (r : Fate) (memory' : List ℕ) : Type 0 where
    pub fate_is : walk_to r ≡ uncounted (lamp_walk t p column)
    pub memory : Memory memory'
