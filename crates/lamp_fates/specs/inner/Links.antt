-- For the functions that find a fate: the links that a walk leaves in the memory, and what is known of the memory while they are
-- there. A pair of the walk is identified by the number of actions that lead to it from the first pair.
use Rattle.std.specs.Prelude.{◌≡◌, ◌⊎◌, List, ℕ, ◌+◌, ◌≤◌, ◌<◌, length}
use Rattle.lamp_line.specs.Tables.{Tables, column_count}
use Rattle.lamp_line.specs.inner.WellFormed.{WellFormed}
use Rattle.lamp_line.specs.declared.Pair.{Pair}
use Rattle.lamp_line.specs.Run.{stays, lamp_walk}
use Rattle.run_laws.specs.inner.Pairs.{InRange, pair_number}
use Rattle.fate_laws.specs.inner.Series.{series}
use Rattle.lamp_fates.specs.inner.Memory.{fate_entry, memory_size, remembered, UnknownOrRight}

module _ (t : Tables) (first : Pair) (column : ℕ) where
  -- The walk may be asked for: the tables are well formed, and they have the pair and the column.
  pub record Asked : Type 0 where
    pub well_formed : WellFormed t
    pub in_range : InRange t first
    pub column_in : column < column_count t

  -- i actions lead from the first pair to p, and all of them stay at the lamp.
  abbrev pub After : ℕ → Pair → Type 0
  After i p = series t column i first ≡ stays p

  -- The entry v is the link of the pair after i actions: it names the pair after one more.
  pub record Link (i v : ℕ) : Type 0 where
    pub to : Pair
    pub after : After (i + 1) to
    pub names : v ≡ 8192 + pair_number t.worlds to

  -- `at` is the column of the walk, and p is one of its pairs, after at least `from` and fewer than `below` actions.
  pub record OnTheWay (from below : ℕ) (p : Pair) (at : ℕ) : Type 0 where
    pub here : at ≡ column
    pub actions : ℕ
    pub not_earlier : from ≤ actions
    pub before : actions < below
    pub after : After actions p

  -- What is known of the entry v of any pair at any column: it is unknown or right, or the pair is on the way.
  abbrev pub Stands : ℕ → ℕ → Pair → ℕ → ℕ → Type 0
  Stands from below p at v = UnknownOrRight t p at v ⊎ OnTheWay from below p at

  -- Each pair on the way has a link and is met only once, and all other entries are unknown or right.
  pub record Linked (from below : ℕ) (memory : List ℕ) : Type 0 where
    pub room : memory_size t ≤ length memory
    pub link : (i : ℕ) (p : Pair) → from ≤ i → i < below → After i p → Link i (remembered t memory p column)
    pub once : (i j : ℕ) (p : Pair) → from ≤ i → i < j → j < below → After i p → After j p → ⊥
    pub others : (p : Pair) (at : ℕ) → InRange t p → at < column_count t → Stands from below p at (remembered t memory p at)

  -- The walk has found the fate of its first pair, which has this entry, and has left links from the first pair on.
  pub record WalkedTo (entry : ℕ) (memory : List ℕ) : Type 0 where
    pub asked : Asked
    pub is_fate : entry ≡ fate_entry (lamp_walk t first column)
    pub actions : ℕ
    pub links : Linked 0 actions memory
