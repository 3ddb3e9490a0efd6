-- What the search function reads of the tables: pairs as numbers, and the fate of a pair at a column, which is what the one-lamp
-- walk answers, without the steps that it counts.
use Rattle.std.specs.Prelude.{ℕ, zero, suc, ◌+◌}
use Rattle.lamp_line.specs.declared.FailureKind.{FailureKind}
use Rattle.lamp_line.specs.declared.Ending.TheVariants.{Goal, Failure}
use Rattle.lamp_line.specs.Tables.{Tables, world_state, kinds_of_ends}
use Rattle.lamp_line.specs.Run.{pair, Walk, ended, arrived, lamp_walk}
use Rattle.run_laws.specs.inner.Pairs.{pair_number, pair_of}

-- The fate of a pair at a column: the run ends with the goal true, or fails, or arrives at the next lamp with the pair of this
-- number.
pub data NodeFate : Type 0 where
  succeeds : NodeFate
  fails : FailureKind → NodeFate
  arrives : ℕ → NodeFate

-- The fate that a walk gives.
abbrev pub fate_of : ℕ → Walk → NodeFate
fate_of worlds (ended Goal k) = succeeds
fate_of worlds (ended (Failure kind) k) = fails kind
fate_of worlds (arrived p k) = arrives (pair_number worlds p)

-- A pair at all kinds of ends: it fails at none, or this is the lowest end at which it fails, with the failure kind.
pub data AtEnds : Type 0 where
  good : AtEnds
  bad : ℕ → FailureKind → AtEnds

module _ (t : Tables) where
  -- The number of the pair with which the execution begins at a start.
  abbrev pub start_node : ℕ → ℕ
  start_node s = pair_number t.worlds (pair t.first (world_state s))

  -- The fate of the pair with this number at a column.
  unfoldable pub fate : ℕ → ℕ → NodeFate
  fate x column = fate_of t.worlds (lamp_walk t (pair_of t.worlds x) column)

  -- The first of the n ends from e on at which the pair fails.
  unfoldable pub ends_from : ℕ → ℕ → ℕ → AtEnds
  ends_from zero e x = good
  ends_from (suc n) e x =
      elim (fate x e) [
        | succeeds ↦ ends_from n (e + 1) x
        | fails kind ↦ bad e kind
        | arrives y ↦ ends_from n (e + 1) x
      ]

  -- The pair at all kinds of ends.
  abbrev pub at_ends : ℕ → AtEnds
  at_ends x = ends_from (kinds_of_ends t.ends) 0 x
