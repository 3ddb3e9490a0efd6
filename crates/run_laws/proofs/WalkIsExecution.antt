-- What the one-lamp walk says is true of the execution. In particular, where the walk has made all S·W steps at the lamp, the
-- execution stays there for ever.
use Prim.Native.Nat.{◌*◌}
use Rattle.lamp_line.specs.Tables.{Tables, Line, column}
use Rattle.lamp_line.specs.inner.WellFormed.{WellFormed}
use Rattle.lamp_line.specs.declared.Pair.{Pair}
use Rattle.lamp_line.specs.Run.{Walk, lamp_walk}
use Rattle.lamp_line.specs.WalkMeaning.{WalkSays}
use Rattle.lamp_line.specs.WalkMeaning as says
use Rattle.run_laws.specs.inner.Pairs.{InRange}
use Rattle.run_laws.proofs.Walks.{WalkMeans, rests, lingers, arrives, walk_means}
use Rattle.run_laws.proofs.Circling.{lingers_forever, lingers_passes_none}

pub walk_is_execution :
    (t : Tables) → WellFormed t → (line : Line) (p : Pair) → InRange t p → WalkSays t line p (lamp_walk t p (column t line))
walk_is_execution t wf line p range = by (walk_means t (t.states * t.worlds) p line)
  where
    by : {v : Walk} → WalkMeans t line (t.states * t.worlds) p v → WalkSays t line p v
    by (rests r) = rw r.count (says.rests r.execution r.ends)
    by (lingers r) = says.circles (lingers_forever t wf line p range r) (lingers_passes_none t wf line p range r)
    by (arrives r) = rw r.count (says.arrives r.staying r.passing r.moved_on)
