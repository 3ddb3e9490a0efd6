-- For the functions of the walk: what their answers stand for in the definition of a run.
use Rattle.std.specs.Prelude.{cond, ℕ}
use Rattle.lamp_line.specs.declared.Pair.{Pair}
use Rattle.lamp_line.specs.declared.FailureKind.TheVariants.{Circles}
use Rattle.lamp_line.specs.declared.Ending.{Ending}
use Rattle.lamp_line.specs.declared.Ending.TheVariants.{Failure}
use Rattle.lamp_line.specs.Tables.{Tables}
use Rattle.lamp_line.specs.Run.{Move, ends, stays, passes, Walk, ended, arrived, is_final, judged}
use Rattle.lamp_walk.specs.declared.Acted.{Acted}
use Rattle.lamp_walk.specs.declared.Acted.TheVariants as acted
use Rattle.lamp_walk.specs.declared.Walked.{Walked}
use Rattle.lamp_walk.specs.declared.Walked.TheVariants as walked

-- What an answer of `one_action` stands for.
abbrev pub move_of : Acted → Move
move_of (acted.Ends x) = ends x
move_of (acted.Stays p) = stays p
move_of (acted.Passes p) = passes p

-- What an answer of `walk_in_job` stands for.
abbrev pub walk_of : Walked → Walk
walk_of (walked.Ended x k) = ended x k
walk_of (walked.Arrived p k) = arrived p k

-- The ending once S·W steps are counted at a lamp: state S is judged, and any other state circles.
abbrev pub spent_ending : Tables → Pair → ℕ → Ending
spent_ending t p column = cond (is_final t p.state) (judged t p.world column) (Failure Circles)
