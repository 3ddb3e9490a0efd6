-- One run (01, "One run") as executable definitions: one action, the walk at one lamp, the run along a line, the limit.
use Rattle.std.specs.Prelude.{Bool, cond, List, [], ◌∷◌, ℕ, zero, suc, ◌+◌, ◌*◌, eqb, leb}
use Rattle.std.specs.Prelude.{Option, None, Some}
use Rattle.plans.specs.Plan.{Action}
use Rattle.lamp_line.specs.declared.ProgramState.{ProgramState}
use Rattle.lamp_line.specs.declared.WorldState.{WorldState}
use Rattle.lamp_line.specs.declared.FailureKind.TheVariants.{NotLegal, NoBranch, Circles, GoalFalse}
use Rattle.lamp_line.specs.declared.Ending.{Ending}
use Rattle.lamp_line.specs.declared.Pair.{Pair}
use Rattle.lamp_line.specs.declared.Ending.TheVariants.{Goal, Failure}
use Rattle.lamp_line.specs.Tables.{Outcome, outcome, Tables, moves_on, lamp_column, Line}

-- A pair by its two parts, its program state and its world state.
abbrev pub pair : ProgramState → WorldState → Pair
pair q w = record { state = q; world = w }

-- The result of one action: the run ends, or goes on at the same lamp, or goes on at the next lamp.
pub data Move : Type 0 where
  ends : Ending → Move
  stays : Pair → Move
  passes : Pair → Move

-- The result of the walk at one lamp, with the steps counted there: the run ends, or arrives at the next lamp or at the line's end.
pub data Walk : Type 0 where
  ended : Ending → ℕ → Walk
  arrived : Pair → ℕ → Walk

-- The result of a run: its ending, and the number of counted steps.
pub data Run : Type 0 where
  ran : Ending → ℕ → Run

-- What a run with a limit answers: its ending and count if the count is within the limit, otherwise Stopped with the limit.
pub data Limited : Type 0 where
  within : Ending → ℕ → Limited
  stopped : ℕ → Limited

-- How many steps an ending adds to those of the execution: 1 if the action that caused the ending is counted, else 0. By 01, "One
-- run", no ending adds a step; in particular, the action whose result has no branch is not counted.
unfoldable pub own_steps : Ending → ℕ
own_steps Goal = 0
own_steps (Failure NotLegal) = 0
own_steps (Failure NoBranch) = 0
own_steps (Failure Circles) = 0
own_steps (Failure GoalFalse) = 0

-- The walk with one more step counted.
abbrev one_more : Walk → Walk
one_more (ended x k) = ended x (suc k)
one_more (arrived p k) = arrived p (suc k)

-- The run with n more steps counted.
abbrev after : ℕ → Run → Run
after n (ran x k) = ran x (n + k)

-- The walk at the line's end ends the run. No lamp can be passed there, so with well-formed tables the second clause is never used.
abbrev at_end : Walk → Run
at_end (ended x k) = ran x k
at_end (arrived p k) = ran (Failure NotLegal) k

module _ (t : Tables) where
  -- The test for state S, the final one.
  abbrev pub is_final : ProgramState → Bool
  is_final q = eqb q.0 t.states

  -- 01, "One run": in state S the goal's cell for the world state and the column decides between Goal and failure 4.
  abbrev pub judged : WorldState → ℕ → Ending
  judged w column = cond (t.goal w column) Goal (Failure GoalFalse)

  -- 01, "One run": a result that the plan has no branch for gives failure 2. Otherwise the run goes on with the next world state
  -- and the target, at the next lamp if the action moves on.
  abbrev pub branched : Action → WorldState → Option ProgramState → Move
  branched a w None = ends (Failure NoBranch)
  branched a w (Some q) = cond (moves_on t a) (passes (pair q w)) (stays (pair q w))

  -- 01, "One run": a cell without outcome, which is an action that is not legal, gives failure 1.
  abbrev pub carried_out : ProgramState → List Outcome → Move
  carried_out q [] = ends (Failure NotLegal)
  carried_out q (outcome w r ∷ more) = branched (t.action q) w (t.target q r)

  -- One action of the run, at this column. State S is tested first.
  unfoldable pub act : Pair → ℕ → Move
  act p column =
      cond (is_final p.state)
      (ends (judged p.world column))
      (carried_out p.state (t.cell (t.action p.state) p.world column))

  -- The walk at one lamp, or at the line's end, where n steps may still be counted of the S·W that are allowed there. When none is
  -- left the walk ends with failure 3, unless it is in state S: 01, "One run", has the test for failure 3 directly after the one
  -- for state S.
  unfoldable pub walk : ℕ → Pair → ℕ → Walk
  walk zero p column = ended (cond (is_final p.state) (judged p.world column) (Failure Circles)) 0
  walk (suc n) p column =
      elim (act p column) [
        | ends x ↦ ended x (own_steps x)
        | stays p' ↦ one_more (walk n p' column)
        | passes p' ↦ arrived p' 1
      ]

  -- The one-lamp walk: it begins with the pair of the arrival, at the lamp (or line's end) of this column.
  abbrev pub lamp_walk : Pair → ℕ → Walk
  lamp_walk p column = walk (t.states * t.worlds) p column

  -- The run from p, lamp by lamp along the line and then at the line's end.
  unfoldable pub along : ℕ → List ℕ → Pair → Run
  along end [] p = at_end (lamp_walk p end)
  along end (kind ∷ lamps) p =
      elim (lamp_walk p (lamp_column t.ends kind)) [
        | ended x k ↦ ran x k
        | arrived p' k ↦ after k (along end lamps p')
      ]

  -- 01, "One run": the run of a line begins in the first program state, at a start; `Beginning` says which starts and lines.
  abbrev pub run : WorldState → Line → Run
  run start line = along line.end line.lamps (pair t.first start)

-- 01, "One run": a run whose count is at most the limit answers its ending and count; any other answers Stopped with the limit.
abbrev pub limited : ℕ → Run → Limited
limited limit (ran x k) = cond (leb k limit) (within x k) (stopped limit)
