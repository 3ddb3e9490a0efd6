-- Examples of runs on small tables, each computed from the definition, and of the order of failing lines. They distinguish the definitions
-- from similar ones that would be wrong: a counter that does not start again at each lamp, failure 3 tested before state S or by the
-- program state alone, a goal judged without its column, a lamp whose column is its kind where there are several kinds of ends, an
-- end that is compared before the lamps.
use mathlib.Core.Path.{◌≡◌, refl}
use mathlib.Core.Bool.{Bool, true, cond}
use Rattle.std.specs.Prelude.{Option, None, Some}
use mathlib.Core.List.{List, [], ◌∷◌}
use Prim.Native.Nat.{ℕ, ◌+◌}
use lib.Dec.{eqb, ltb}
use Rattle.plans.specs.Plan.{Action, Result}
use Rattle.lamp_line.specs.declared.ProgramState.{ProgramState}
use Rattle.lamp_line.specs.declared.WorldState.{WorldState}
use Rattle.lamp_line.specs.declared.FailureKind.TheVariants.{NoBranch, Circles, GoalFalse}
use Rattle.lamp_line.specs.declared.Ending.TheVariants.{Goal, Failure}
use Rattle.lamp_line.specs.Tables.{Outcome, outcome, Tables, program_state, world_state, line_of, lamp_column}
use Rattle.lamp_line.specs.Check.{rank}
use Rattle.lamp_line.specs.Run.{Run, ran, within, stopped, own_steps, act, walk, along, run, limited}

-- Two actions, of which action 1 moves on; one kind of lamp, two results; start 0, first state 0. The first number is that of the
-- highest kind of end.
abbrev small :
    ℕ → ℕ → ℕ → (Action → WorldState → ℕ → List Outcome) → (WorldState → ℕ → Bool) → (ProgramState → Result → Option ProgramState) → Tables
small ends worlds states cell goal target =
    record {
      actions = 2;
      worlds = worlds;
      kinds = 1;
      results = 2;
      states = states;
      first = program_state 0;
      ends = ends;
      mark = λ a. a;
      cell = cell;
      start = λ w. eqb w.0 0;
      goal = goal;
      action = λ q. q.0;
      target = target;
    }

-- The run of a line with this end and these lamps from start 0.
abbrev run_to : Tables → ℕ → List ℕ → Run
run_to t end lamps = run t (world_state 0) (line_of end lamps)

-- The run of a line with these lamps and the end kind 0.
abbrev run_on : Tables → List ℕ → Run
run_on t lamps = run_to t 0 lamps

-- State 0 goes to the final state by one action. S·W is 1, so this step is also the last that may be counted.
abbrev one_step : Tables
one_step = small 0 1 1 (λ a w c. outcome w 0 ∷ []) (λ w c. true) (λ q r. Some (program_state 1))

-- The first state is final, and the goal is true at a lamp only.
abbrev at_once : Tables
at_once = small 0 1 0 (λ a w c. []) (λ w c. eqb c 1) (λ q r. None)

-- The first state is final, there are two kinds of end, and the goal is true at the end kind 1 only.
abbrev boxed : Tables
boxed = small 1 1 0 (λ a w c. []) (λ w c. eqb c 1) (λ q r. None)

-- State 0 goes to the final state by one action, of the 2 that S·W allows. The goal is true at a lamp only.
abbrev stopping : Tables
stopping = small 0 1 2 (λ a w c. outcome w 0 ∷ []) (λ w c. eqb c 1) (λ q r. Some (program_state 2))

-- State 0 is met in world states 0, 1 and 2, and is left in world state 2.
abbrev counting : Tables
counting =
    small 0 3 1 (λ a w c. cond (ltb w.0 2) (outcome (world_state (w.0 + 1)) 0 ∷ []) (outcome w 1 ∷ []))
    (λ w c. true)
    (λ q r. cond (eqb r 0) (Some (program_state 0)) (Some (program_state 1)))

-- State 0 looks whether there is a lamp, state 1 moves on: two steps for each lamp, and S·W is 2.
abbrev passing : Tables
passing =
    small 0 1 2 (λ a w c. cond (eqb a 0) (outcome w c ∷ []) (outcome w 0 ∷ []))
    (λ w c. eqb c 0)
    (λ q r. cond (eqb q.0 0) (cond (eqb r 0) (Some (program_state 2)) (Some (program_state 1))) (Some (program_state 0)))

-- State 0 goes to itself, and so circles.
abbrev turning : Tables
turning = small 0 1 1 (λ a w c. outcome w 0 ∷ []) (λ w c. true) (λ q r. Some (program_state 0))

-- State 0 has no branch.
abbrev branchless : Tables
branchless = small 0 1 1 (λ a w c. outcome w 0 ∷ []) (λ w c. true) (λ q r. None)

-- The runs, and a rank. `kind_after_ends` is at a lamp of kind 1, which has column 2. `counted_anew` counts 5 steps along two lamps although
-- S·W is 2; `ends_at_limit` and `stopped_below` give the same run a limit.
pub record Examples : Type 0 where
  pub final_before_circling : run_on one_step [] ≡ ran Goal 1
  pub goal_by_column : run_on at_once (1 ∷ 1 ∷ 1 ∷ []) ≡ ran Goal 0
  pub goal_by_column_later : run_on stopping (1 ∷ []) ≡ ran Goal 1
  pub goal_at_box : run_to boxed 1 [] ≡ ran Goal 0
  pub no_goal_at_cap : run_to boxed 0 [] ≡ ran (Failure GoalFalse) 0
  pub kind_after_ends : run_to boxed 1 (1 ∷ []) ≡ ran (Failure GoalFalse) 0
  pub no_goal_at_end : run_on at_once [] ≡ ran (Failure GoalFalse) 0
  pub same_state_other_world : run_on counting [] ≡ ran Goal 3
  pub counted_anew : run_on passing (1 ∷ 1 ∷ []) ≡ ran Goal 5
  pub circles : run_on turning (1 ∷ []) ≡ ran (Failure Circles) 1
  pub step_not_counted : run_on branchless [] ≡ ran (Failure NoBranch) 0
  pub ends_at_limit : limited 5 (run_on passing (1 ∷ 1 ∷ [])) ≡ within Goal 5
  pub stopped_below : limited 4 (run_on passing (1 ∷ 1 ∷ [])) ≡ stopped 4
  pub start_compared_last : rank boxed (world_state 7) (line_of 1 (2 ∷ 3 ∷ [])) ≡ 2 ∷ 2 ∷ 3 ∷ 1 ∷ 7 ∷ []

-- Each holds by computation.
pub examples : Examples
unfolding lamp_column own_steps act walk along rank
examples =
    record {
      final_before_circling = refl;
      goal_by_column = refl;
      goal_by_column_later = refl;
      goal_at_box = refl;
      no_goal_at_cap = refl;
      kind_after_ends = refl;
      no_goal_at_end = refl;
      same_state_other_world = refl;
      counted_anew = refl;
      circles = refl;
      step_not_counted = refl;
      ends_at_limit = refl;
      stopped_below = refl;
      start_compared_last = refl;
    }
