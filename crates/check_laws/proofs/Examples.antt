-- The answer of the check, computed on small tables as a test of the definitions. In the first of them there are two world states and
-- one kind of lamp; passing a lamp changes from one world state to the other. `ends` is the highest kind of end.
use mathlib.Core.Path.{◌≡◌, refl}
use mathlib.Core.Bool.{Bool, true, false, cond, ◌||◌, ◌&&◌}
use Rattle.std.specs.Prelude.{Option, None, Some}
use mathlib.Core.List.{List, [], ◌∷◌}
use Prim.Native.Nat.{ℕ, ◌-◌}
use lib.Dec.{eqb, leb}
use Rattle.plans.specs.Plan.{Action, Result}
use Rattle.lamp_line.specs.declared.ProgramState.{ProgramState}
use Rattle.lamp_line.specs.declared.WorldState.{WorldState}
use Rattle.lamp_line.specs.declared.FailureKind.TheVariants.{NotLegal, NoBranch, Circles, GoalFalse}
use Rattle.lamp_line.specs.Tables.{Outcome, outcome, Tables, program_state, world_state, kinds_of_ends, lamp_column, line_of}
use Rattle.lamp_line.specs.Check.{accepted, failed}
use Rattle.lamp_line.specs.Run.{act, walk, own_steps}
use Rattle.run_laws.specs.inner.Pairs.{pair_number, pair_of}
use Rattle.check_laws.specs.inner.Fates.{fate, ends_from}
use Rattle.search_laws.specs.inner.Entries.{end_from}
use Rattle.check_laws.specs.inner.Search.{met, tried, lowest_from, members_from, kinds_from, groups_from, verdict_of}

-- Action 0 looks: its result is 0 at the line's end and 1 at a lamp. Action 1 passes a lamp.
abbrev cells : ℕ → Action → WorldState → ℕ → List Outcome
cells ends a w column =
    cond (eqb a 0)
    (outcome w (cond (leb column ends) 0 1) ∷ [])
    (cond (leb column ends) [] (outcome (world_state (1 - w.0)) 0 ∷ []))

-- State 0 looks: at the line's end it goes to state 2, which is final, and at a lamp to `seen`. State 1 passes a lamp.
abbrev targets : Option ProgramState → ProgramState → Result → Option ProgramState
targets seen q r =
    cond (eqb q.0 0)
    (cond (eqb r 0) (Some (program_state 2)) seen)
    (cond (eqb r 0) (Some (program_state 0)) None)

-- The plan begins in state `first`, in world state 0. The goal is true at the line's end, in the world states and at the
-- kinds of ends of `goal`.
abbrev small : ℕ → ℕ → Option ProgramState → (ℕ → ℕ → Bool) → Tables
small ends first seen goal =
    record {
      actions = 2;
      worlds = 2;
      kinds = 1;
      results = 2;
      states = 2;
      first = program_state first;
      ends = ends;
      mark = λ a. a;
      cell = cells ends;
      start = λ w. eqb w.0 0;
      goal = λ w column. cond (leb column ends) (goal w.0 column) false;
      action = λ q. q.0;
      target = targets seen;
    }

-- Both world states are starts. The plan ends at once, so a line fails from a start at its first lamp, or at its end if it has none, where
-- the goal is false: `fails` says in which world state and at which column. Columns up to `ends` are ends, and the lamps come after them.
abbrev at_once : ℕ → ℕ → (ℕ → ℕ → Bool) → Tables
at_once ends kinds fails =
    record {
      actions = 1;
      worlds = 2;
      kinds = kinds;
      results = 1;
      states = 0;
      first = program_state 0;
      ends = ends;
      mark = λ a. 0;
      cell = λ a w column. [];
      start = λ w. true;
      goal = λ w column. cond (fails w.0 column) false true;
      action = λ q. 0;
      target = λ q r. None;
    }

-- World states 0 and 1 are starts, and there are two kinds of ends. The plan looks, and passes the lamps that it sees. From one of the
-- starts the first lamp cannot be passed; from the other it leads to world state 2, in which the goal is false at the second end.
abbrev crossing : ℕ → Tables
crossing stuck =
    record {
      actions = 2;
      worlds = 3;
      kinds = 1;
      results = 2;
      states = 2;
      first = program_state 0;
      ends = 1;
      mark = λ a. a;
      cell = λ a w column.
          cond (eqb a 0)
          (outcome w (cond (leb column 1) 0 1) ∷ [])
          (cond (leb column 1 || eqb w.0 stuck) [] (outcome (world_state 2) 0 ∷ []));
      start = λ w. leb w.0 1;
      goal = λ w column. cond (eqb w.0 2 && eqb column 1) false true;
      action = λ q. q.0;
      target = targets (Some (program_state 1));
    }

-- The answers.
pub record SmallChecks : Type 0 where
  -- The goal is true in both world states. State 0 is reached with each of them, so there are two pairs.
  pub correct : verdict_of (small 0 0 (Some (program_state 1)) (λ w end. true)) ≡ accepted 2
  -- After one lamp, or any odd number of them, the goal is false.
  pub odd_lamps : verdict_of (small 0 0 (Some (program_state 1)) (λ w end. eqb w 0)) ≡ failed GoalFalse (world_state 0) (line_of 0 (1 ∷ []))
  -- State 0 looks at the lamp for ever.
  pub circling : verdict_of (small 0 0 (Some (program_state 0)) (λ w end. true)) ≡ failed Circles (world_state 0) (line_of 0 (1 ∷ []))
  -- State 0 has no branch for the result at a lamp.
  pub no_branch : verdict_of (small 0 0 None (λ w end. true)) ≡ failed NoBranch (world_state 0) (line_of 0 (1 ∷ []))
  -- The plan passes a lamp first, but the line may be empty.
  pub not_legal : verdict_of (small 0 1 None (λ w end. true)) ≡ failed NotLegal (world_state 0) (line_of 0 [])
  -- There are two kinds of ends, and the goal is false at the second.
  pub second_end : verdict_of (small 1 0 (Some (program_state 1)) (λ w end. eqb end 0)) ≡ failed GoalFalse (world_state 0) (line_of 1 [])
  -- The goal is false at the second end after an odd number of lamps.
  pub odd_second_end :
      verdict_of (small 1 0 (Some (program_state 1)) (λ w end. eqb end 0 || eqb w 0)) ≡ failed GoalFalse (world_state 0) (line_of 1 (1 ∷ []))
  -- Where the failure is at a lamp, the lowest kind of end is named.
  pub lowest_end : verdict_of (small 1 0 None (λ w end. true)) ≡ failed NoBranch (world_state 0) (line_of 0 (1 ∷ []))
  -- 02, (f). From start 0 the line [2] fails, from start 1 the line [1]: the line decides.
  pub line_before_start :
      verdict_of (at_once 0 2 (λ w c. cond (eqb w 0) (eqb c 2) (eqb c 1))) ≡ failed GoalFalse (world_state 1) (line_of 0 (1 ∷ []))
  pub line_before_start_mirrored :
      verdict_of (at_once 0 2 (λ w c. cond (eqb w 0) (eqb c 1) (eqb c 2))) ≡ failed GoalFalse (world_state 0) (line_of 0 (1 ∷ []))
  -- The empty line fails from start 0 at the second end, from start 1 at the first: the end decides.
  pub end_before_start :
      verdict_of (at_once 1 1 (λ w c. cond (eqb w 0) (eqb c 1) (eqb c 0))) ≡ failed GoalFalse (world_state 1) (line_of 0 [])
  pub end_before_start_mirrored :
      verdict_of (at_once 1 1 (λ w c. cond (eqb w 0) (eqb c 0) (eqb c 1))) ≡ failed GoalFalse (world_state 0) (line_of 0 [])
  -- It fails from both at the second end: the lower start is named.
  pub start_last : verdict_of (at_once 1 1 (λ w c. eqb c 1)) ≡ failed GoalFalse (world_state 0) (line_of 1 [])
  -- The line [1] fails from one start at its lamp, and from the other at its second end: the failure at the lamp counts for the first.
  pub lamp_before_end : verdict_of (crossing 1) ≡ failed NotLegal (world_state 1) (line_of 0 (1 ∷ []))
  pub lamp_before_end_mirrored : verdict_of (crossing 0) ≡ failed NotLegal (world_state 0) (line_of 0 (1 ∷ []))

-- Each holds by computation.
pub small_checks : SmallChecks
unfolding kinds_of_ends lamp_column act walk own_steps pair_number pair_of fate ends_from met tried end_from lowest_from members_from kinds_from groups_from verdict_of
small_checks =
    record {
      correct = refl;
      odd_lamps = refl;
      circling = refl;
      no_branch = refl;
      not_legal = refl;
      second_end = refl;
      odd_second_end = refl;
      lowest_end = refl;
      line_before_start = refl;
      line_before_start_mirrored = refl;
      end_before_start = refl;
      end_before_start_mirrored = refl;
      start_last = refl;
      lamp_before_end = refl;
      lamp_before_end_mirrored = refl;
    }
