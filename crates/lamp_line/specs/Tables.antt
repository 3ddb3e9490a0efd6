-- Lines and tables (01, "The line and its tables"; 02, (c), for the ends of lines), and the lamp line as an action theory of 001. The
-- tables are functions here; the crate job_layout defines how the bytes of a job file give them.
use Rattle.std.specs.Prelude.{◌≡◌, Bool, true, cond, not, List, [], ◌∷◌, ℕ, ◌+◌, ◌≤◌, ◌<◌, eqb, drop}
use Rattle.std.specs.Prelude.{Option}
use Rattle.plans.specs.Plan.{Action, Result, ActionTheory, PlanningProblem, Plan}
use Rattle.lamp_line.specs.declared.ProgramState.{ProgramState}
use Rattle.lamp_line.specs.declared.WorldState.{WorldState}
use Rattle.lamp_line.specs.Lists.{◌∈◌}

-- The program state, and the world state, with this number.
abbrev pub program_state : ℕ → ProgramState
program_state n = record { 0 = n }

abbrev pub world_state : ℕ → WorldState
world_state n = record { 0 = n }

-- ---- the tables

-- The content of a legal cell: the world state after the action, and the result that is sensed.
pub data Outcome : Type 0 where
  outcome : WorldState → Result → Outcome

-- The numbers A, W, C, R and S, the first program state and the number E less one, then the five parts of a job file: marks, cells,
-- starts, goal, plan.
pub record Tables : Type 0 where
  pub actions : ℕ
  pub worlds : ℕ
  pub kinds : ℕ
  pub results : ℕ
  pub states : ℕ
  pub first : ProgramState
  -- 02, (c): the highest kind of line's end, so that the kinds of ends are 0 to this number.
  pub ends : ℕ
  pub mark : Action → ℕ
  -- For an action, a world state and a column: the list is empty where the action is not legal. A legal cell of 01 has one outcome.
  pub cell : Action → WorldState → ℕ → List Outcome
  pub start : WorldState → Bool
  -- For a world state and a column.
  pub goal : WorldState → ℕ → Bool
  pub action : ProgramState → Action
  -- There is none where the plan has no branch for the result.
  pub target : ProgramState → Result → Option ProgramState

-- 01, "Job file": S is the number of the final program state.
abbrev pub final : Tables → ProgramState
final t = program_state t.states

-- 01, "Job file": an action with mark 0 does not move on; any other does. Of the others a file that is not refused has only 1.
abbrev pub moves_on : Tables → Action → Bool
moves_on t a = not (eqb (t.mark a) 0)

-- ---- lines and columns

-- The kinds of the lamps that are left, beginning with the lamp at which the cabinet is, and the kind of the line's end. In the terms of 001
-- a line is a sequence function: it is read at the number of lamps left, and the end is its value at 0.
pub record Line : Type 0 where
  pub lamps : List ℕ
  pub end : ℕ

-- The line with this end and these lamps.
abbrev pub line_of : ℕ → List ℕ → Line
line_of end lamps = record { lamps = lamps; end = end }

-- 02, (c): the number E of kinds of line's end, which are 0 to `ends`. Their columns are 0 to E - 1, each the number of its kind.
unfoldable pub kinds_of_ends : ℕ → ℕ
kinds_of_ends ends = ends + 1

-- 02, (c): the column of a lamp of the kind k is E - 1 + k, where the kinds of ends are 0 to `ends`.
unfoldable pub lamp_column : ℕ → ℕ → ℕ
lamp_column ends kind = ends + kind

-- 02, (c): there are E + C columns, one for each kind of end and then one for each kind of lamp.
unfoldable pub columns : ℕ → ℕ → ℕ
columns ends kinds = kinds_of_ends ends + kinds

-- How many columns the tables have.
abbrev pub column_count : Tables → ℕ
column_count t = columns t.ends t.kinds

-- The column of the first of these lamps, or of the line's end if there is none, where the kinds of ends are 0 to `ends`.
abbrev pub column_of : ℕ → ℕ → List ℕ → ℕ
column_of ends end [] = end
column_of ends end (kind ∷ lamps) = lamp_column ends kind

-- 01, "The line and its tables": the present column, which is that of the first lamp left, or of the line's end if there is none.
abbrev pub column : Tables → Line → ℕ
column t line = column_of t.ends line.end line.lamps

-- The line after its first lamp is passed.
abbrev pub passed : Line → Line
passed line = record { lamps = drop 1 line.lamps; end = line.end }

-- The line after an action: without its first lamp if the action moves on.
abbrev pub rest_after : Tables → Action → Line → Line
rest_after t a line = cond (moves_on t a) (passed line) line

-- Each lamp has a kind from 1 to C.
unfoldable pub Kinds : ℕ → List ℕ → Type 0
Kinds kinds [] = Unit {0}
Kinds kinds (kind ∷ lamps) = (1 ≤ kind) × (kind ≤ kinds) × Kinds kinds lamps

-- The line is one of the job's lines: it has any number of lamps, each of one of the job's kinds, and one of the job's kinds of end.
pub record Fits (t : Tables) (line : Line) : Type 0 where
  pub of_kinds : Kinds t.kinds line.lamps
  pub ended : line.end < kinds_of_ends t.ends

-- ---- the lamp line in the terms of 001

-- A situation of 001. 01, "The line and its tables": the values of all finite fluents are in the world state, and the planning
-- parameter is how many lamps the rest of the line has.
pub record Situation : Type 0 where
  pub world : WorldState
  pub rest : Line

-- 01, "The line and its tables": the cell for the action, the world state and the present column gives the possible outcomes; the
-- line goes on as `rest_after` says.
abbrev pub lamp_theory : Tables → ActionTheory
lamp_theory t =
    record {
      Situation = Situation;
      Does = λ a s r s'.
          (outcome s'.world r ∈ t.cell a s.world (column t s.rest)) × (s'.rest ≡ rest_after t a s.rest);
    }

-- A beginning (01, "One run"): a start that is marked, and a line of the job.
pub record Beginning (t : Tables) (start : WorldState) (line : Line) : Type 0 where
  pub marked : t.start start ≡ true
  pub fits : Fits t line

-- The planning problem of a job. An execution may begin at any beginning. For the goal, the cell of the world state and the present
-- column decides (01, "The check").
abbrev pub lamp_problem : Tables → PlanningProblem
lamp_problem t =
    record {
      theory = lamp_theory t;
      First = λ s. Beginning t s.world s.rest;
      Goal = λ s. t.goal s.world (column t s.rest) ≡ true;
    }

-- The plan of a job, as a plan of 001.
abbrev pub plan_of : Tables → Plan
plan_of t =
    record {
      State = ProgramState;
      initial = t.first;
      final = final t;
      γ = t.action;
      δ = t.target;
    }
