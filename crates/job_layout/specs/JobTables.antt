-- The tables of a job file (01, "Job file", parts 1 to 5): the only definition that turns bytes into tables.
-- Outside its range a table has no outcome, no branch, no start and no goal, and its mark and action are 0.
use Rattle.std.specs.Prelude.{cond, ◌&&◌, List, [], ◌∷◌, ℕ, eqb, ltb}
use Rattle.std.specs.Prelude.{Option, None, Some}
use Rattle.lamp_line.specs.declared.ProgramState.{ProgramState}
use Rattle.lamp_line.specs.Tables.{Outcome, outcome, Tables, program_state, world_state}
use Rattle.job_layout.specs.declared.Job.{Job}
use Rattle.job_layout.specs.Layout.{job_columns, byte, head, mark_place, next_place, result_place, start_place, goal_place, action_place, target_place}

-- Part 2: a cell with result 255 is not legal, so it has no outcome. Any other has one.
abbrev pub outcomes : ℕ → ℕ → List Outcome
outcomes next result = cond (eqb result 255) [] (outcome (world_state next) result ∷ [])

-- Part 5: target 255 stands for no branch, and any other for the program state of that number.
abbrev pub branch : ℕ → Option ProgramState
branch target = cond (eqb target 255) None (Some (program_state target))

-- The tables that the file s has if j is its head.
abbrev pub tables_by : List ℕ → Job → Tables
tables_by s j =
    record {
      actions = j.actions;
      worlds = j.worlds;
      kinds = j.kinds;
      results = j.results;
      states = j.states;
      first = j.first;
      ends = j.ends;
      mark = λ a. cond (ltb a j.actions) (byte s (mark_place j a)) 0;
      cell = λ a w c.
          cond (ltb a j.actions && ltb w.0 j.worlds && ltb c (job_columns j))
          (outcomes (byte s (next_place j a w c)) (byte s (result_place j a w c)))
          [];
      start = λ w. ltb w.0 j.worlds && eqb (byte s (start_place j w)) 1;
      goal = λ w c. ltb w.0 j.worlds && ltb c (job_columns j) && eqb (byte s (goal_place j w c)) 1;
      action = λ q. cond (ltb q.0 j.states) (byte s (action_place j q)) 0;
      target = λ q r. cond (ltb q.0 j.states && ltb r j.results) (branch (byte s (target_place j q r))) None;
    }

-- The tables of a file.
abbrev pub tables_of : List ℕ → Tables
tables_of s = tables_by s (head s)
