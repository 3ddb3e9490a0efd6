-- The layout of a job file (01, "Job file"; 02, (c), for byte 6): its head, the lengths that its parts must have, and the place of each entry.
-- A file is the list of its bytes.
use Rattle.std.specs.Prelude.{List, ℕ, ◌+◌, ◌*◌, get_or}
use Rattle.plans.specs.Plan.{Action, Result}
use Rattle.lamp_line.specs.declared.ProgramState.{ProgramState}
use Rattle.lamp_line.specs.declared.WorldState.{WorldState}
use Rattle.lamp_line.specs.Tables.{program_state, kinds_of_ends, columns}
use Rattle.job_layout.specs.declared.Part.{Part}
use Rattle.job_layout.specs.declared.Job.{Job}
use Rattle.job_layout.specs.declared.Sizes.{Sizes}

-- Byte i of the file, or 0 where the file has none.
abbrev pub byte : List ℕ → ℕ → ℕ
byte s i = get_or s i 0

-- A 16-bit number takes two bytes, the low one first.
abbrev pub number16 : List ℕ → ℕ → ℕ
number16 s i = byte s i + 256 * byte s (i + 1)

-- The offset and length of a part, a 16-bit number each.
abbrev pub part : List ℕ → ℕ → Part
part s i = record { offset = number16 s i; length = number16 s (i + 2) }

-- The numbers in bytes 0 to 6, and the offsets and lengths of the five parts in bytes 8 to 27.
abbrev pub head : List ℕ → Job
head s =
    record {
      actions = byte s 0;
      worlds = byte s 1;
      kinds = byte s 2;
      results = byte s 3;
      states = byte s 4;
      first = program_state (byte s 5);
      ends = byte s 6;
      marks = part s 8;
      cells = part s 12;
      starts = part s 16;
      goal = part s 20;
      plan = part s 24;
    }

-- The numbers A, W, C, R and E of a job.
abbrev pub sizes_of : Job → Sizes
sizes_of j =
    record {
      actions = j.actions;
      worlds = j.worlds;
      kinds = j.kinds;
      results = j.results;
      end_kinds = kinds_of_ends j.ends;
    }

-- 02, (c): there are E + C columns.
abbrev pub width : Sizes → ℕ
width n = n.end_kinds + n.kinds

-- How many columns the tables of a job have.
abbrev pub job_columns : Job → ℕ
job_columns j = columns j.ends j.kinds

-- ---- the length that each part must have

abbrev pub marks_length : Job → ℕ
marks_length j = j.actions

-- How many cells there are; each takes two bytes.
abbrev pub cell_count : Job → ℕ
cell_count j = j.actions * j.worlds * job_columns j

abbrev pub cells_length : Job → ℕ
cells_length j = 2 * cell_count j

abbrev pub starts_length : Job → ℕ
starts_length j = j.worlds

abbrev pub goal_length : Job → ℕ
goal_length j = j.worlds * job_columns j

abbrev pub plan_length : Job → ℕ
plan_length j = j.states * (1 + j.results)

-- ---- the place of each entry in the file

-- One byte for each action.
abbrev pub mark_place : Job → Action → ℕ
mark_place j a = j.marks.offset + a

-- The cells are ordered by action, then by world state, then by column. Each has two bytes: the next world state and the result.
abbrev pub next_place : Job → Action → WorldState → ℕ → ℕ
next_place j a w c = j.cells.offset + 2 * ((a * j.worlds + w.0) * job_columns j + c)

abbrev pub result_place : Job → Action → WorldState → ℕ → ℕ
result_place j a w c = next_place j a w c + 1

-- One byte for each world state.
abbrev pub start_place : Job → WorldState → ℕ
start_place j w = j.starts.offset + w.0

-- The goal cells are ordered by world state, then by column.
abbrev pub goal_place : Job → WorldState → ℕ → ℕ
goal_place j w c = j.goal.offset + (w.0 * job_columns j + c)

-- The plan has a row for each program state: first its action, then its target for each result.
abbrev pub action_place : Job → ProgramState → ℕ
action_place j q = j.plan.offset + q.0 * (1 + j.results)

abbrev pub target_place : Job → ProgramState → Result → ℕ
target_place j q r = action_place j q + 1 + r
