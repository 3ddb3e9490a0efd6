-- Request (c) of 02, for files from before it: where byte 6 is 0 there is one kind of end, and columns, lengths, places and lines are those
-- of 01; their order is that of (f) without the kinds of ends. The definitions here are those of 01 ("The line and its tables", "Job file" and
-- "Who can cause which number"), with C + 1 columns.
use Rattle.std.specs.Prelude.{◌≡◌, ◌↔◌, Bool, ◌||◌, ◌&&◌, List, [], ◌∷◌, ◌++◌, ℕ, ◌+◌, ◌*◌, length}
use Rattle.plans.specs.Plan.{Action}
use Rattle.lamp_line.specs.declared.WorldState.{WorldState}
use Rattle.lamp_line.specs.Lists.{◌≼◌}
use Rattle.lamp_line.specs.Tables.{Line, line_of, kinds_of_ends, column, Kinds, Fits, world_state}
use Rattle.lamp_line.specs.Refusals.{some_below}
use Rattle.lamp_line.specs.Check.{rank}
use Rattle.job_layout.specs.declared.Job.{Job}
use Rattle.job_layout.specs.Layout.{job_columns, byte, head, cells_length, goal_length, mark_place, next_place, goal_place}
use Rattle.job_layout.specs.JobTables.{tables_of}
use Rattle.job_layout.specs.FileRefusals.{outside, number_wrong, differs, moves_on_at_end}

-- At a lamp the column is its kind; where no lamp is left it is 0.
abbrev pub column_before : List ℕ → ℕ
column_before [] = 0
column_before (kind ∷ lamps) = kind

-- The place of a cell and of a goal cell.
abbrev next_place_before : Job → Action → WorldState → ℕ → ℕ
next_place_before j a w c = j.cells.offset + 2 * ((a * j.worlds + w.0) * (j.kinds + 1) + c)

abbrev goal_place_before : Job → WorldState → ℕ → ℕ
goal_place_before j w c = j.goal.offset + (w.0 * (j.kinds + 1) + c)

-- 2: bytes 6 and 7 are 0, and the others in their ranges.
abbrev number_wrong_before : List ℕ → Job → Bool
number_wrong_before s j =
    outside 1 16 j.actions || outside 1 64 j.worlds || outside 1 15 j.kinds || outside 1 8 j.results
    || outside 0 64 j.states || outside 0 j.states j.first.0
    || outside 0 0 (byte s 6) || outside 0 0 (byte s 7)

-- 7: the action moves on, and is legal in column 0 in some world state. Its mark is not 0, which after 5 is to say that it is 1.
abbrev moves_on_before : List ℕ → Job → ℕ → Bool
moves_on_before s j a =
    differs (byte s (mark_place j a)) 0 && some_below j.worlds (λ w. differs (byte s (next_place_before j a (world_state w) 0 + 1)) 255)

-- All of it is as before for this file.
pub record AsBefore (s : List ℕ) : Type 0 where
  pub one_end : kinds_of_ends (head s).ends ≡ 1
  pub columns_count : job_columns (head s) ≡ (head s).kinds + 1
  pub cells_length_same : cells_length (head s) ≡ 2 * ((head s).actions * (head s).worlds * ((head s).kinds + 1))
  pub goal_length_same : goal_length (head s) ≡ (head s).worlds * ((head s).kinds + 1)
  pub cell_place : (a : Action) (w : WorldState) (c : ℕ) → next_place (head s) a w c ≡ next_place_before (head s) a w c
  pub goal_place_same : (w : WorldState) (c : ℕ) → goal_place (head s) w c ≡ goal_place_before (head s) w c
  pub refusal_2 : number_wrong s (head s) ≡ number_wrong_before s (head s)
  pub refusal_7 : (a : ℕ) → moves_on_at_end s (head s) a ≡ moves_on_before s (head s) a
  -- The lines of the job are those with lamps of the kinds 1 to C and the end kind 0, and their column is as before.
  pub lines : (line : Line) → Fits (tables_of s) line ↔ (Kinds (head s).kinds line.lamps × (line.end ≡ 0))
  pub line_column : (lamps : List ℕ) → column (tables_of s) (line_of 0 lamps) ≡ column_before lamps
  -- The order of these lines: by length, kinds of lamps and start.
  pub order :
      (start start' : WorldState) (lamps lamps' : List ℕ) →
      (rank (tables_of s) start (line_of 0 lamps) ≼ rank (tables_of s) start' (line_of 0 lamps'))
      ↔ ((length lamps ∷ (lamps ++ (start.0 ∷ []))) ≼ (length lamps' ∷ (lamps' ++ (start'.0 ∷ []))))

-- It is so for every file in which byte 6 is 0.
abbrev pub OneEndKindAsBefore : Type 0
OneEndKindAsBefore = (s : List ℕ) → byte s 6 ≡ 0 → AsBefore s
