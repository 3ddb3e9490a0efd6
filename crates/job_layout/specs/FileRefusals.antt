-- Refusals 1 to 11 (01, "Who can cause which number"; 02, (c), for 2 and 7): eleven conditions on the bytes of a file, each stated for a file s
-- and its head j, but for `ranges_wrong`, which is about its numbers alone.
use Rattle.std.specs.Prelude.{Bool, ◌||◌, ◌&&◌, not, List, ℕ, ◌+◌, ◌*◌, eqb, leb, ltb, length}
use Rattle.lamp_line.specs.Tables.{program_state, world_state, kinds_of_ends}
use Rattle.lamp_line.specs.Refusals.{some_below}
use Rattle.job_layout.specs.declared.Part.{Part}
use Rattle.job_layout.specs.declared.Job.{Job}
use Rattle.job_layout.specs.declared.Sizes.{Sizes}
use Rattle.job_layout.specs.Layout.{byte, sizes_of, width, marks_length, cell_count, cells_length, starts_length, goal_length, plan_length, mark_place, result_place, action_place}

-- ---- 1: the file is shorter than a head, or longer than 65,535 bytes

abbrev pub size_wrong : List ℕ → Bool
size_wrong s = ltb (length s) 28 || ltb 65535 (length s)

-- ---- 2: one of the first eight bytes is not in its range, or there are more than 16 columns

-- n is below the range from low to high, or above it.
abbrev pub outside : ℕ → ℕ → ℕ → Bool
outside low high n = ltb n low || ltb high n

-- One of A, W, C and R is out of its range, there is no kind of end, or there are more than 16 columns. Refusal 22 of 02, (e), tests this too.
unfoldable pub ranges_wrong : Sizes → Bool
ranges_wrong n =
    outside 1 16 n.actions || outside 1 64 n.worlds || outside 1 15 n.kinds || outside 1 8 n.results
    || ltb n.end_kinds 1 || ltb 16 (width n)

unfoldable pub number_wrong : List ℕ → Job → Bool
number_wrong s j =
    ranges_wrong (sizes_of j) || outside 0 64 j.states || outside 0 j.states j.first.0 || outside 0 0 (byte s 7)

-- ---- 3: a part is not where it may be

-- The first byte after a part.
abbrev pub end_of : Part → ℕ
end_of p = p.offset + p.length

-- A part begins before the end of the previous part (the first part: before 28), or ends after the file.
abbrev pub misplaced : ℕ → ℕ → Part → Bool
misplaced size before p = ltb p.offset before || ltb size (end_of p)

unfoldable pub place_wrong : List ℕ → Job → Bool
place_wrong s j =
    misplaced (length s) 28 j.marks
    || misplaced (length s) (end_of j.marks) j.cells
    || misplaced (length s) (end_of j.cells) j.starts
    || misplaced (length s) (end_of j.starts) j.goal
    || misplaced (length s) (end_of j.goal) j.plan

-- ---- 4: a part has another length than its table needs

-- The numbers are not equal.
abbrev pub differs : ℕ → ℕ → Bool
differs m n = not (eqb m n)

unfoldable pub length_wrong : Job → Bool
length_wrong j =
    differs j.marks.length (marks_length j)
    || differs j.cells.length (cells_length j)
    || differs j.starts.length (starts_length j)
    || differs j.goal.length (goal_length j)
    || differs j.plan.length (plan_length j)

-- ---- 5, 8, 9: bytes that must be 0 or 1

-- The byte i places after `from` is neither 0 nor 1.
abbrev pub not_bit : List ℕ → ℕ → ℕ → Bool
not_bit s from i = ltb 1 (byte s (from + i))

-- 5: some mark is neither 0 nor 1.
abbrev pub mark_wrong : List ℕ → Job → Bool
mark_wrong s j = some_below (marks_length j) (not_bit s j.marks.offset)

-- The byte i places after `from` is 1.
abbrev pub is_set : List ℕ → ℕ → ℕ → Bool
is_set s from i = eqb (byte s (from + i)) 1

-- 8: some start byte is neither 0 nor 1, or no start is marked.
abbrev pub start_wrong : List ℕ → Job → Bool
start_wrong s j =
    some_below (starts_length j) (not_bit s j.starts.offset)
    || not (some_below (starts_length j) (is_set s j.starts.offset))

-- 9: some goal byte is neither 0 nor 1.
abbrev pub goal_wrong : List ℕ → Job → Bool
goal_wrong s j = some_below (goal_length j) (not_bit s j.goal.offset)

-- ---- 6: a cell is out of range

-- The next world state is not below W, or the result is neither below R nor 255, or it is 255 and the next world state is not 0.
abbrev pub cell_wrong_in : ℕ → ℕ → ℕ → ℕ → Bool
cell_wrong_in worlds results next result =
    leb worlds next || leb results result && not (eqb result 255) || eqb result 255 && not (eqb next 0)

-- Cell number i of the cells that begin at `from` is out of range.
abbrev pub cell_wrong_at : List ℕ → ℕ → ℕ → ℕ → ℕ → Bool
cell_wrong_at s from worlds results i = cell_wrong_in worlds results (byte s (from + 2 * i)) (byte s (from + 2 * i + 1))

abbrev pub cell_wrong : List ℕ → Job → Bool
cell_wrong s j = some_below (cell_count j) (cell_wrong_at s j.cells.offset j.worlds j.results)

-- ---- 7: an action that moves on is legal at some kind of line's end

-- The action a is legal at the end e in the world state w.
abbrev pub legal_at : List ℕ → Job → ℕ → ℕ → ℕ → Bool
legal_at s j a e w = differs (byte s (result_place j a (world_state w) e)) 255

-- It is legal at the end e in some world state.
abbrev pub legal_at_end : List ℕ → Job → ℕ → ℕ → Bool
legal_at_end s j a e = some_below j.worlds (legal_at s j a e)

-- The action a moves on, and is legal at some end.
abbrev pub moves_on_at_end : List ℕ → Job → ℕ → Bool
moves_on_at_end s j a = differs (byte s (mark_place j a)) 0 && some_below (kinds_of_ends j.ends) (legal_at_end s j a)

abbrev pub end_wrong : List ℕ → Job → Bool
end_wrong s j = some_below j.actions (moves_on_at_end s j)

-- ---- 10: the plan has an action that the job does not have

-- The action of the program state q is not below A.
abbrev pub action_wrong_at : List ℕ → Job → ℕ → Bool
action_wrong_at s j q = leb j.actions (byte s (action_place j (program_state q)))

abbrev pub action_wrong : List ℕ → Job → Bool
action_wrong s j = some_below j.states (action_wrong_at s j)

-- ---- 11: the plan has a target that is neither a program state nor 255

-- The target i places after `from` is above S, and not 255.
abbrev pub target_wrong_at : List ℕ → ℕ → ℕ → ℕ → Bool
target_wrong_at s from states i = ltb states (byte s (from + i)) && differs (byte s (from + i)) 255

-- One of the targets of the program state q, which follow its action, is wrong.
abbrev pub row_wrong : List ℕ → Job → ℕ → Bool
row_wrong s j q = some_below j.results (target_wrong_at s (action_place j (program_state q) + 1) j.states)

abbrev pub target_wrong : List ℕ → Job → Bool
target_wrong s j = some_below j.states (row_wrong s j)
