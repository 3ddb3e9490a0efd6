-- The bytes of the job file of bench line G (01, "Bench line G"), and of its variants with another first program state or another plan.
use Rattle.std.specs.Prelude.{cond, ◌&&◌, ◌||◌, List, [], ◌∷◌, ◌++◌, ℕ, ◌*◌, ◌-◌, ◌/◌, ◌%◌, eqb, length}
use Rattle.lamp_line.specs.Lists.{blocks}

-- ---- the cells: world 0 is clear, in 1 the lamp is flagged, 2 is spoilt; column 0 is the line's end, 1 a sound lamp, 2 a faulty one

abbrev legal : ℕ → ℕ → List ℕ
legal world result = world ∷ result ∷ []

abbrev not_legal_cell : List ℕ
not_legal_cell = 0 ∷ 255 ∷ []

-- Action 0, peek, is legal everywhere; its result is 0 at the line's end and 1 at a lamp.
abbrev peek : ℕ → ℕ → List ℕ
peek world column = legal world (cond (eqb column 0) 0 1)

-- Action 1, test, needs a lamp; its result is 0 at a sound one and 1 at a faulty one.
abbrev test : ℕ → ℕ → List ℕ
test world column = cond (eqb column 0) not_legal_cell (legal world (column - 1))

-- Action 2, next, moves on. World 0 at a sound lamp and world 1 at a faulty one lead to world 0; otherwise the world is spoilt.
abbrev move_on : ℕ → ℕ → List ℕ
move_on world column =
    cond (eqb column 0) not_legal_cell
    (legal (cond (eqb world 0 && eqb column 1 || eqb world 1 && eqb column 2) 0 2) 0)

-- Action 3, flag, needs a lamp that is not flagged; a spoilt world stays spoilt.
abbrev flag : ℕ → ℕ → List ℕ
flag world column = cond (eqb column 0 || eqb world 1) not_legal_cell (legal (cond (eqb world 0) 1 2) 0)

-- An action's cells: for each world, its cell at each column.
abbrev cells_of : (ℕ → ℕ → List ℕ) → List ℕ
cells_of action = blocks 3 (λ world. blocks 3 (action world))

-- ---- the file

-- A row of the plan: an action, then the targets for results 0 and 1.
pub data Row : Type 0 where
  row : ℕ → ℕ → ℕ → Row

-- The target of a result without a branch.
abbrev pub no_branch_byte : ℕ
no_branch_byte = 255

-- The plan's rows as bytes.
unfoldable pub plan_bytes : List Row → List ℕ
plan_bytes [] = []
plan_bytes (row action target₀ target₁ ∷ rows) = action ∷ target₀ ∷ target₁ ∷ plan_bytes rows

abbrev offset_and_length : ℕ → ℕ → List ℕ
offset_and_length offset size = offset % 256 ∷ offset / 256 ∷ size % 256 ∷ size / 256 ∷ []

-- The job with this first state and these rows, one for each non-final state; A 4, W 3, C 2, R 2. The only start is world 0, and the goal
-- holds only in world 0 at the line's end.
unfoldable pub bench_job : ℕ → List Row → List ℕ
bench_job first rows =
    (4 ∷ 3 ∷ 2 ∷ 2 ∷ length rows ∷ first ∷ 0 ∷ 0 ∷ [])
    ++ offset_and_length 28 4 ++ offset_and_length 32 72 ++ offset_and_length 104 3 ++ offset_and_length 107 9
    ++ offset_and_length 116 (3 * length rows)
    ++ (0 ∷ 0 ∷ 1 ∷ 0 ∷ [])
    ++ cells_of peek ++ cells_of test ++ cells_of move_on ++ cells_of flag
    ++ (1 ∷ 0 ∷ 0 ∷ [])
    ++ (1 ∷ 0 ∷ 0 ∷ 0 ∷ 0 ∷ 0 ∷ 0 ∷ 0 ∷ 0 ∷ [])
    ++ plan_bytes rows

-- ---- the plans

-- G with these rows for states 0 and 1, and with this first state.
abbrev pub bench_with : ℕ → Row → Row → List ℕ
bench_with first row₀ row₁ = bench_job first (row₀ ∷ row₁ ∷ row 3 3 no_branch_byte ∷ row 2 0 no_branch_byte ∷ [])

-- Bench line G itself.
unfoldable pub G : List ℕ
G = bench_with 0 (row 0 4 1) (row 1 3 2)

-- Faulty lamps are not flagged: state 1 goes to 3 on both results.
unfoldable pub G_unflagged : List ℕ
G_unflagged = bench_with 0 (row 0 4 1) (row 1 3 3)

-- At a lamp state 0 goes back to itself.
unfoldable pub G_circling : List ℕ
G_circling = bench_with 0 (row 0 4 0) (row 1 3 2)

-- State 0 has no branch at the line's end.
unfoldable pub G_no_branch : List ℕ
G_no_branch = bench_with 0 (row 0 no_branch_byte 1) (row 1 3 2)

-- The plan begins in its final state.
unfoldable pub G_final : List ℕ
G_final = bench_with 4 (row 0 4 1) (row 1 3 2)

-- The plan begins with the test.
unfoldable pub G_test_first : List ℕ
G_test_first = bench_with 1 (row 0 4 1) (row 1 3 2)

-- A fifth state looks for the line's end after each lamp; it has no branch for another lamp.
unfoldable pub G_five : List ℕ
G_five = bench_job 0 (row 0 5 1 ∷ row 1 3 2 ∷ row 3 3 no_branch_byte ∷ row 2 4 no_branch_byte ∷ row 0 5 no_branch_byte ∷ [])
