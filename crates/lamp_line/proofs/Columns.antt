-- The kinds of ends, and the columns: those of ends and of lamps are among the columns, and those of lamps come after those of ends.
use Prim.Native.Nat.{ℕ, ◌≤◌, ◌<◌}
use native.Mathlib.Omega.{arith}
use Rattle.lamp_line.specs.Tables.{kinds_of_ends, lamp_column, columns}

-- Up to the highest, there is an end of each kind.
pub up_to_last_end : (ends end : ℕ) → end ≤ ends → end < kinds_of_ends ends
unfolding kinds_of_ends
up_to_last_end ends end low = omega arith

-- The column of an end is one of the columns.
pub end_column_in : (ends kinds end : ℕ) → end < kinds_of_ends ends → end < columns ends kinds
unfolding columns
end_column_in ends kinds end is_end = omega arith

-- So is the column of a lamp.
pub lamp_column_in : (ends kinds kind : ℕ) → kind ≤ kinds → lamp_column ends kind < columns ends kinds
unfolding kinds_of_ends columns lamp_column
lamp_column_in ends kinds kind is_kind = omega arith

-- A lamp's column comes after those of the ends.
pub lamp_after_ends : (ends kind : ℕ) → 1 ≤ kind → ends < lamp_column ends kind
unfolding lamp_column
lamp_after_ends ends kind low = omega arith
