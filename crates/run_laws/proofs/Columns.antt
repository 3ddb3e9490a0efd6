-- Columns and the lines of a job: each line is at one of the columns, each column is that of some line, and before each line there
-- can be a lamp of any kind.
use mathlib.Core.Path.{◌≡◌, refl}
use mathlib.Core.List.{List, [], ◌∷◌}
use Prim.Native.Nat.{ℕ, ◌-◌, ◌<◌}
use native.Mathlib.Decide.{dec_lt}
use native.Mathlib.Omega.{arith}
use Rattle.lamp_line.specs.Tables.{Tables, Line, Kinds, Fits, kinds_of_ends, lamp_column, columns, column, passed, line_of, column_count}
use Rattle.lamp_line.proofs.Columns.{end_column_in, lamp_column_in}

module _ (t : Tables) where
  column_below :
      (end : ℕ) (lamps : List ℕ) → end < kinds_of_ends t.ends → Kinds t.kinds lamps → column t (line_of end lamps) < column_count t
  unfolding Kinds
  column_below end [] e k = end_column_in t.ends t.kinds end e
  column_below end (kind ∷ lamps) e k = lamp_column_in t.ends t.kinds kind k.1

  -- A line of the job is at one of the columns.
  pub column_is_below : {line : Line} → Fits t line → column t line < column_count t
  column_is_below {line} fits = column_below line.end line.lamps fits.ended fits.of_kinds

  -- Before a line there is a lamp, whose column is not an end's.
  pub record LampBefore (rest : Line) (c : ℕ) : Type 0 where
    pub line : Line
    pub fits : Fits t line
    pub is_column : column t line ≡ c
    pub is_rest : passed line ≡ rest

  pub lamp_before : {rest : Line} {c : ℕ} → Fits t rest → c < column_count t → ¬ (c < kinds_of_ends t.ends) → LampBefore rest c
  unfolding kinds_of_ends lamp_column columns Kinds
  lamp_before {rest} {c} fits c< not_end =
      record {
        line = line_of rest.end ((c - t.ends) ∷ rest.lamps);
        fits = record { of_kinds = (omega arith, omega arith, fits.of_kinds); ended = fits.ended };
        is_column = omega arith;
        is_rest = refl;
      }

  -- A line of the job at a column.
  pub record LineAt (c : ℕ) : Type 0 where
    pub line : Line
    pub fits : Fits t line
    pub is_column : column t line ≡ c

  empty_line : {end : ℕ} → end < kinds_of_ends t.ends → Fits t (line_of end [])
  unfolding Kinds
  empty_line is_end = record { of_kinds = tt; ended = is_end }

  -- There is a kind of end.
  pub some_end : 0 < kinds_of_ends t.ends
  unfolding kinds_of_ends
  some_end = omega arith

  -- There is a column.
  pub some_column : 0 < column_count t
  some_column = column_is_below (empty_line some_end)

  -- Each column is that of some line.
  pub line_at : {c : ℕ} → c < column_count t → LineAt c
  line_at {c} c< = by (dec_lt c (kinds_of_ends t.ends))
    where
      by : Dec (c < kinds_of_ends t.ends) → LineAt c
      by (yes is_end) = record { line = line_of c []; fits = empty_line is_end; is_column = refl }
      by (no not_end) =
          let before = lamp_before (empty_line some_end) c< not_end in
          record { line = before.line; fits = before.fits; is_column = before.is_column }
