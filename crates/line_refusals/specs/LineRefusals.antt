-- Refusals 14 and 15 (01, "Who can cause which number"; 02, (c), for the end kind): the start and the line that an operation is handed.
use Rattle.std.specs.Prelude.{Bool, ◌||◌, not, List, [], ◌∷◌, ◌++◌, ℕ, leb, ltb, length}
use Rattle.lamp_line.specs.declared.WorldState.{WorldState}
use Rattle.lamp_line.specs.declared.Refusal.TheVariants as refused
use Rattle.lamp_line.specs.Tables.{Tables, Line, kinds_of_ends}
use Rattle.lamp_line.specs.Refusals.{Rule, ◌when◌, some_of}
use Rattle.job_layout.specs.FileRefusals.{outside}
use Rattle.job_layout.specs.JobTables.{tables_of}
use Rattle.job_file.specs.Reading.{file_refusals}

-- 14: the start is no world state of the tables, or has no mark.
abbrev pub start_unmarked : Tables → WorldState → Bool
start_unmarked t start = leb t.worlds start.0 || not (t.start start)

-- 15: the line has more than 65,535 lamps, or a lamp or an end of a kind that the tables do not have.
abbrev pub line_wrong : ℕ → ℕ → Line → Bool
line_wrong ends kinds line =
    ltb 65535 (length line.lamps) || some_of line.lamps (outside 1 kinds) || leb (kinds_of_ends ends) line.end

-- The refusals of an operation that is handed a file, a start and a line: those of the file, then these two.
abbrev pub line_refusals : List ℕ → WorldState → Line → List Rule
line_refusals s start line =
    file_refusals s ++ (refused.Start when start_unmarked (tables_of s) start)
    ∷ (refused.Line when line_wrong (tables_of s).ends (tables_of s).kinds line) ∷ []
