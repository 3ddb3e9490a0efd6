-- What the one-lamp walk answers (01, "One run" and "Who can cause which number").
use Rattle.std.specs.Prelude.{List, [], ◌∷◌, ◌++◌, ℕ, leb, ltb}
use Rattle.lamp_line.specs.declared.Pair.{Pair}
use Rattle.lamp_line.specs.declared.Refusal.TheVariants as refused
use Rattle.lamp_line.specs.Tables.{column_count}
use Rattle.lamp_line.specs.Refusals.{Rule, ◌when◌, Answer, answer_by}
use Rattle.lamp_line.specs.Run.{Walk, ended, arrived, lamp_walk}
use Rattle.job_layout.specs.JobTables.{tables_of}
use Rattle.job_file.specs.Reading.{file_refusals}
use Rattle.lamp_walk.specs.declared.Walked.{Walked}
use Rattle.lamp_walk.specs.declared.Walked.TheVariants as walked

-- After the refusals of the file: 14, a world state not below W (it need not be marked, since a walk may begin at any lamp); 15, a
-- column that the tables do not have; 16, a program state above S.
abbrev pub walk_refusals : List ℕ → Pair → ℕ → List Rule
walk_refusals s p column =
    file_refusals s ++ (refused.Start when leb (tables_of s).worlds p.world.0)
    ∷ (refused.Line when leb (column_count (tables_of s)) column) ∷ (refused.State when ltb (tables_of s).states p.state.0) ∷ []

-- A walk as the operation answers it.
abbrev pub walk_answer_of : Walk → Walked
walk_answer_of (ended x k) = walked.Ended x k
walk_answer_of (arrived p k) = walked.Arrived p k

-- From a program state and a world state at a column: the first refusal that applies, or else the walk.
unfoldable pub walk_answer : List ℕ → Pair → ℕ → Answer Walked
walk_answer s p column = answer_by (walk_refusals s p column) (walk_answer_of (lamp_walk (tables_of s) p column))
