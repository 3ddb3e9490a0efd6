-- What the reader answers (01, "Job file" and "Who can cause which number").
use Rattle.std.specs.Prelude.{◌≡◌, List, [], ◌∷◌, ℕ, Ok}
use Rattle.lamp_line.specs.declared.Refusal.TheVariants as refused
use Rattle.lamp_line.specs.Refusals.{Rule, ◌when◌, Answer, answer_by}
use Rattle.job_layout.specs.declared.Job.{Job}
use Rattle.job_layout.specs.Layout.{head}
use Rattle.job_layout.specs.FileRefusals.{size_wrong, number_wrong, place_wrong, length_wrong, mark_wrong, cell_wrong, end_wrong, start_wrong, goal_wrong, action_wrong, target_wrong}

-- Refusals 1 to 11, for a file s with the head j.
abbrev pub refusals : List ℕ → Job → List Rule
refusals s j =
    (refused.FileSize when size_wrong s) ∷
    (refused.HeadNumber when number_wrong s j) ∷
    (refused.PartPlace when place_wrong s j) ∷
    (refused.PartLength when length_wrong j) ∷
    (refused.Mark when mark_wrong s j) ∷
    (refused.Cell when cell_wrong s j) ∷
    (refused.LegalAtEnd when end_wrong s j) ∷
    (refused.StartMark when start_wrong s j) ∷
    (refused.GoalCell when goal_wrong s j) ∷
    (refused.PlanAction when action_wrong s j) ∷
    (refused.PlanTarget when target_wrong s j) ∷
    []

-- The refusals of a file. Every operation that takes one tests them before its own.
abbrev pub file_refusals : List ℕ → List Rule
file_refusals s = refusals s (head s)

-- The reader's answer: the job in the file's head, or the lowest refusal that applies.
unfoldable pub reading_of : List ℕ → Answer Job
reading_of s = answer_by (file_refusals s) (head s)

-- The file is not refused, and the reader answers this job.
abbrev pub Opened : List ℕ → Job → Type 0
Opened s j = reading_of s ≡ Ok j
