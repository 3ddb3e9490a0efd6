-- The reader's answer, test by test: if no earlier refusal applies, a refusal that applies gives its number, and a refusal that does not
-- leaves the answer to the later refusals. Each law takes the truth values that the code has computed.
use Rattle.lamp_line.proofs.Answering.{by_refusal, by_no_refusal}
use Rattle.job_layout.specs.declared.Job.{Job}
use Rattle.std.proofs.Common.{◌≡◌, sym, ◌∙◌, Bool, true, false, cond, List, ℕ, Ok, Err}
use Rattle.lamp_line.specs.declared.Refusal.{Refusal}
use Rattle.lamp_line.specs.declared.Refusal.TheVariants as refused
use Rattle.lamp_line.specs.Refusals.{Answer}
use Rattle.job_layout.specs.Layout.{head}
use Rattle.job_layout.specs.FileRefusals.{size_wrong, number_wrong, place_wrong, length_wrong, mark_wrong, cell_wrong, end_wrong, start_wrong, goal_wrong, action_wrong, target_wrong}
use Rattle.job_file.specs.Reading.{reading_of}
use Rattle.job_file.specs.inner.ReaderSteps.{reading_from}

abbrev refused_if : Bool → Refusal → Answer Job → Answer Job
refused_if applies because otherwise = cond applies (Err because) otherwise

-- ---- refusals 1 to 4

-- Refusal 1 applies.
pub size_refused : (s : List ℕ) → size_wrong s ≡ true → Err refused.FileSize ≡ reading_of s
unfolding reading_of
size_refused s e = sym (by_refusal _ _ _ _ ∙ rw e)

module _ (s : List ℕ) {j : Job} (is_head : j ≡ head s) (size : size_wrong s ≡ false) where
  by_head :
      reading_of s
      ≡ refused_if (number_wrong s j) refused.HeadNumber (refused_if (place_wrong s j) refused.PartPlace (refused_if (length_wrong j) refused.PartLength (reading_from 4 s j)))
  unfolding reading_of reading_from
  by_head = rw is_head (by_refusal _ _ _ _ ∙ rw (size, by_refusal, by_refusal, by_refusal))

  module _ {n : Bool} (numbers : n ≡ number_wrong s j) where
    -- Refusal 2 applies.
    pub number_refused : n ≡ true → Err refused.HeadNumber ≡ reading_of s
    number_refused e = sym (by_head ∙ rw (sym numbers, e))

    module _ {p : Bool} (numbers_right : n ≡ false) (places : p ≡ place_wrong s j) where
      -- Refusal 3 applies.
      pub place_refused : p ≡ true → Err refused.PartPlace ≡ reading_of s
      place_refused e = sym (by_head ∙ rw (sym numbers, numbers_right, sym places, e))

      module _ {l : Bool} (places_right : p ≡ false) (lengths : l ≡ length_wrong j) where
        -- Refusal 4 applies.
        pub length_refused : l ≡ true → Err refused.PartLength ≡ reading_of s
        length_refused e = sym (by_head ∙ rw (sym numbers, numbers_right, sym places, places_right, sym lengths, e))

        -- None of refusals 1 to 4 applies.
        pub head_read : {x : Answer Job} → l ≡ false → x ≡ reading_from 4 s j → x ≡ reading_of s
        head_read e rest = rest ∙ sym (by_head ∙ rw (sym numbers, numbers_right, sym places, places_right, sym lengths, e))

-- ---- refusals 5 to 11

module _ (s : List ℕ) (j : Job) where
  by_cells :
      reading_from 4 s j
      ≡ refused_if (mark_wrong s j) refused.Mark (refused_if (cell_wrong s j) refused.Cell (refused_if (end_wrong s j) refused.LegalAtEnd (reading_from 7 s j)))
  unfolding reading_from
  by_cells = by_refusal _ _ _ _ ∙ rw (by_refusal, by_refusal)

  module _ {m : Bool} (marks : m ≡ mark_wrong s j) where
    -- Refusal 5 applies.
    pub mark_refused : m ≡ true → Err refused.Mark ≡ reading_from 4 s j
    mark_refused e = sym (by_cells ∙ rw (sym marks, e))

    module _ {c : Bool} (marks_right : m ≡ false) (cells : c ≡ cell_wrong s j) where
      -- Refusal 6 applies.
      pub cell_refused : c ≡ true → Err refused.Cell ≡ reading_from 4 s j
      cell_refused e = sym (by_cells ∙ rw (sym marks, marks_right, sym cells, e))

      module _ {n : Bool} (cells_right : c ≡ false) (ends : n ≡ end_wrong s j) where
        -- Refusal 7 applies.
        pub end_refused : n ≡ true → Err refused.LegalAtEnd ≡ reading_from 4 s j
        end_refused e = sym (by_cells ∙ rw (sym marks, marks_right, sym cells, cells_right, sym ends, e))

        -- None of refusals 5 to 7 applies.
        pub cells_read : {x : Answer Job} → n ≡ false → x ≡ reading_from 7 s j → x ≡ reading_from 4 s j
        cells_read e rest = rest ∙ sym (by_cells ∙ rw (sym marks, marks_right, sym cells, cells_right, sym ends, e))

  by_starts_and_goal :
      reading_from 7 s j ≡ refused_if (start_wrong s j) refused.StartMark (refused_if (goal_wrong s j) refused.GoalCell (reading_from 9 s j))
  unfolding reading_from
  by_starts_and_goal = by_refusal _ _ _ _ ∙ rw by_refusal

  module _ {w : Bool} (starts : w ≡ start_wrong s j) where
    -- Refusal 8 applies.
    pub start_refused : w ≡ true → Err refused.StartMark ≡ reading_from 7 s j
    start_refused e = sym (by_starts_and_goal ∙ rw (sym starts, e))

    module _ {g : Bool} (starts_right : w ≡ false) (goals : g ≡ goal_wrong s j) where
      -- Refusal 9 applies.
      pub goal_refused : g ≡ true → Err refused.GoalCell ≡ reading_from 7 s j
      goal_refused e = sym (by_starts_and_goal ∙ rw (sym starts, starts_right, sym goals, e))

      -- Neither of refusals 8 and 9 applies.
      pub goal_read : {x : Answer Job} → g ≡ false → x ≡ reading_from 9 s j → x ≡ reading_from 7 s j
      goal_read e rest = rest ∙ sym (by_starts_and_goal ∙ rw (sym starts, starts_right, sym goals, e))

  by_plan : reading_from 9 s j ≡ refused_if (action_wrong s j) refused.PlanAction (refused_if (target_wrong s j) refused.PlanTarget (Ok j))
  unfolding reading_from
  by_plan = by_refusal _ _ _ _ ∙ rw (by_refusal, by_no_refusal)

  module _ {a : Bool} (actions : a ≡ action_wrong s j) where
    -- Refusal 10 applies.
    pub action_refused : a ≡ true → Err refused.PlanAction ≡ reading_from 9 s j
    action_refused e = sym (by_plan ∙ rw (sym actions, e))

    module _ {t : Bool} (actions_right : a ≡ false) (targets : t ≡ target_wrong s j) where
      -- Refusal 11 applies.
      pub target_refused : t ≡ true → Err refused.PlanTarget ≡ reading_from 9 s j
      target_refused e = sym (by_plan ∙ rw (sym actions, actions_right, sym targets, e))

      -- Neither of refusals 10 and 11 applies: the reader answers the job.
      pub plan_read : t ≡ false → Ok j ≡ reading_from 9 s j
      plan_read e = sym (by_plan ∙ rw (sym actions, actions_right, sym targets, e))
