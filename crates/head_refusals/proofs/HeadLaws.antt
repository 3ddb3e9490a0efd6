-- A file to which none of refusals 2 to 4 applies is laid out as it must be: the law `laid`, and what it is made of.
use mathlib.Core.Path.{◌≡◌, refl}
use mathlib.Core.Bool.{Bool, true, false, ◌||◌}
use mathlib.Core.List.{List}
use Prim.Native.Nat.{ℕ, ◌+◌, ◌≤◌}
use borrow.Author.Tests.{ltb-false, eqb-true, not-false}
use lib.Dec.{ltb, eqb}
use lib.ListN.{length}
use Rattle.lamp_line.specs.Tables.{columns}
use Rattle.job_layout.specs.declared.Job.{Job}
use Rattle.job_layout.specs.declared.Part.{Part}
use Rattle.job_layout.specs.declared.Sizes.{Sizes}
use Rattle.job_layout.specs.inner.Laid.{Laid}
use Rattle.job_layout.specs.Layout.{sizes_of, marks_length, cells_length, starts_length, goal_length, plan_length}
use Rattle.job_layout.specs.FileRefusals.{outside, ranges_wrong, number_wrong, end_of, misplaced, place_wrong, differs, length_wrong}

-- If a disjunction is false, both its sides are.
pub neither : (a b : Bool) → (a || b) ≡ false → (a ≡ false) × (b ≡ false)
neither true b e = (e, let z : true ≡ false = e in cc)
neither false b e = (refl, e)

-- A number that is not outside a range lies in it.
pub inside : (low high n : ℕ) → outside low high n ≡ false → (low ≤ n) × (n ≤ high)
inside low high n e =
    let both = neither (ltb n low) (ltb high n) e in
    (ltb-false n low both.0, ltb-false high n both.1)

-- A part that is not misplaced ends within the file.
placed : (size before : ℕ) (p : Part) → misplaced size before p ≡ false → end_of p ≤ size
placed size before p e = ltb-false size (end_of p) (neither (ltb p.offset before) (ltb size (end_of p)) e).1

-- Numbers that do not differ are equal.
pub same : (m n : ℕ) → differs m n ≡ false → m ≡ n
same m n e = eqb-true m n (not-false (eqb m n) e)

-- Sizes that are not out of their ranges.
pub record SizesInside (n : Sizes) : Type 0 where
  pub actions : (1 ≤ n.actions) × (n.actions ≤ 16)
  pub worlds : (1 ≤ n.worlds) × (n.worlds ≤ 64)
  pub kinds : 1 ≤ n.kinds
  pub results : (1 ≤ n.results) × (n.results ≤ 8)
  pub some_end : 1 ≤ n.end_kinds
  pub columns_few : n.end_kinds + n.kinds ≤ 16

pub sizes_inside : (n : Sizes) → ranges_wrong n ≡ false → SizesInside n
unfolding ranges_wrong
sizes_inside n e =
    let to_columns = neither _ _ e in
    let to_ends = neither _ _ to_columns.0 in
    let to_results = neither _ _ to_ends.0 in
    let to_kinds = neither _ _ to_results.0 in
    let to_worlds = neither _ _ to_kinds.0 in
    record {
      actions = inside 1 16 n.actions to_worlds.0;
      worlds = inside 1 64 n.worlds to_worlds.1;
      kinds = (inside 1 15 n.kinds to_kinds.1).0;
      results = inside 1 8 n.results to_results.1;
      some_end = ltb-false _ _ to_ends.1;
      columns_few = ltb-false _ _ to_columns.1;
    }

module _ (s : List ℕ) (j : Job) where
  record NumbersInside : Type 0 where
    pub sizes : SizesInside (sizes_of j)
    pub states : j.states ≤ 64
    pub first : j.first.0 ≤ j.states

  numbers_inside : number_wrong s j ≡ false → NumbersInside
  unfolding number_wrong
  numbers_inside e =
      let to_first = neither _ _ (neither _ _ e).0 in
      let to_states = neither _ _ to_first.0 in
      record {
        sizes = sizes_inside (sizes_of j) to_states.0;
        states = (inside 0 64 j.states to_states.1).1;
        first = (inside 0 j.states j.first.0 to_first.1).1;
      }

  record PartsInside : Type 0 where
    pub marks : end_of j.marks ≤ length s
    pub cells : end_of j.cells ≤ length s
    pub starts : end_of j.starts ≤ length s
    pub goal : end_of j.goal ≤ length s
    pub plan : end_of j.plan ≤ length s

  parts_inside : place_wrong s j ≡ false → PartsInside
  unfolding place_wrong
  parts_inside e =
      let to_plan = neither _ _ e in
      let to_goal = neither _ _ to_plan.0 in
      let to_starts = neither _ _ to_goal.0 in
      let to_cells = neither _ _ to_starts.0 in
      record {
        marks = placed (length s) 28 j.marks to_cells.0;
        cells = placed (length s) (end_of j.marks) j.cells to_cells.1;
        starts = placed (length s) (end_of j.cells) j.starts to_starts.1;
        goal = placed (length s) (end_of j.starts) j.goal to_goal.1;
        plan = placed (length s) (end_of j.goal) j.plan to_plan.1;
      }

  record LengthsRight : Type 0 where
    pub marks : j.marks.length ≡ marks_length j
    pub cells : j.cells.length ≡ cells_length j
    pub starts : j.starts.length ≡ starts_length j
    pub goal : j.goal.length ≡ goal_length j
    pub plan : j.plan.length ≡ plan_length j

  lengths_right : length_wrong j ≡ false → LengthsRight
  unfolding length_wrong
  lengths_right e =
      let to_plan = neither _ _ e in
      let to_goal = neither _ _ to_plan.0 in
      let to_starts = neither _ _ to_goal.0 in
      let to_cells = neither _ _ to_starts.0 in
      record {
        marks = same j.marks.length (marks_length j) to_cells.0;
        cells = same j.cells.length (cells_length j) to_cells.1;
        starts = same j.starts.length (starts_length j) to_starts.1;
        goal = same j.goal.length (goal_length j) to_goal.1;
        plan = same j.plan.length (plan_length j) to_plan.1;
      }

  -- A file to which none of refusals 2 to 4 applies is laid out as it must be.
  pub laid : number_wrong s j ≡ false → place_wrong s j ≡ false → length_wrong j ≡ false → Laid s j
  unfolding columns
  laid numbers places lengths =
      let n = numbers_inside numbers in
      let p = parts_inside places in
      let l = lengths_right lengths in
      record {
        actions_range = n.sizes.actions;
        worlds_range = n.sizes.worlds;
        kinds_range = n.sizes.kinds;
        results_range = n.sizes.results;
        states_range = n.states;
        first_range = n.first;
        columns_range = n.sizes.columns_few;
        marks_in = rw l.marks at p.marks;
        cells_in = rw l.cells at p.cells;
        starts_in = rw l.starts at p.starts;
        goal_in = rw l.goal at p.goal;
        plan_in = rw l.plan at p.plan;
      }
