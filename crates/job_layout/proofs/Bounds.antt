-- Bounds for the places of a job's entries: each fits its type, and it lies in the file if the file is laid out as it must be.
use mathlib.Core.Path.{◌≡◌}
use mathlib.Core.List.{List}
use Prim.Native.Nat.{ℕ, ◌+◌, ◌*◌, ◌^◌, ◌≤◌, ◌<◌}
use native.Mathlib.Nat.{lt_trans}
use native.Mathlib.Omega.{arith}
use lib.Arith.{digits_lt}
use lib.ListN.{length}
use mir.Syntax.{w64}
use mir.Val.{Fits}
use Rattle.plans.specs.Plan.{Action, Result}
use Rattle.lamp_line.specs.declared.ProgramState.{ProgramState}
use Rattle.lamp_line.specs.declared.WorldState.{WorldState}
use Rattle.job_layout.specs.Layout.{job_columns, mark_place, next_place, start_place, goal_place, action_place}
use Rattle.job_layout.specs.declared.Job.{Job}
use Rattle.job_layout.specs.inner.Laid.{Laid}

-- What is below the length of a slice fits 64 bits.
pub below_fits : (n m : ℕ) → n < m → m < 2 ^ 64 → Fits w64 n
below_fits n m n< m< = record { fits = lt_trans n< m< }

-- ---- the place that the code has computed lies in the file

module _ {s : List ℕ} {j : Job} (laid : Laid s j) {at : ℕ} where
  -- An action's mark.
  pub mark_in : {a : Action} → at ≡ mark_place j a → a < j.actions → at < length s
  mark_in e a< = omega (arith, laid.marks_in)

  -- A cell: its next world state, and after it its result.
  module _
      (a : Action) (w : WorldState) (c : ℕ) (e : at ≡ next_place j a w c) (a< : a < j.actions) (w< : w.0 < j.worlds)
      (c< : c < job_columns j) where
    pub result_in : at + 1 < length s
    result_in =
        let row = digits_lt {q = a} {m = j.actions} {r = w.0} {c = j.worlds} a< w< in
        let cell = digits_lt {q = a * j.worlds + w.0} {m = j.actions * j.worlds} {r = c} {c = job_columns j} row c< in
        omega (arith, laid.cells_in)

    pub next_in : at < length s
    next_in = omega (arith, result_in)

  -- The mark of a world state among the starts.
  pub start_in : (w : WorldState) → at ≡ start_place j w → w.0 < j.worlds → at < length s
  start_in w e w< = omega (arith, laid.starts_in)

  -- A cell of the goal.
  pub goal_in : (w : WorldState) (c : ℕ) → at ≡ goal_place j w c → w.0 < j.worlds → c < job_columns j → at < length s
  goal_in w c e w< c< =
      omega (arith, laid.goal_in, digits_lt {q = w.0} {m = j.worlds} {r = c} {c = job_columns j} w< c<)

  -- The row of a program state: its action, and after it its targets.
  module _ (q : ProgramState) (e : at ≡ action_place j q) (q< : q.0 < j.states) where
    pub row_in : at + 1 + j.results ≤ length s
    row_in =
        let last = digits_lt {q = q.0} {m = j.states} {r = j.results} {c = 1 + j.results} q< (omega arith) in
        omega (arith, laid.plan_in)

    -- The action.
    pub action_in : at < length s
    action_in = omega (arith, row_in)

    -- The first target, where there is one.
    pub targets_in : {r : Result} → r < j.results → at + 1 < length s
    targets_in r< = omega (arith, row_in)

    -- The target of the result r.
    pub target_in : {r : Result} → r < j.results → at + 1 + r < length s
    target_in r< = omega (arith, row_in)
