-- A step of the lamp line is determined, since a cell has at most one outcome. It leads from pairs of the tables to pairs of the
-- tables and, if its action moves on, leaves one lamp fewer. What is left of a line of the job is one, with the same end.
use mathlib.Core.Path.{◌≡◌, refl, sym, ap, ap₂, ◌∙◌}
use mathlib.Core.Bool.{Bool, true, false, cond}
use mathlib.Core.List.{List, [], ◌∷◌}
use Prim.Native.Nat.{ℕ, suc, ◌≤◌, ◌<◌}
use native.Mathlib.Omega.{arith}
use lib.ListN.{length}
use Rattle.plans.specs.Plan.{Action, Result}
use Rattle.plans.specs.Execution.{Label, did, action_of, result_of, Step, T*, here, join, step}
use Rattle.lamp_line.specs.declared.ProgramState.{ProgramState}
use Rattle.lamp_line.specs.declared.WorldState.{WorldState}
use Rattle.lamp_line.specs.Lists.{◌∈◌}
use Rattle.lamp_line.specs.Tables.{outcome, Tables, Situation, moves_on, line_of, kinds_of_ends, column, passed, Kinds, Fits, lamp_theory, plan_of}
use Rattle.lamp_line.specs.inner.WellFormed.{WellFormed}
use Rattle.lamp_line.specs.Check.{situation}
use Rattle.lamp_line.specs.Run.{pair}
use Rattle.lamp_line.proofs.Members.{none_in_empty, only_member}
use Rattle.plans.proofs.Executions.{StepsDetermined}
use Rattle.run_laws.specs.inner.Pairs.{InRange}

-- An element of a list of at most one element is that element.
only_one : {A : Type 0} (x : A) (l : List A) → length l ≤ 1 → x ∈ l → l ≡ x ∷ []
only_one x [] h m = absurd (none_in_empty x [] refl m)
only_one x (y ∷ []) h m = rw (only_member x y m)
only_one x (y ∷ z ∷ l) h m = absurd (omega arith)

same_label : (l m : Label) → action_of l ≡ action_of m → result_of l ≡ result_of m → l ≡ m
same_label (did a r) (did b u) e f = cc

module _ (t : Tables) (wf : WellFormed t) where
  -- A cell has at most one outcome.
  pub one_outcome :
      (a : Action) (w : WorldState) (c : ℕ) (w' : WorldState) (r : Result) →
      outcome w' r ∈ t.cell a w c → t.cell a w c ≡ outcome w' r ∷ []
  one_outcome a w c w' r = only_one (outcome w' r) (t.cell a w c) (wf.single a w c)

  -- At most one step leaves each place.
  pub steps_determined : StepsDetermined (lamp_theory t) (plan_of t)
  steps_determined = record { one_step = one_step }
    where
      one_step :
          {l m : Label} {q q₁ q₂ : ProgramState} {s s₁ s₂ : Situation} →
          Step (lamp_theory t) (plan_of t) q s l q₁ s₁ → Step (lamp_theory t) (plan_of t) q s m q₂ s₂ →
          (l ≡ m) × (q₁ ≡ q₂) × (s₁ ≡ s₂)
      one_step {l} {m} {q} {q₁} {q₂} {s} {s₁} {s₂} x y =
          let e = one_outcome (t.action q) s.world (column t s.rest) s₁.world (result_of l) x.does.0 in
          let f = one_outcome (t.action q) s.world (column t s.rest) s₂.world (result_of m) y.does.0 in
          let same_world : s₁.world ≡ s₂.world = cc in
          let same_result : result_of l ≡ result_of m = cc in
          let same_rest : s₁.rest ≡ s₂.rest = x.does.1 ∙ sym y.does.1 in
          (same_label l m (x.acts ∙ sym y.acts) same_result, cc, ap₂ situation same_world same_rest)

  -- A step leads to a pair of the tables.
  pub step_in_range :
      {l : Label} {q q' : ProgramState} {s s' : Situation} → Step (lamp_theory t) (plan_of t) q s l q' s' →
      InRange t (pair q' s'.world)
  step_in_range {l} {q} {q'} {s} {s'} x =
      record {
        state_range = (wf.formed.target_range q q' (result_of l) x.branch).1;
        world_range = wf.formed.next_range (t.action q) s.world s'.world (column t s.rest) (result_of l) x.does.0;
      }

  -- An execution from a pair of the tables leads to pairs of the tables.
  pub execution_in_range :
      {ls : List Label} {q q' : ProgramState} {s s' : Situation} → T* (lamp_theory t) (plan_of t) ls q s q' s' →
      InRange t (pair q s.world) → InRange t (pair q' s'.world)
  execution_in_range here h = h
  execution_in_range (join a b) h = execution_in_range b (execution_in_range a h)
  execution_in_range (step x) h = step_in_range x

  -- A step that moves on leaves one lamp fewer; at the line's end no step moves on.
  pub step_passes :
      {l : Label} {q q' : ProgramState} {s s' : Situation} → Step (lamp_theory t) (plan_of t) q s l q' s' →
      moves_on t (action_of l) ≡ true → s.rest.end < kinds_of_ends t.ends → length s.rest.lamps ≡ suc (length s'.rest.lamps)
  step_passes {l} {q} {q'} {s} {s'} x m h = go s.rest.lamps refl
    where
      moves : moves_on t (t.action q) ≡ true
      moves = rw x.acts at m

      passes : s'.rest ≡ passed s.rest
      passes = rw moves at x.does.1

      go : (lamps : List ℕ) → s.rest.lamps ≡ lamps → length lamps ≡ suc (length s'.rest.lamps)
      go [] e =
          let c : column t s.rest ≡ s.rest.end = rw e in
          let illegal = wf.formed.end_stays (t.action q) s.world (column t s.rest) moves (rw c h) in
          absurd (none_in_empty (outcome s'.world (result_of l)) (t.cell (t.action q) s.world (column t s.rest))
          illegal x.does.0)
      go (kind ∷ lamps) e = ap (λ (rest : List ℕ). suc (length rest)) (sym (rw e at (ap (λ line. line.lamps) passes)))

-- ---- what is left of the line

module _ (t : Tables) where
  -- An execution keeps the line's end.
  pub end_kept :
      {ls : List Label} {q q' : ProgramState} {s s' : Situation} → T* (lamp_theory t) (plan_of t) ls q s q' s' →
      s'.rest.end ≡ s.rest.end
  end_kept here = refl
  end_kept (join a b) = end_kept b ∙ end_kept a
  end_kept (step {q = q} {s = s} x) = ap (λ line. line.end) x.does.1 ∙ kept (moves_on t (t.action q))
    where
      kept : (b : Bool) → (cond b (passed s.rest) s.rest).end ≡ s.rest.end
      kept true = refl
      kept false = refl

  -- The lamps that it leaves are of the job's kinds, if all lamps were.
  kinds_left_lem :
      {ls : List Label} {q q' : ProgramState} {s s' : Situation} → T* (lamp_theory t) (plan_of t) ls q s q' s' →
      Kinds t.kinds s.rest.lamps → Kinds t.kinds s'.rest.lamps
  kinds_left_lem here k = k
  kinds_left_lem (join a b) k = kinds_left_lem b (kinds_left_lem a k)
  kinds_left_lem (step {q = q} {s = s} x) k =
      rw x.does.1 (left (moves_on t (t.action q)) s.rest.end s.rest.lamps k)
    where
      left :
          (b : Bool) (end : ℕ) (lamps : List ℕ) → Kinds t.kinds lamps →
          Kinds t.kinds (cond b (passed (line_of end lamps)) (line_of end lamps)).lamps
      left false end lamps k = k
      left true end [] k = unfold Kinds in tt
      left true end (kind ∷ lamps) k = unfold Kinds in k.2

  -- So an execution along a line of the job leaves a line of the job.
  pub rest_fits :
      {ls : List Label} {q q' : ProgramState} {s s' : Situation} → T* (lamp_theory t) (plan_of t) ls q s q' s' →
      Fits t s.rest → Fits t s'.rest
  rest_fits execution fits =
      record { of_kinds = kinds_left_lem execution fits.of_kinds; ended = rw (end_kept execution) fits.ended }
