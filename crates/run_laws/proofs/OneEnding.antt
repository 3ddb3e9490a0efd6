-- The execution of a line has only one ending and one count: it comes to rest at one place only, or goes on for ever after one last
-- arrival.
use mathlib.Core.Path.{◌≡◌, refl, sym, ap, subst₂, ◌∙◌}
use mathlib.Core.Logic.{◌⊎◌, inl, inr, ⊎_elim}
use mathlib.Core.Bool.{true}
use mathlib.Core.List.{List, [], ◌∷◌, ◌++◌}
use Prim.Native.Nat.{ℕ, ◌≤◌}
use native.Mathlib.Decide.{dec_le}
use native.Mathlib.Omega.{arith}
use lib.ListN.{length, length-append}
use Rattle.plans.specs.Plan.{ActionTheory, Plan}
use Rattle.plans.specs.Execution.{Label, action_of, join, step, Forever}
use Rattle.lamp_line.specs.declared.WorldState.{WorldState}
use Rattle.lamp_line.specs.declared.FailureKind.TheVariants.{NotLegal, NoBranch, Circles, GoalFalse}
use Rattle.lamp_line.specs.declared.Ending.{Ending}
use Rattle.lamp_line.specs.declared.Ending.TheVariants.{Goal, Failure}
use Rattle.lamp_line.specs.Tables.{Tables, Line, moves_on, lamp_theory, lamp_problem, plan_of}
use Rattle.lamp_line.specs.inner.WellFormed.{WellFormed}
use Rattle.lamp_line.specs.Endings.{Ends}
use Rattle.lamp_line.specs.Check.{situation, Arrival}
use Rattle.lamp_line.specs.Run.{own_steps}
use Rattle.lamp_line.specs.Tables.{Beginning}
use Rattle.lamp_line.specs.Executions.{RestsAfter, CirclesAfter, Comes}
use Rattle.plans.proofs.Executions.{LastStep, last_step, forever_before, shared_beginning}
use Rattle.plans.proofs.Executions.{same_length_same_execution, Halted, longest, halted_not_forever}
use Rattle.run_laws.proofs.Steps.{steps_determined, end_kept, step_passes}
use Rattle.run_laws.proofs.Actions.{ends_halted, one_ending}

module _ (t : Tables) (wf : WellFormed t) (start : WorldState) (line : Line) where
  -- The lamp line of the job, and its plan.
  abbrev D : ActionTheory
  D = lamp_theory t

  abbrev P : Plan
  P = plan_of t

  -- An execution with an ending and a count comes to rest, or it circles.
  rests_or_circles :
      (x : Ending) (k : ℕ) → Comes t x k start line →
      RestsAfter t x k start line ⊎ ((x ≡ Failure Circles) × CirclesAfter t k start line)
  unfolding Comes
  rests_or_circles Goal k c = inl c
  rests_or_circles (Failure NotLegal) k c = inl c
  rests_or_circles (Failure NoBranch) k c = inl c
  rests_or_circles (Failure Circles) k c = inr (refl, c)
  rests_or_circles (Failure GoalFalse) k c = inl c

  -- ---- coming to rest

  -- No step leaves the place where an execution has come to rest.
  halted : {x : Ending} {k : ℕ} (r : RestsAfter t x k start line) → Halted D P r.state r.at
  halted {x} r = ends_halted t wf x r.state r.at r.ends

  -- Of two executions that come to rest, neither is longer than the other; so they are equal.
  not_longer :
      {x x' : Ending} {k k' : ℕ} (r : RestsAfter t x k start line) (r' : RestsAfter t x' k' start line) →
      length r'.labels ≤ length r.labels
  not_longer r r' = longest D P (steps_determined t wf) r.execution (halted r) r'.execution

  rests_once :
      {x x' : Ending} {k k' : ℕ} → RestsAfter t x k start line → RestsAfter t x' k' start line → (x ≡ x') × (k ≡ k')
  rests_once {x} {x'} r r' =
      let same_length : length r.labels ≡ length r'.labels = omega (arith, not_longer r r', not_longer r' r) in
      let same = same_length_same_execution D P (steps_determined t wf) r.execution r'.execution same_length in
      let ends = subst₂ (λ q s. Ends (lamp_problem t) P x q s) same.1 same.2 r.ends in
      let same_ending = one_ending t wf x x' r'.state r'.at ends r'.ends in
      (same_ending, omega (arith, r.count, r'.count, ap own_steps same_ending))

  -- ---- going on for ever

  -- An execution that circles after its last arrival goes on for ever from its beginning.
  pub circles_from_start : {k : ℕ} → CirclesAfter t k start line → Forever D P t.first (situation start line)
  circles_from_start c = forever_before D P c.execution c.forever

  -- An execution that comes to rest does not go on for ever.
  rests_not_forever : {x : Ending} {k : ℕ} → RestsAfter t x k start line → ¬ (Forever D P t.first (situation start line))
  rests_not_forever r = halted_not_forever D P (steps_determined t wf) r.execution (halted r)

  module _ (of : Beginning t start line) {k k' : ℕ} (c : CirclesAfter t k start line) (c' : CirclesAfter t k' start line) where
    -- After the last arrival of c, no step of c' moves on.
    no_later_arrival :
        (ms : List Label) (l : Label) → LastStep D P ms l t.first (situation start line) c'.state c'.at →
        moves_on t (action_of l) ≡ true → length c.labels ≤ length ms → ⊥
    no_later_arrival ms l b moves h =
        let (ns, e, a) = shared_beginning D P (steps_determined t wf) c.execution b.before h in
        let before : b.at.rest ≡ c.at.rest = c.passes_none ns b.state b.at a in
        let after : c'.at.rest ≡ c.at.rest = c.passes_none (ns ++ (l ∷ [])) c'.state c'.at (join a (step b.last)) in
        let same_lamps = ap (λ (rest : Line). length rest.lamps) (before ∙ sym after) in
        let same_end = end_kept t b.before in
        let h = of.fits.ended in
        omega (arith, step_passes t wf b.last moves (rw same_end h))

    -- The last arrival of c' is not later than that of c.
    not_later : length c'.labels ≤ length c.labels
    not_later = go c'.arrives
      where
        go : Arrival t c'.labels → length c'.labels ≤ length c.labels
        go (inl e) = rw e (omega arith)
        go (inr (ms, l, e, moves)) = at (dec_le (length c.labels) (length ms))
          where
            at : Dec (length c.labels ≤ length ms) → length c'.labels ≤ length c.labels
            at (yes h) = absurd (no_later_arrival ms l (last_step D P ms (rw e at c'.execution)) moves h)
            at (no h) = rw e (omega (arith, length-append ms (l ∷ [])))

  -- The execution of a line has only one ending and one count.
  pub comes_once :
      Beginning t start line → (x x' : Ending) (k k' : ℕ) → Comes t x k start line → Comes t x' k' start line → (x ≡ x') × (k ≡ k')
  comes_once of x x' k k' c c' = go (rests_or_circles x k c) (rests_or_circles x' k' c')
    where
      go :
          RestsAfter t x k start line ⊎ ((x ≡ Failure Circles) × CirclesAfter t k start line) →
          RestsAfter t x' k' start line ⊎ ((x' ≡ Failure Circles) × CirclesAfter t k' start line) → (x ≡ x') × (k ≡ k')
      go (inl r) (inl r') = rests_once r r'
      go (inl r) (inr (e', d')) = absurd (rests_not_forever r (circles_from_start d'))
      go (inr (e, d)) (inl r') = absurd (rests_not_forever r' (circles_from_start d))
      go (inr (e, d)) (inr (e', d')) =
          (e ∙ sym e', omega (arith, not_later of d d', not_later of d' d, d.count, d'.count))

  -- An execution that goes on for ever has no ending other than failure 3.
  pub forever_circles :
      Forever D P t.first (situation start line) → (x : Ending) (k : ℕ) → Comes t x k start line → x ≡ Failure Circles
  forever_circles f x k c = ⊎_elim (λ r. absurd (rests_not_forever r f)) (λ (e, d). e) (rests_or_circles x k c)
