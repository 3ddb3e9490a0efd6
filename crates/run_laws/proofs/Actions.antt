-- One action of the run is one step of the execution: the result of the action says how the execution goes on from there, or how it
-- ends. An execution ends in only one way, and no step leaves the place where it ends.
use mathlib.Core.Path.{◌≡◌, refl, sym, ap, subst}
use mathlib.Core.Logic.{◌≢◌, inl}
use mathlib.Core.Bool.{Bool, true, false, cond}
use Rattle.std.specs.Prelude.{Option, None, Some}
use mathlib.Core.List.{List, [], ◌∷◌}
use Prim.Native.Nat.{ℕ}
use native.Mathlib.Omega.{arith}
use borrow.Author.Tests.{eqb-true, eqb-false, eq-eqb, ne_eqb}
use lib.ListN.{length}
use Rattle.plans.specs.Plan.{Result}
use Rattle.plans.specs.Execution.{Label, did, action_of, result_of, Step, T*}
use Rattle.lamp_line.specs.declared.ProgramState.{ProgramState}
use Rattle.lamp_line.specs.declared.WorldState.{WorldState}
use Rattle.lamp_line.specs.declared.FailureKind.TheVariants.{NotLegal, NoBranch, Circles, GoalFalse}
use Rattle.lamp_line.specs.declared.Ending.{Ending}
use Rattle.lamp_line.specs.declared.Ending.TheVariants.{Goal, Failure}
use Rattle.lamp_line.specs.Lists.{◌∈◌}
use Rattle.lamp_line.specs.Tables.{Outcome, outcome, Tables, Line, Situation, program_state, final, moves_on, column, line_of}
use Rattle.lamp_line.specs.inner.WellFormed.{WellFormed}
use Rattle.lamp_line.specs.Tables.{passed, rest_after, lamp_theory, lamp_problem, plan_of}
use Rattle.lamp_line.specs.Endings.{Ends}
use Rattle.lamp_line.specs.Check.{situation}
use Rattle.lamp_line.specs.declared.Pair.{Pair}
use Rattle.lamp_line.specs.Run.{pair, Move, ends, stays, passes, is_final, judged, branched, carried_out, act}
use Rattle.plans.proofs.Executions.{Halted}
use Rattle.run_laws.specs.inner.Pairs.{InRange}
use Rattle.lamp_line.proofs.Members.{none_in_empty}
use Rattle.run_laws.proofs.Steps.{one_outcome, step_in_range}

-- The first of a list is in it.
first_in : {A : Type 0} (x : A) (l more : List A) → l ≡ x ∷ more → x ∈ l
unfolding ◌∈◌
first_in x [] more h = absurd (omega (arith, ap length h))
first_in x (y ∷ l) more h = inl (cc)

false_unless_true : (b : Bool) → ¬ (b ≡ true) → b ≡ false
false_unless_true true h = absurd (h refl)
false_unless_true false h = refl

module _ (t : Tables) where
  -- A step from a pair on a line to a pair on a line, and an execution with these labels.
  abbrev pub StepAt : Pair → Line → Label → Pair → Line → Type 0
  StepAt p line l p' line' =
      Step (lamp_theory t) (plan_of t) p.state (situation p.world line) l p'.state (situation p'.world line')

  abbrev pub ExecutionAt : Pair → Line → List Label → Pair → Line → Type 0
  ExecutionAt p line ls p' line' =
      T* (lamp_theory t) (plan_of t) ls p.state (situation p.world line) p'.state (situation p'.world line')

  -- The execution is at rest with this ending, at a pair on a line.
  abbrev pub EndsAt : Ending → Pair → Line → Type 0
  EndsAt x p line = Ends (lamp_problem t) (plan_of t) x p.state (situation p.world line)

  -- What the result of an action says about the execution.
  unfoldable pub MoveMeans : Pair → Line → Move → Type 0
  MoveMeans p line (ends x) = EndsAt x p line
  MoveMeans p line (stays p') = (l : Label) × StepAt p line l p' line
  MoveMeans p line (passes p') = (l : Label) × StepAt p line l p' (passed line) × (moves_on t (action_of l) ≡ true)

  -- The outcomes of the program state's action, in a world state, at the present column of a line.
  abbrev outcomes : ProgramState → WorldState → Line → List Outcome
  outcomes q w line = t.cell (t.action q) w (column t line)

  -- In the final state the action ends the run.
  pub act_final : (p : Pair) (c : ℕ) → is_final t p.state ≡ true → act t p c ≡ ends (judged t p.world c)
  unfolding act
  act_final p c e = rw e

  -- ---- the result of the action says how the execution goes on or ends

  module _ (p : Pair) (line : Line) where
    means_judged :
        p.state ≡ final t → (b : Bool) → t.goal p.world (column t line) ≡ b →
        MoveMeans p line (ends (cond b Goal (Failure GoalFalse)))
    unfolding MoveMeans Ends
    means_judged e true g = (e, g)
    means_judged e false g = (e, λ h. let z : ◌≡◌ {A = ℕ} 0 1 = cc in omega arith)

    module _ (live : p.state ≢ final t) where
      step_made :
          {w : WorldState} {r : Result} {more : List Outcome} {q : ProgramState} {line' : Line} →
          outcomes p.state p.world line ≡ outcome w r ∷ more → t.target p.state r ≡ Some q →
          line' ≡ rest_after t (t.action p.state) line → StepAt p line (did (t.action p.state) r) (pair q w) line'
      step_made {w} {r} {more} e f rest =
          record {
            live = live;
            acts = refl;
            does = (first_in (outcome w r) (outcomes p.state p.world line) more e, rest);
            branch = f;
          }

      means_branched :
          (w : WorldState) (r : Result) (more : List Outcome) → outcomes p.state p.world line ≡ outcome w r ∷ more →
          (target : Option ProgramState) → t.target p.state r ≡ target →
          (b : Bool) → moves_on t (t.action p.state) ≡ b → MoveMeans p line (branched t (t.action p.state) w target)
      unfolding MoveMeans Ends
      means_branched w r more e None f b m =
          let rest = rest_after t (t.action p.state) line in
          (live, (r, situation w rest, (first_in (outcome w r) (outcomes p.state p.world line) more e, refl), f))
      means_branched w r more e (Some q) f true m = rw m (did (t.action p.state) r, step_made e f (rw m), m)
      means_branched w r more e (Some q) f false m = rw m (did (t.action p.state) r, step_made e f (rw m))

      means_tried :
          (found : List Outcome) → outcomes p.state p.world line ≡ found → MoveMeans p line (carried_out t p.state found)
      unfolding MoveMeans Ends
      means_tried [] e =
          (live, λ (r, s', does). none_in_empty (outcome s'.world r) (outcomes p.state p.world line) e does.0)
      means_tried (outcome w r ∷ more) e =
          means_branched w r more e (t.target p.state r) refl (moves_on t (t.action p.state)) refl

    -- What the result of the action says is true of the execution.
    pub act_means : MoveMeans p line (act t p (column t line))
    unfolding act
    act_means = go (is_final t p.state) refl
      where
        go :
            (b : Bool) → is_final t p.state ≡ b →
            MoveMeans p line
            (cond b (ends (judged t p.world (column t line))) (carried_out t p.state (outcomes p.state p.world line)))
        go true e =
            means_judged (ap program_state (eqb-true p.state.0 t.states e)) (t.goal p.world (column t line)) refl
        go false e =
            let live : p.state ≢ final t = λ h. eqb-false p.state.0 t.states e (ap (λ q. q.0) h) in
            means_tried live (outcomes p.state p.world line) refl

  -- ---- where the execution ends

  -- The test for the final state answers true for it, and false for any other.
  pub is_final_lem : (q : ProgramState) → q ≡ final t → is_final t q ≡ true
  is_final_lem q e = eq-eqb q.0 t.states (ap (λ q. q.0) e)

  not_final : (q : ProgramState) → q ≢ final t → is_final t q ≡ false
  not_final q live = ne_eqb q.0 t.states (λ e. live (ap program_state e))

  module _ (wf : WellFormed t) where
    -- The action has at most one outcome.
    only_outcome :
        (q : ProgramState) (s : Situation) (w : WorldState) (r : Result) → outcome w r ∈ outcomes q s.world s.rest →
        outcomes q s.world s.rest ≡ outcome w r ∷ []
    only_outcome q s = one_outcome t wf (t.action q) s.world (column t s.rest)

    -- No step leaves the place where the execution ends.
    pub ends_halted :
        (x : Ending) (q : ProgramState) (s : Situation) → Ends (lamp_problem t) (plan_of t) x q s →
        Halted (lamp_theory t) (plan_of t) q s
    unfolding Ends
    ends_halted Goal q s (e, goal) l q' s' x = x.live e
    ends_halted (Failure NotLegal) q s (live, illegal) l q' s' x = illegal (result_of l, s', x.does)
    ends_halted (Failure NoBranch) q s (live, (r, s'', does, lacks)) l q' s' x =
        let e = only_outcome q s s''.world r does.0 in
        let f = only_outcome q s s'.world (result_of l) x.does.0 in
        let z : ◌≡◌ {A = ℕ} 0 1 = cc in
        omega arith
    ends_halted (Failure Circles) q s h l q' s' x = h
    ends_halted (Failure GoalFalse) q s (e, goal) l q' s' x = x.live e

    -- Where the execution ends, the run's action ends the run with the same ending.
    ends_acts :
        (x : Ending) (q : ProgramState) (s : Situation) → Ends (lamp_problem t) (plan_of t) x q s →
        act t (pair q s.world) (column t s.rest) ≡ ends x
    unfolding Ends act
    ends_acts Goal q s (e, goal) = rw (is_final_lem q e, goal)
    ends_acts (Failure NotLegal) q s (live, illegal) = rw (not_final q live) (go (outcomes q s.world s.rest) refl)
      where
        go : (found : List Outcome) → outcomes q s.world s.rest ≡ found → carried_out t q found ≡ ends (Failure NotLegal)
        go [] e = refl
        go (outcome w r ∷ more) e =
            let rest = rest_after t (t.action q) s.rest in
            absurd (illegal (r, situation w rest, (first_in (outcome w r) (outcomes q s.world s.rest) more e, refl)))
    ends_acts (Failure NoBranch) q s (live, (r, s', does, lacks)) =
        rw (not_final q live, only_outcome q s s'.world r does.0, lacks)
    ends_acts (Failure Circles) q s h = absurd h
    ends_acts (Failure GoalFalse) q s (e, goal) =
        rw (is_final_lem q e, false_unless_true (t.goal s.world (column t s.rest)) goal)

    -- The execution ends in only one way at a place.
    pub one_ending :
        (x x' : Ending) (q : ProgramState) (s : Situation) →
        Ends (lamp_problem t) (plan_of t) x q s → Ends (lamp_problem t) (plan_of t) x' q s → x ≡ x'
    one_ending x x' q s h h' = let e = ends_acts x q s h in let f = ends_acts x' q s h' in cc

    -- ---- where an action stays

    -- An action that stays at the lamp leads to a pair of the tables.
    pub stays_in_range : (p p' : Pair) (c : ℕ) → stays p' ≡ act t p c → InRange t p'
    unfolding MoveMeans
    stays_in_range p p' c e =
        step_in_range t wf (subst (λ m. MoveMeans p (line_of c []) m) (sym e) (act_means p (line_of c []))).1
