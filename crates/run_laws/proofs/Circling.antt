-- Failure 3: a walk that has made S·W steps at one lamp and is not in the final state stays there for ever. Of the S·W + 1 pairs
-- that it has met, two are equal. So every later pair is one of the earlier ones, and from those the action stays.
use mathlib.Core.Path.{◌≡◌, refl, sym, ap, subst, ◌∙◌}
use mathlib.Core.Logic.{◌≢◌}
use mathlib.Core.List.{List}
use Prim.Native.Nat.{ℕ, zero, suc, ◌*◌, ◌≤◌, ◌<◌}
use native.Mathlib.Decide.{dec_lt}
use native.Mathlib.Omega.{arith}
use lib.ListN.{length}
use Rattle.plans.specs.Execution.{Label, T*, Forever}
use Rattle.lamp_line.specs.declared.ProgramState.{ProgramState}
use Rattle.lamp_line.specs.Tables.{Tables, Line, Situation, program_state, final, column, lamp_theory, plan_of}
use Rattle.lamp_line.specs.inner.WellFormed.{WellFormed}
use Rattle.lamp_line.specs.Check.{situation}
use Rattle.lamp_line.specs.declared.Pair.{Pair}
use Rattle.lamp_line.specs.Run.{Move, ends, stays, passes, act}
use Rattle.plans.proofs.Pigeonhole.{Repeat, pigeonhole}
use Rattle.plans.proofs.Executions.{first_steps, same_length_same_execution}
use Rattle.run_laws.specs.inner.Pairs.{InRange, pair_number}
use Rattle.run_laws.proofs.Pairs.{pair_number_bound, pair_number_injective}
use Rattle.run_laws.proofs.Steps.{steps_determined}
use Rattle.run_laws.proofs.Actions.{StepAt, MoveMeans, is_final_lem, act_final, act_means, stays_in_range}
use Rattle.run_laws.proofs.Walks.{Lingers, not_ended, stays_on}

-- The pair after an action that stays; after any other action, the same pair as before.
abbrev stayed : Pair → Move → Pair
stayed p (ends x) = p
stayed p (stays p') = p'
stayed p (passes p') = p

module _ (t : Tables) (c : ℕ) where
  -- The pair after i actions at the column c, if they stay. The next three laws say that it begins at p, that after one action it
  -- goes on as from the next pair, and that from equal pairs it goes on equally.
  orbit : Pair → ℕ → Pair
  orbit p zero = p
  orbit p (suc i) = stayed (orbit p i) (act t (orbit p i) c)

  orbit_begins : (p : Pair) → orbit p 0 ≡ p
  unfolding orbit
  orbit_begins p = refl

  orbit_after : (p p' : Pair) → act t p c ≡ stays p' → (i : ℕ) → orbit p (suc i) ≡ orbit p' i
  unfolding orbit
  orbit_after p p' e zero = rw e
  orbit_after p p' e (suc i) = rw (orbit_after p p' e i)

  orbit_next : (p : Pair) (i j : ℕ) → orbit p i ≡ orbit p j → orbit p (suc i) ≡ orbit p (suc j)
  unfolding orbit
  orbit_next p i j e = ap (λ p'. stayed p' (act t p' c)) e

  -- If a walk lingers for n actions, each of them stays, and none of the pairs has the final state.
  lingers_stays : {n : ℕ} {p : Pair} → Lingers t c n p → (i : ℕ) → i < n → act t (orbit p i) c ≡ stays (orbit p (suc i))
  lingers_stays (not_ended live) i h = absurd (omega arith)
  lingers_stays (stays_on {p = p} {p' = p'} e r) zero h = rw (orbit_after p p' e 0, orbit_begins p, orbit_begins p') e
  lingers_stays (stays_on {p = p} {p' = p'} e r) (suc i) h =
      rw (orbit_after p p' e (suc i), orbit_after p p' e i) (lingers_stays r i (omega arith))

  stays_live : (p p' : Pair) → act t p c ≡ stays p' → p.state ≢ final t
  stays_live p p' e f = let g = act_final t p c (is_final_lem t p.state f) in let z : ◌≡◌ {A = ℕ} 0 1 = cc in omega arith

  lingers_live : {n : ℕ} {p : Pair} → Lingers t c n p → (i : ℕ) → i ≤ n → (orbit p i).state ≢ final t
  lingers_live (not_ended {p = p} live) zero h = rw (orbit_begins p) live
  lingers_live (not_ended live) (suc i) h = absurd (omega arith)
  lingers_live (stays_on {p = p} {p' = p'} e r) zero h = rw (orbit_begins p) (stays_live p p' e)
  lingers_live (stays_on {p = p} {p' = p'} e r) (suc i) h = rw (orbit_after p p' e i) (lingers_live r i (omega arith))

-- A walk from p at the first lamp of a line, or at the line's end, that has made S·W steps there.
module _
    (t : Tables) (wf : WellFormed t) (line : Line) (p : Pair)
    (range : InRange t p) (lingers : Lingers t (column t line) (t.states * t.worlds) p) where
  -- The pair after i of its steps.
  abbrev pair_after : ℕ → Pair
  pair_after = orbit t (column t line) p

  step_of_stay :
      (i : ℕ) → act t (pair_after i) (column t line) ≡ stays (pair_after (suc i)) →
      (l : Label) × StepAt t (pair_after i) line l (pair_after (suc i)) line
  step_of_stay i e = unfold MoveMeans in subst (λ m. MoveMeans t (pair_after i) line m) e (act_means t (pair_after i) line)

  pairs_in_range : (i : ℕ) → i ≤ t.states * t.worlds → InRange t (pair_after i)
  pairs_in_range zero h = rw (orbit_begins t (column t line) p) range
  pairs_in_range (suc i) h =
      stays_in_range t wf (pair_after i) (pair_after (suc i)) (column t line) (sym (lingers_stays t (column t line) lingers i h))

  states_not_final : (i : ℕ) → i ≤ t.states * t.worlds → (pair_after i).state.0 < t.states
  states_not_final i h =
      let range_of_i = pairs_in_range i h in
      let differs : (pair_after i).state.0 ≢ t.states = λ e. lingers_live t (column t line) lingers i h (ap program_state e) in
      omega arith

  -- Two of the pairs are equal.
  meeting : Repeat (λ i. pair_number t.worlds (pair_after i)) (t.states * t.worlds)
  meeting =
      pigeonhole (t.states * t.worlds) (λ i. pair_number t.worlds (pair_after i))
      (λ i h. pair_number_bound t.states t.worlds (pair_after i) (states_not_final i h) (pairs_in_range i h).world_range)

  meets : pair_after meeting.earlier ≡ pair_after meeting.later
  meets =
      let m = meeting in
      pair_number_injective t.worlds (pair_after m.earlier) (pair_after m.later)
      (pairs_in_range m.earlier (omega arith)).world_range (pairs_in_range m.later m.in_range).world_range
      m.same

  -- Every pair, however late, is one of those before the second of the two equal ones.
  seen_before : (i : ℕ) → (j : ℕ) × (j < meeting.later) × (pair_after i ≡ pair_after j)
  seen_before zero = (0, omega (arith, meeting.in_order), refl)
  seen_before (suc i) = go (seen_before i)
    where
      next : (j : ℕ) → pair_after i ≡ pair_after j → pair_after (suc i) ≡ pair_after (suc j)
      next = orbit_next t (column t line) p i

      go :
          (j : ℕ) × (j < meeting.later) × (pair_after i ≡ pair_after j) →
          (j : ℕ) × (j < meeting.later) × (pair_after (suc i) ≡ pair_after j)
      go (j, h, e) = at_last (dec_lt (suc j) meeting.later)
        where
          at_last : Dec (suc j < meeting.later) → (j : ℕ) × (j < meeting.later) × (pair_after (suc i) ≡ pair_after j)
          at_last (yes k) = (suc j, k, next j e)
          at_last (no k) =
              let last : suc j ≡ meeting.later = omega arith in
              (meeting.earlier, meeting.in_order, next j e ∙ ap pair_after last ∙ sym meets)

  stays_for_ever : (i : ℕ) → act t (pair_after i) (column t line) ≡ stays (pair_after (suc i))
  stays_for_ever i =
      let (j, h, e) = seen_before i in
      let stay = lingers_stays t (column t line) lingers j (omega (arith, meeting.in_range)) in
      rw (e, orbit_next t (column t line) p i j e) stay

  -- The execution from p goes on for ever.
  pub lingers_forever : Forever (lamp_theory t) (plan_of t) p.state (situation p.world line)
  lingers_forever =
      record {
        states = λ i. (pair_after i).state;
        situations = λ i. situation (pair_after i).world line;
        labels = λ i. (step_of_stay i (stays_for_ever i)).0;
        begins = unfold orbit in (refl, refl);
        steps = λ i. (step_of_stay i (stays_for_ever i)).1;
      }

  -- The execution from p passes no lamp.
  pub lingers_passes_none :
      (ms : List Label) (q : ProgramState) (s : Situation) →
      T* (lamp_theory t) (plan_of t) ms p.state (situation p.world line) q s → s.rest ≡ line
  unfolding lingers_forever
  lingers_passes_none ms q s a =
      let (ls, e, b) = first_steps (lamp_theory t) (plan_of t) lingers_forever (length ms) in
      ap (λ s. s.rest) (same_length_same_execution (lamp_theory t) (plan_of t) (steps_determined t wf) a b (sym e)).2
