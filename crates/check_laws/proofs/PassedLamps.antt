-- If an execution passes a lamp, the graph of the tables reaches the pair with which it arrives. The proof compares the execution
-- with the walk at its first lamp: the walk passes this lamp too, and the execution goes on from there.
use mathlib.Core.Path.{◌≡◌, refl, sym, ap, ap₂, subst, subst₂, ◌∙◌}
use mathlib.Core.Logic.{◌⊎◌, inl, inr}
use mathlib.Core.Bool.{Bool, true, false, cond}
use mathlib.Core.List.{List, [], ◌∷◌, ◌++◌}
use Prim.Native.Nat.{ℕ, ◌+◌, ◌*◌, ◌≤◌, ◌<◌}
use native.Mathlib.Decide.{dec_lt, ℕ_discrete}
use native.Mathlib.Omega.{arith}
use lib.ListN.{length, length-append}
use Rattle.plans.specs.Plan.{ActionTheory, Plan}
use Rattle.plans.specs.Execution.{Label, action_of, Step, T*, here, join, step}
use Rattle.lamp_line.specs.declared.ProgramState.{ProgramState}
use Rattle.lamp_line.specs.declared.WorldState.{WorldState}
use Rattle.lamp_line.specs.declared.Ending.{Ending}
use Rattle.lamp_line.specs.Tables.{Tables, Line, Situation, Kinds, moves_on, passed, kinds_of_ends, line_of}
use Rattle.lamp_line.specs.inner.WellFormed.{WellFormed}
use Rattle.lamp_line.specs.Tables.{lamp_column, lamp_theory, plan_of}
use Rattle.lamp_line.specs.Check.{situation}
use Rattle.lamp_line.specs.declared.Pair.{Pair}
use Rattle.lamp_line.specs.Run.{pair, Walk, ended, arrived, lamp_walk}
use Rattle.plans.proofs.Executions.{LastStep, shared_beginning, same_length_same_execution, longest}
use Rattle.run_laws.specs.inner.Pairs.{InRange, pair_number}
use Rattle.run_laws.proofs.Steps.{steps_determined, end_kept, step_passes}
use Rattle.run_laws.proofs.Actions.{ExecutionAt, ends_halted}
use Rattle.run_laws.proofs.Walks.{WalkMeans, rests, lingers, Arrives, arrives, walk_means, arrived_in_range, arrived_at_lamp}
use Rattle.run_laws.proofs.Circling.{lingers_passes_none}
use Rattle.search_laws.specs.inner.Lists.{◌▸◌}
use Rattle.search_laws.specs.inner.Graph.{Reach, past_lamp}
use Rattle.check_laws.specs.inner.Fates.{fate_of}
use Rattle.check_laws.proofs.FateLaws.{fate_of_pair}
use Rattle.check_laws.proofs.TableGraph.{graph}

-- An execution never has more lamps left than at its beginning.
lamps_never_more :
    (t : Tables) {ls : List Label} {q q' : ProgramState} {s s' : Situation} → T* (lamp_theory t) (plan_of t) ls q s q' s' →
    length s'.rest.lamps ≤ length s.rest.lamps
lamps_never_more t here = omega arith
lamps_never_more t (join a b) = omega (arith, lamps_never_more t a, lamps_never_more t b)
lamps_never_more t (step {q = q} {s = s} x) = rw x.does.1 (no_more (moves_on t (t.action q)) s.rest.lamps s.rest.end)
  where
    no_more :
        (b : Bool) (lamps : List ℕ) (end : ℕ) →
        length (cond b (passed (line_of end lamps)) (line_of end lamps)).lamps ≤ length lamps
    no_more false lamps end = omega arith
    no_more true [] end = omega arith
    no_more true (kind ∷ lamps) end = omega arith

module _ (t : Tables) (wf : WellFormed t) (end : ℕ) (is_end : end < kinds_of_ends t.ends) where
  -- The lamp line of the job, and its plan.
  abbrev D : ActionTheory
  D = lamp_theory t

  abbrev P : Plan
  P = plan_of t

  abbrev number : Pair → ℕ
  number p = pair_number t.worlds p

  -- From p₀ at these lamps, the execution reaches p by the steps ms and a last step, which moves on.
  pub record Passes (lamps : List ℕ) (p₀ : Pair) (ms : List Label) (p : Pair) : Type 0 where
    pub rest : Line
    pub label : Label
    pub by : LastStep D P ms label p₀.state (situation p₀.world (line_of end lamps)) p.state (situation p.world rest)
    pub moved_on : moves_on t (action_of label) ≡ true

  module _ (lamps : List ℕ) (p₀ : Pair) (ms : List Label) (p : Pair) (b : Passes lamps p₀ ms p) where
    -- The execution with its last step.
    whole : ExecutionAt t p₀ (line_of end lamps) (ms ++ (b.label ∷ [])) p b.rest
    whole = join b.by.before (step b.by.last)

    one_lamp_fewer : length b.by.at.rest.lamps ≡ length b.rest.lamps + 1
    one_lamp_fewer =
        let h : b.by.at.rest.end < kinds_of_ends t.ends = rw (end_kept t b.by.before) is_end in
        omega (arith, step_passes t wf b.by.last b.moved_on h)

    -- From p no execution leads back to the first lamp.
    no_return :
        {ns : List Label} {q : ProgramState} {w : WorldState} →
        ¬ (T* D P ns p.state (situation p.world b.rest) q (situation w (line_of end lamps)))
    no_return a = omega (arith, one_lamp_fewer, lamps_never_more t b.by.before, lamps_never_more t a)

    -- So the walk at the first lamp does not end the run there.
    not_ended : (x : Ending) (k : ℕ) → InRange t p₀ → ¬ (WalkMeans t (line_of end lamps) (t.states * t.worlds) p₀ (ended x k))
    not_ended x k range (rests r) =
        let det = steps_determined t wf in
        let halted = ends_halted t wf x r.last.state (situation r.last.world (line_of end lamps)) r.ends in
        let (ns, e, a) = shared_beginning D P det whole r.execution (longest D P det r.execution halted whole) in
        no_return a
    not_ended x k range (lingers r) =
        let stays = lingers_passes_none t wf (line_of end lamps) p₀ range r in
        let before = ap (λ (l : Line). length l.lamps) (stays ms b.by.state b.by.at b.by.before) in
        let after =
        ap (λ (l : Line). length l.lamps)
        (stays (ms ++ (b.label ∷ [])) p.state (situation p.world b.rest) whole) in
        omega (arith, one_lamp_fewer)

  -- The walk passes the first lamp and arrives with p, or with a pair from which the execution has still to pass a lamp.
  passes_later :
      (c : ℕ) (lamps : List ℕ) (p₀ p p' : Pair) (k : ℕ) (ms : List Label) → Passes (c ∷ lamps) p₀ ms p →
      Arrives t p₀ (line_of end (c ∷ lamps)) p' k → (p' ≡ p) ⊎ ((ns : List Label) × Passes lamps p' ns p)
  passes_later c lamps p₀ p p' k ms b a =
      go (dec_lt (length ms) (length a.labels)) (ℕ_discrete (length a.labels) (length ms))
    where
      go :
          Dec (length ms < length a.labels) → Dec (length a.labels ≡ length ms) →
          (p' ≡ p) ⊎ ((ns : List Label) × Passes lamps p' ns p)
      go (yes h) e =
          let fewer : length (ms ++ (b.label ∷ [])) ≤ length a.labels = omega (arith, length-append ms (b.label ∷ [])) in
          let (ns, f, back) = shared_beginning D P (steps_determined t wf) (whole (c ∷ lamps) p₀ ms p b) a.staying fewer in
          absurd (no_return (c ∷ lamps) p₀ ms p b back)
      go (no h) (yes e) =
          let (same_labels, same_state, same_situation) =
          same_length_same_execution D P (steps_determined t wf) a.staying b.by.before e in
          let last =
          subst₂ (λ q s. Step D P q s b.label p.state (situation p.world b.rest))
          (sym same_state) (sym same_situation) b.by.last in
          let (same_label, to_state, to_situation) = (steps_determined t wf).one_step a.passing last in
          let to_world = ap (λ (s : Situation). s.world) to_situation in
          inl (ap₂ pair to_state to_world)
      go (no h) (no e) =
          let more : length (a.labels ++ (a.label ∷ [])) ≤ length ms =
          omega (arith, length-append a.labels (a.label ∷ [])) in
          let (ns, f, rest) =
          shared_beginning D P (steps_determined t wf) (join a.staying (step a.passing)) b.by.before more in
          inr (
            ns,
            record {
              rest = b.rest;
              label = b.label;
              by = record { state = b.by.state; at = b.by.at; before = rest; last = b.by.last };
              moved_on = b.moved_on;
            },
          )

  -- The graph reaches the pair with which the execution arrives.
  pub passes_reached :
      (s : ℕ) (lamps : List ℕ) (p₀ : Pair) (pre : List ℕ) → InRange t p₀ → Kinds t.kinds lamps →
      Reach (graph t) s pre (number p₀) → (p : Pair) (ms : List Label) → Passes lamps p₀ ms p →
      (pre' : List ℕ) × Reach (graph t) s pre' (number p)
  unfolding Kinds
  passes_reached s [] p₀ pre range kinds r p ms b =
      go (lamp_walk t p₀ end) refl (walk_means t (t.states * t.worlds) p₀ (line_of end []))
    where
      go :
          (v : Walk) → lamp_walk t p₀ end ≡ v → WalkMeans t (line_of end []) (t.states * t.worlds) p₀ v →
          (pre' : List ℕ) × Reach (graph t) s pre' (number p)
      go (ended x k) e m = absurd (not_ended [] p₀ ms p b x k range m)
      go (arrived p' k) e m =
          let lamp = arrived_at_lamp t wf (t.states * t.worlds) p₀ p' (line_of end []) k is_end (sym e) in
          absurd (omega arith)
  passes_reached s (c ∷ lamps) p₀ pre range kinds r p ms b =
      go (λ p' range' r' ns b'. passes_reached s lamps p' (pre ▸ c) range' kinds.2 r' p ns b')
      (lamp_walk t p₀ (lamp_column t.ends c)) refl (walk_means t (t.states * t.worlds) p₀ (line_of end (c ∷ lamps)))
    where
      go :
          ((p' : Pair) → InRange t p' → Reach (graph t) s (pre ▸ c) (number p') → (ns : List Label) → Passes lamps p' ns p →
          (pre' : List ℕ) × Reach (graph t) s pre' (number p)) →
          (v : Walk) → lamp_walk t p₀ (lamp_column t.ends c) ≡ v → WalkMeans t (line_of end (c ∷ lamps)) (t.states * t.worlds) p₀ v →
          (pre' : List ℕ) × Reach (graph t) s pre' (number p)
      go after (ended x k) e m = absurd (not_ended (c ∷ lamps) p₀ ms p b x k range m)
      go after (arrived p' k) e (arrives a) = at (passes_later c lamps p₀ p p' k ms b a)
        where
          next : Reach (graph t) s (pre ▸ c) (number p')
          next =
              past_lamp r (record { low = kinds.0; high = kinds.1 })
              (fate_of_pair t p₀ (lamp_column t.ends c) range ∙ ap (fate_of t.worlds) e)

          at : (p' ≡ p) ⊎ ((ns : List Label) × Passes lamps p' ns p) → (pre' : List ℕ) × Reach (graph t) s pre' (number p)
          at (inl same) = (pre ▸ c, subst (λ (q : Pair). Reach (graph t) s (pre ▸ c) (number q)) same next)
          at (inr (ns, b')) =
              after p' (arrived_in_range t wf (t.states * t.worlds) p₀ p' (lamp_column t.ends c) k (sym e)) next ns b'
