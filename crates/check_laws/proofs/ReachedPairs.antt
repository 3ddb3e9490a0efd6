-- A pair is reached by an execution exactly when its number is reached in the graph of the tables.
use mathlib.Core.Path.{◌≡◌, refl, sym, ap, ap₂, subst, ◌∙◌}
use mathlib.Core.Logic.{inl, inr}
use mathlib.Core.Bool.{true}
use mathlib.Core.List.{List, [], ◌∷◌, ◌++◌}
use Prim.Native.Nat.{ℕ, ◌*◌}
use lib.ListN.{length}
use Rattle.plans.specs.Execution.{Label, here, join, step}
use Rattle.lamp_line.specs.Tables.{Tables, Kinds, Situation, world_state, lamp_column, lamp_theory, plan_of, line_of}
use Rattle.lamp_line.specs.inner.WellFormed.{WellFormed}
use Rattle.lamp_line.specs.Check.{Arrival, Reached}
use Rattle.lamp_line.specs.declared.Pair.{Pair}
use Rattle.lamp_line.specs.Run.{pair, Walk, arrived, lamp_walk}
use Rattle.plans.proofs.Executions.{last_step, same_length_same_execution}
use Rattle.run_laws.specs.inner.Pairs.{InRange, pair_number}
use Rattle.run_laws.proofs.Columns.{some_end}
use Rattle.run_laws.proofs.Steps.{steps_determined}
use Rattle.run_laws.proofs.Actions.{ExecutionAt}
use Rattle.run_laws.proofs.Walks.{WalkMeans, Arrives, arrives, walk_means, arrived_in_range}
use Rattle.search_laws.specs.inner.Lists.{◌▸◌}
use Rattle.search_laws.specs.inner.Graph.{Kind, Reach, from_start, past_lamp}
use Rattle.search_laws.proofs.Graph.{snoc_append}
use Rattle.search_laws.proofs.Shortness.{kinds_append}
use Rattle.check_laws.specs.inner.Fates.{arrives as arrives_with, fate}
use Rattle.check_laws.proofs.FateLaws.{fate_of_pair, arrives_walk}
use Rattle.check_laws.proofs.TableGraph.{graph, start_in_range}
use Rattle.check_laws.proofs.PassedLamps.{Passes, passes_reached}

module _ (t : Tables) (wf : WellFormed t) where
  abbrev number : Pair → ℕ
  number p = pair_number t.worlds p

  -- A pair that is reached is reached in the graph.
  pub reached_in_graph : (p : Pair) → Reached t p → (s : ℕ) × (pre : List ℕ) × Reach (graph t) s pre (number p)
  reached_in_graph p r = go r.arrives
    where
      begins : Reach (graph t) r.start.0 [] (number (pair t.first r.start))
      begins = from_start (r.beginning.marked, refl)

      go : Arrival t r.labels → (s : ℕ) × (pre : List ℕ) × Reach (graph t) s pre (number p)
      go (inl e) =
          let (same_labels, same_state, same_situation) =
          same_length_same_execution (lamp_theory t) (plan_of t) (steps_determined t wf) here r.execution
          (sym (ap (λ (ls : List Label). length ls) e)) in
          let same_world = ap (λ (s : Situation). s.world) same_situation in
          let same : pair t.first r.start ≡ p = ap₂ pair same_state same_world in
          (r.start.0, [], subst (λ (q : Pair). Reach (graph t) r.start.0 [] (number q)) same begins)
      go (inr (ms, l, e, moves)) =
          let b : Passes t wf r.line.end r.beginning.fits.ended r.line.lamps (pair t.first r.start) ms p =
          record {
            rest = r.rest;
            label = l;
            by = last_step (lamp_theory t) (plan_of t) ms (rw e at r.execution);
            moved_on = moves;
          } in
          let (pre, reach) =
          passes_reached t wf r.line.end r.beginning.fits.ended r.start.0 r.line.lamps (pair t.first r.start) []
          (start_in_range t wf r.start r.beginning.marked) r.beginning.fits.of_kinds begins p ms b in
          (r.start.0, pre, reach)

  -- ---- from the graph to executions

  -- Along every line that begins with these lamps, the execution from the start arrives with the pair of this number, directly
  -- after passing them.
  record ReachedBy (s : ℕ) (pre : List ℕ) (x : ℕ) : Type 0 where
    pub at : Pair
    pub is : x ≡ number at
    pub range : InRange t at
    pub marked : t.start (world_state s) ≡ true
    pub of_kinds : Kinds t.kinds pre
    pub past :
        (rest : List ℕ) → (ls : List Label) × Arrival t ls ×
        ExecutionAt t (pair t.first (world_state s)) (line_of 0 (pre ++ rest)) ls at (line_of 0 rest)

  -- An execution that arrives at a lamp, followed by the walk that passes it.
  past_one_more :
      {ls : List Label} {p₀ p p' : Pair} {c k : ℕ} {lamps rest : List ℕ} →
      ExecutionAt t p₀ (line_of 0 lamps) ls p (line_of 0 (c ∷ rest)) → Arrives t p (line_of 0 (c ∷ rest)) p' k →
      (ms : List Label) × Arrival t ms × ExecutionAt t p₀ (line_of 0 lamps) ms p' (line_of 0 rest)
  past_one_more {ls} before a = (
    (ls ++ a.labels) ++ (a.label ∷ []),
    inr (ls ++ a.labels, a.label, refl, a.moved_on),
    join (join before a.staying) (step a.passing),
  )

  walk_arrives :
      (p p' : Pair) (c k : ℕ) (rest : List ℕ) → lamp_walk t p (lamp_column t.ends c) ≡ arrived p' k →
      Arrives t p (line_of 0 (c ∷ rest)) p' k
  walk_arrives p p' c k rest e =
      go (subst (λ (v : Walk). WalkMeans t (line_of 0 (c ∷ rest)) (t.states * t.worlds) p v) e
      (walk_means t (t.states * t.worlds) p (line_of 0 (c ∷ rest))))
    where
      go : WalkMeans t (line_of 0 (c ∷ rest)) (t.states * t.worlds) p (arrived p' k) → Arrives t p (line_of 0 (c ∷ rest)) p' k
      go (arrives a) = a

  comes_on :
      (s : ℕ) (pre : List ℕ) (x c y : ℕ) → ReachedBy s pre x → Kind t.kinds c → fate t x (lamp_column t.ends c) ≡ arrives_with y →
      ReachedBy s (pre ▸ c) y
  comes_on s pre x c y came kind to =
      go (arrives_walk t.worlds y (lamp_walk t came.at (lamp_column t.ends c))
      (sym (fate_of_pair t came.at (lamp_column t.ends c) came.range) ∙ (rw came.is at to)))
    where
      past :
          (p : Pair) (k : ℕ) → lamp_walk t came.at (lamp_column t.ends c) ≡ arrived p k →
          (rest : List ℕ) → (ls : List Label) × Arrival t ls ×
          ExecutionAt t (pair t.first (world_state s)) (line_of 0 ((pre ▸ c) ++ rest)) ls p (line_of 0 rest)
      past p k e rest =
          rw (snoc_append pre c rest) (past_one_more (came.past (c ∷ rest)).2 (walk_arrives came.at p c k rest e))

      go :
          (p : Pair) × (k : ℕ) × (lamp_walk t came.at (lamp_column t.ends c) ≡ arrived p k) × (y ≡ number p) → ReachedBy s (pre ▸ c) y
      go (p, k, e, n) =
          record {
            at = p;
            is = n;
            range = arrived_in_range t wf (t.states * t.worlds) came.at p (lamp_column t.ends c) k (sym e);
            marked = came.marked;
            of_kinds = kinds_append t.kinds pre (c ∷ []) came.of_kinds (unfold Kinds in (kind.low, kind.high, tt));
            past = past p k e;
          }

  reach_comes : {s x : ℕ} {pre : List ℕ} → Reach (graph t) s pre x → ReachedBy s pre x
  reach_comes (from_start {s = s} (marked, e)) =
      record {
        at = pair t.first (world_state s);
        is = e;
        range = start_in_range t wf (world_state s) marked;
        marked = marked;
        of_kinds = unfold Kinds in tt;
        past = λ rest. ([], inl refl, here);
      }
  reach_comes (past_lamp {s = s} {x = x} {c = c} {y = y} {p = pre} r kind to) = comes_on s pre x c y (reach_comes r) kind to

  -- A node that is reached in the graph is the number of a pair that is reached.
  pub graph_reached :
      {s x : ℕ} {pre : List ℕ} → Reach (graph t) s pre x → (p : Pair) × (x ≡ number p) × InRange t p × Reached t p
  graph_reached {s} {x} {pre} r =
      let came = reach_comes r in
      let (ls, arrival, execution) = came.past [] in (
        came.at,
        came.is,
        came.range,
        record {
          start = world_state s;
          line = line_of 0 (pre ++ []);
          beginning = record {
            marked = came.marked;
            fits = record {
              of_kinds = kinds_append t.kinds pre [] came.of_kinds (unfold Kinds in tt);
              ended = some_end t;
            };
          };
          labels = ls;
          rest = line_of 0 [];
          arrives = arrival;
          execution = execution;
        },
      )
