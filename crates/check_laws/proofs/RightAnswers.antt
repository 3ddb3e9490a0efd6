-- The results of the search are right answers of the check: its least failing line is the counterexample; and if no line fails, the
-- plan is correct and the entries of the table are the reached pairs.
use mathlib.Core.Path.{◌≡◌, sym, ap, subst, ◌∙◌}
use mathlib.Core.Logic.{⊎_elim}
use mathlib.Core.Bool.{true}
use mathlib.Core.List.{List, [], map}
use Prim.Native.Nat.{ℕ, ◌+◌, ◌*◌, ◌≤◌, ◌<◌}
use native.Mathlib.Omega.{arith}
use lib.ListN.{length, length-map}
use Rattle.plans.specs.Execution.{T*, Correct}
use Rattle.lamp_line.specs.declared.FailureKind.{FailureKind}
use Rattle.lamp_line.specs.Lists.{◌∈◌}
use Rattle.lamp_line.specs.Tables.{Tables, world_state, lamp_theory, lamp_problem, plan_of, line_of}
use Rattle.lamp_line.specs.inner.WellFormed.{WellFormed}
use Rattle.lamp_line.specs.Endings.{kind_number, Ends, Leads}
use Rattle.lamp_line.specs.Check.{rank, Counterexample, Reached, Accepts}
use Rattle.lamp_line.specs.declared.Pair.{Pair}
use Rattle.run_laws.specs.inner.Pairs.{pair_number, pair_of}
use Rattle.run_laws.proofs.Steps.{execution_in_range}
use Rattle.search_laws.proofs.Keys.{line_rank_is, key_line_order}
use Rattle.search_laws.specs.inner.Graph.{FailsFrom}
use Rattle.search_laws.proofs.Graph.{Least}
use Rattle.search_laws.specs.inner.Entries.{Entry, entry, node}
use Rattle.search_laws.proofs.Shortness.{least_short}
use Rattle.search_laws.proofs.Turns.{At, accepted, reached_in_table}
use Rattle.run_laws.proofs.Pairs.{pair_of_number}
use Rattle.check_laws.proofs.TableGraph.{graph, PairNumber, start_in_range, start_numbered, coded}
use Rattle.check_laws.proofs.RunLeads.{goal_or_fails}
use Rattle.check_laws.proofs.FailingLines.{fails_in_graph, graph_fails}
use Rattle.check_laws.proofs.ReachedPairs.{reached_in_graph, graph_reached}
use Rattle.check_laws.proofs.ListPlaces.{at_place_in, in_at_place, distinct_by_places}

module _ (t : Tables) (wf : WellFormed t) where
  -- The least failing line of the graph is the counterexample.
  pub least_right :
      (kind : FailureKind) (s e : ℕ) (l : List ℕ) → Least (graph t) l e s (kind_number kind) →
      Counterexample t kind (world_state s) (line_of e l)
  unfolding rank
  least_right kind s e l least =
      record {
        fails = graph_fails t wf kind s e l least.fails;
        first = λ kind' start' line' d.
            rw (line_rank_is s l e, line_rank_is start'.0 line'.lamps line'.end) at
            (key_line_order l line'.lamps e line'.end s start'.0 (kind_number kind) (kind_number kind')
            (least.least start'.0 line'.lamps line'.end (kind_number kind') (fails_in_graph t wf kind' start' line' d)));
        short =
            least_short (graph t) (PairNumber t) (λ x. x) (t.states * t.worlds) (coded t wf) (start_numbered t wf)
            s l e (kind_number kind) least;
      }

  -- If no line fails in the graph, the plan is correct.
  none_fails_correct :
      ((s : ℕ) (l : List ℕ) (e f : ℕ) → ¬ (FailsFrom (graph t) s l e f)) → Correct (lamp_problem t) (plan_of t)
  unfolding Correct Leads Ends
  none_fails_correct none s of =
      ⊎_elim
      (λ (ls, q, s', execution, (is_final_lem, goal)).
      (ls, s', subst (λ q. T* (lamp_theory t) (plan_of t) ls t.first s q s') is_final_lem execution, goal))
      (λ (kind, d).
      absurd (none s.world.0 s.rest.lamps s.rest.end (kind_number kind) (fails_in_graph t wf kind s.world s.rest d)))
      (goal_or_fails t wf s.world s.rest of)

  -- ---- the table of a search that is complete

  module _ {E : List Entry} {a b : ℕ} (at : At (graph t) E a b (t.kinds + 1)) (end : length E ≤ b) where
    pair_at : Entry → Pair
    pair_at v = pair_of t.worlds v.node

    -- The pair at a place has the node there as its number, and it is reached.
    entry_reached :
        (i : ℕ) → i < length E →
        (pair_number t.worlds (pair_of t.worlds (node E i)) ≡ node E i) × Reached t (pair_of t.worlds (node E i))
    entry_reached i l =
        let (p, is, range, reached) = graph_reached t wf (at.inv.real i l) in
        let same : pair_of t.worlds (node E i) ≡ p =
        ap (pair_of t.worlds) is ∙ pair_of_number t.worlds p range.world_range in
        (ap (pair_number t.worlds) same ∙ sym is, subst (Reached t) (sym same) reached)

    reached_listed : (p : Pair) → Reached t p → p ∈ map pair_at E
    unfolding pair_at
    reached_listed p r =
        let (s, pre, reach) = reached_in_graph t wf p r in
        let (j, l, is) = reached_in_table at end reach in
        let range = execution_in_range t wf r.execution (start_in_range t wf r.start r.beginning.marked) in
        let same = ap (pair_of t.worlds) is ∙ pair_of_number t.worlds p range.world_range in
        subst (λ (q : Pair). q ∈ map pair_at E) same (at_place_in pair_at (entry 0 0 [] true) E j l)

    listed_reached : (p : Pair) → p ∈ map pair_at E → Reached t p
    unfolding pair_at
    listed_reached p m =
        let (i, l, e) = in_at_place pair_at (entry 0 0 [] true) E p m in
        subst (Reached t) (sym e) (entry_reached i l).1

    -- The plan is accepted with the number of entries.
    pub table_right : Accepts t (length E)
    unfolding pair_at
    table_right =
        record {
          correct = none_fails_correct (accepted at end);
          counted = record {
            listed = map pair_at E;
            exactly = λ p. (reached_listed p, listed_reached p);
            once = distinct_by_places pair_at (entry 0 0 [] true) E (λ i j k l e.
                at.inv.distinct i j k l
                (sym (entry_reached i (omega arith)).0 ∙ ap (pair_number t.worlds) e ∙ (entry_reached j l).0));
            number = length-map E pair_at;
          };
        }
