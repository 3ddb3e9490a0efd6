-- The graph of the tables: its nodes are the numbers of pairs, and the fates of the pairs give its edges and failures.
use mathlib.Core.Path.{◌≡◌, sym, ap, ◌∙◌}
use mathlib.Core.Bool.{true}
use Prim.Native.Nat.{ℕ, ◌+◌, ◌*◌, ◌<◌}
use native.Mathlib.Omega.{arith}
use Rattle.lamp_line.specs.declared.FailureKind.{FailureKind}
use Rattle.lamp_line.specs.declared.WorldState.{WorldState}
use Rattle.lamp_line.specs.Tables.{Tables, world_state, kinds_of_ends, lamp_column}
use Rattle.lamp_line.specs.inner.WellFormed.{WellFormed}
use Rattle.lamp_line.specs.Endings.{kind_number}
use Rattle.lamp_line.specs.declared.Pair.{Pair}
use Rattle.lamp_line.specs.Run.{pair, lamp_walk}
use Rattle.run_laws.specs.inner.Pairs.{InRange, pair_number, pair_of}
use Rattle.run_laws.proofs.Pairs.{pair_number_bound, pair_number_in, pair_number_injective}
use Rattle.run_laws.proofs.Walks.{arrived_in_range}
use Rattle.search_laws.specs.inner.Graph.{Graph, Plain}
use Rattle.search_laws.proofs.Shortness.{Coded}
use Rattle.check_laws.specs.inner.Fates.{fails, arrives, start_node, fate}
use Rattle.check_laws.proofs.FateLaws.{fate_of_pair, arrives_walk, arrived_not_final}

module _ (t : Tables) where
  -- The pair fails at the column, and this is the number of its failure kind.
  abbrev pub FailsAt : ℕ → ℕ → ℕ → Type 0
  FailsAt x column f = (kind : FailureKind) × (fate t x column ≡ fails kind) × (kind_number kind ≡ f)

  -- The graph: the marked starts, the fates of the pairs at each kind of lamp, and their failures at the ends.
  abbrev pub graph : Graph
  graph =
      record {
        kinds = t.kinds;
        end_count = kinds_of_ends t.ends;
        Start = λ s x. (t.start (world_state s) ≡ true) × (x ≡ start_node t s);
        To = λ x c y. fate t x (lamp_column t.ends c) ≡ arrives y;
        Bad = λ x c f. FailsAt x (lamp_column t.ends c) f;
        BadEnd = λ x e f. FailsAt x e f;
      }

  fails_once : (x c f f' : ℕ) → FailsAt x c f → FailsAt x c f' → f ≡ f'
  fails_once x c f f' (kind, e, n) (kind', e', n') = let same : kind ≡ kind' = cc in sym n ∙ ap kind_number same ∙ n'

  -- The number is that of a pair of the tables.
  abbrev pub PairNumber : ℕ → Type 0
  PairNumber x = (p : Pair) × (x ≡ pair_number t.worlds p) × InRange t p

  module _ (wf : WellFormed t) where
    -- The pair at a marked start is a pair of the tables.
    pub start_in_range : (w : WorldState) → t.start w ≡ true → InRange t (pair t.first w)
    start_in_range w marked = record { state_range = wf.formed.first_range; world_range = wf.formed.start_range w marked }

    -- Each start has one pair, which no other start has, and each pair has one fate.
    pub plain : Plain graph
    plain =
        record {
          starts = record {
            start_one = λ s x x' (m, e) (m', e'). e ∙ sym e';
            start_own = λ s s' x (m, e) (m', e').
                let same =
                pair_number_injective t.worlds (pair t.first (world_state s)) (pair t.first (world_state s'))
                (wf.formed.start_range (world_state s) m) (wf.formed.start_range (world_state s') m') (sym e ∙ e') in
                ap (λ (p : Pair). p.world.0) same;
          };
          to_one = λ x c y y' e e'. (cc);
          bad_one = λ x c. fails_once x (lamp_column t.ends c);
          bad_to = λ x c f y (kind, e, n) e'. let z : ◌≡◌ {A = ℕ} 0 1 = cc in omega arith;
        }

    -- An edge leads from a pair of the tables that is not final to a pair of the tables.
    to_arrives :
        (p : Pair) (c y : ℕ) → InRange t p → fate t (pair_number t.worlds p) (lamp_column t.ends c) ≡ arrives y →
        (p.state.0 < t.states) × PairNumber y
    to_arrives p c y range to =
        let v = lamp_walk t p (lamp_column t.ends c) in
        let (p', k, e, n) = arrives_walk t.worlds y v (sym (fate_of_pair t p (lamp_column t.ends c) range) ∙ to) in (
          arrived_not_final t (t.states * t.worlds) p p' (lamp_column t.ends c) k range e,
          (
            p',
            n,
            arrived_in_range t wf (t.states * t.worlds) p p' (lamp_column t.ends c) k (sym e),
          ),
        )

    -- The starts begin at numbers below (S + 1)·W.
    pub start_bound : (s x : ℕ) → graph.Start s x → x < (t.states + 1) * t.worlds
    start_bound s x (m, e) = rw e (pair_number_in t (pair t.first (world_state s)) (start_in_range (world_state s) m))

    -- The edges lead to numbers below (S + 1)·W.
    pub to_bound : (x c y : ℕ) → graph.To x c y → y < (t.states + 1) * t.worlds
    unfolding fate
    to_bound x c y to =
        let p = pair_of t.worlds x in
        let (p', k, e, n) = arrives_walk t.worlds y (lamp_walk t p (lamp_column t.ends c)) to in
        rw n (pair_number_in t p' (arrived_in_range t wf (t.states * t.worlds) p p' (lamp_column t.ends c) k (sym e)))

    -- The starts begin at numbers of pairs of the tables.
    pub start_numbered : (s x : ℕ) → graph.Start s x → PairNumber x
    start_numbered s x (m, e) = (pair t.first (world_state s), e, start_in_range (world_state s) m)

    -- The pairs that have edges have numbers below S·W.
    pub coded : Coded graph PairNumber (λ x. x) (t.states * t.worlds)
    coded =
        record {
          to_in = λ x c y (p, e, range) to. (to_arrives p c y range (rw e at to)).1;
          code_bound = λ x c y (p, e, range) to.
              rw e (pair_number_bound t.states t.worlds p (to_arrives p c y range (rw e at to)).0 range.world_range);
          code_own = λ x c y x' c' y' n to n' to' e. e;
        }
