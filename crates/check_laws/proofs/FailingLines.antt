-- A line fails from a start exactly when it fails in the graph of the tables.
use mathlib.Core.Path.{◌≡◌, refl, sym, ap, ◌∙◌}
use mathlib.Core.List.{List, [], ◌∷◌}
use Prim.Native.Nat.{ℕ, ◌+◌, ◌*◌, ◌<◌}
use native.Mathlib.Omega.{arith}
use Rattle.lamp_line.specs.declared.WorldState.{WorldState}
use Rattle.lamp_line.specs.declared.FailureKind.{FailureKind}
use Rattle.lamp_line.specs.declared.Ending.TheVariants.{Failure}
use Rattle.lamp_line.specs.Tables.{Tables, Line, Fits, world_state, kinds_of_ends, lamp_column, line_of}
use Rattle.lamp_line.specs.inner.WellFormed.{WellFormed}
use Rattle.lamp_line.specs.Endings.{kind_number}
use Rattle.lamp_line.specs.Check.{Fails}
use Rattle.lamp_line.specs.declared.Pair.{Pair}
use Rattle.lamp_line.specs.Run.{pair, Walk, ended, arrived, Run, ran, lamp_walk, along}
use Rattle.lamp_line.specs.Tables.{Beginning}
use Rattle.run_laws.specs.inner.Pairs.{InRange, pair_number}
use Rattle.run_laws.proofs.Walks.{arrived_in_range, arrived_at_lamp}
use Rattle.run_laws.proofs.Runs.{run_after, along_ends, along_passes}
use Rattle.search_laws.specs.inner.Graph.{FailsAlong, bad_end, bad_lamp, goes_on, FailsFrom}
use Rattle.check_laws.specs.inner.Fates.{fate_of}
use Rattle.check_laws.proofs.FateLaws.{kind_number_injective, fate_of_pair, fails_walk, arrives_walk}
use Rattle.check_laws.proofs.TableGraph.{graph, start_in_range}
use Rattle.check_laws.proofs.RunLeads.{leads_run, run_leads}

module _ (t : Tables) (wf : WellFormed t) (end : ℕ) (is_end : end < kinds_of_ends t.ends) where
  abbrev number : Pair → ℕ
  number p = pair_number t.worlds p

  -- The run from a pair along these lamps ends with this failure.
  abbrev AlongFails : FailureKind → List ℕ → Pair → Type 0
  AlongFails kind lamps p = (k : ℕ) × (along t end lamps p ≡ ran (Failure kind) k)

  -- ---- from the run to the graph

  run_fails :
      (kind : FailureKind) (lamps : List ℕ) (p : Pair) → InRange t p → (k : ℕ) → along t end lamps p ≡ ran (Failure kind) k →
      FailsAlong (graph t) (number p) lamps end (kind_number kind)
  run_fails kind [] p range k h = go (lamp_walk t p end) refl
    where
      go : (v : Walk) → lamp_walk t p end ≡ v → FailsAlong (graph t) (number p) [] end (kind_number kind)
      go (ended x n) e =
          let f = along_ends t end [] p x n e in
          let same : ended x n ≡ ended (Failure kind) n = cc in
          bad_end (kind, fate_of_pair t p end range ∙ ap (fate_of t.worlds) (e ∙ same), refl)
      go (arrived p' n) e =
          let lamp = arrived_at_lamp t wf (t.states * t.worlds) p p' (line_of end []) n is_end (sym e) in
          absurd (omega arith)
  run_fails kind (c ∷ lamps) p range k h =
      go (λ p' range' (m, g). run_fails kind lamps p' range' m g) (lamp_walk t p (lamp_column t.ends c)) refl
    where
      go :
          ((p' : Pair) → InRange t p' → AlongFails kind lamps p' → FailsAlong (graph t) (number p') lamps end (kind_number kind)) →
          (v : Walk) → lamp_walk t p (lamp_column t.ends c) ≡ v → FailsAlong (graph t) (number p) (c ∷ lamps) end (kind_number kind)
      go after (ended x n) e =
          let f = along_ends t end (c ∷ lamps) p x n e in
          let same : ended x n ≡ ended (Failure kind) n = cc in
          bad_lamp (kind, fate_of_pair t p (lamp_column t.ends c) range ∙ ap (fate_of t.worlds) (e ∙ same), refl)
      go after (arrived p' n) e =
          goes_on (fate_of_pair t p (lamp_column t.ends c) range ∙ ap (fate_of t.worlds) e)
          (after p' (arrived_in_range t wf (t.states * t.worlds) p p' (lamp_column t.ends c) n (sym e))
          (later (along t end lamps p') refl))
        where
          later : (r : Run) → along t end lamps p' ≡ r → AlongFails kind lamps p'
          later (ran x m) f = let g = along_passes t end c lamps p p' n e in let q = rw f at g in (m, cc)

  -- ---- from the graph to the run

  abbrev FailsSo : ℕ → List ℕ → Pair → Type 0
  FailsSo f lamps p = (kind : FailureKind) × (kind_number kind ≡ f) × AlongFails kind lamps p

  fails_run :
      {x f : ℕ} {lamps : List ℕ} → FailsAlong (graph t) x lamps end f → (p : Pair) → x ≡ number p → InRange t p → FailsSo f lamps p
  fails_run (bad_end (kind, e, n)) p q range =
      let (k, w) = fails_walk t.worlds kind (lamp_walk t p end) (sym (fate_of_pair t p end range) ∙ (rw q at e)) in
      (kind, n, (k, along_ends t end [] p (Failure kind) k w))
  fails_run (bad_lamp {c = c} {l = lamps} (kind, e, n)) p q range =
      let v = lamp_walk t p (lamp_column t.ends c) in
      let (k, w) = fails_walk t.worlds kind v (sym (fate_of_pair t p (lamp_column t.ends c) range) ∙ (rw q at e)) in
      (kind, n, (k, along_ends t end (c ∷ lamps) p (Failure kind) k w))
  fails_run {f = f} (goes_on {c = c} {y = y} {l = lamps} e d) p q range =
      go (λ p' m range'. fails_run d p' m range')
      (arrives_walk t.worlds y (lamp_walk t p (lamp_column t.ends c)) (sym (fate_of_pair t p (lamp_column t.ends c) range) ∙ (rw q at e)))
    where
      earlier : (p' : Pair) (n : ℕ) → lamp_walk t p (lamp_column t.ends c) ≡ arrived p' n → FailsSo f lamps p' → FailsSo f (c ∷ lamps) p
      earlier p' n w (kind, is, (k, g)) = (kind, is, (n + k, along_passes t end c lamps p p' n w ∙ ap (run_after n) g))

      go :
          ((p' : Pair) → y ≡ number p' → InRange t p' → FailsSo f lamps p') →
          (p' : Pair) × (n : ℕ) × (lamp_walk t p (lamp_column t.ends c) ≡ arrived p' n) × (y ≡ number p') → FailsSo f (c ∷ lamps) p
      go after (p', n, w, m) =
          earlier p' n w (after p' m (arrived_in_range t wf (t.states * t.worlds) p p' (lamp_column t.ends c) n (sym w)))

module _ (t : Tables) (wf : WellFormed t) where
  -- A failing line fails in the graph.
  pub fails_in_graph :
      (kind : FailureKind) (start : WorldState) (line : Line) → Fails t kind start line →
      FailsFrom (graph t) start.0 line.lamps line.end (kind_number kind)
  fails_in_graph kind start line d =
      record {
        first = pair_number t.worlds (pair t.first start);
        start = (d.beginning.marked, refl);
        of_kinds = d.beginning.fits.of_kinds;
        ended = d.beginning.fits.ended;
        fails =
            let (k, e) = leads_run t wf start line d.beginning (Failure kind) d.leads in
            let range = start_in_range t wf start d.beginning.marked in
            run_fails t wf line.end d.beginning.fits.ended kind line.lamps (pair t.first start) range k e;
      }

  -- What fails in the graph with the number of a failure kind is a line that fails with this kind.
  pub graph_fails :
      (kind : FailureKind) (s end : ℕ) (lamps : List ℕ) → FailsFrom (graph t) s lamps end (kind_number kind) →
      Fails t kind (world_state s) (line_of end lamps)
  graph_fails kind s end lamps d =
      let (marked, first) = d.start in
      let fits : Fits t (line_of end lamps) = record { of_kinds = d.of_kinds; ended = d.ended } in
      let beginning : Beginning t (world_state s) (line_of end lamps) = record { marked = marked; fits = fits } in
      let p = pair t.first (world_state s) in
      let (kind', n, along) = fails_run t wf end d.ended d.fails p first (start_in_range t wf (world_state s) marked) in
      let same : kind' ≡ kind = kind_number_injective kind' kind n in
      record {
        beginning = beginning;
        leads = run_leads t wf (world_state s) (line_of end lamps) beginning (Failure kind) (rw same at along);
      }
