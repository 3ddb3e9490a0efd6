-- What the run says is true of the execution. The proof follows the execution from its beginning: it has reached a lamp by some
-- steps, and what the walk at this lamp says about it is added to them.
use mathlib.Core.Path.{◌≡◌, refl, sym, subst}
use mathlib.Core.Logic.{inl, inr}
use mathlib.Core.List.{List, [], ◌∷◌, ◌++◌}
use Prim.Native.Nat.{ℕ, ◌+◌, ◌*◌}
use native.Mathlib.Nat.{zero-add}
use native.Mathlib.Omega.{arith}
use lib.ListN.{length, length-append}
use Rattle.plans.specs.Execution.{Label, here, join, step}
use Rattle.lamp_line.specs.declared.WorldState.{WorldState}
use Rattle.lamp_line.specs.declared.FailureKind.TheVariants.{NotLegal, NoBranch, Circles, GoalFalse}
use Rattle.lamp_line.specs.declared.Ending.{Ending}
use Rattle.lamp_line.specs.declared.Ending.TheVariants.{Goal, Failure}
use Rattle.lamp_line.specs.Tables.{Tables, Line, lamp_column, line_of}
use Rattle.lamp_line.specs.inner.WellFormed.{WellFormed}
use Rattle.lamp_line.specs.Endings.{Ends}
use Rattle.lamp_line.specs.Check.{situation, Arrival}
use Rattle.lamp_line.specs.declared.Pair.{Pair}
use Rattle.lamp_line.specs.Run.{pair, Walk, ended, arrived, Run, ran, lamp_walk, along, run}
use Rattle.lamp_line.specs.Tables.{Beginning}
use Rattle.lamp_line.specs.Executions.{Execution, RestsAfter, Comes}
use Rattle.run_laws.specs.inner.Pairs.{InRange}
use Rattle.run_laws.proofs.Steps.{execution_in_range}
use Rattle.run_laws.proofs.Walks.{WalkMeans, rests, lingers, Arrives, arrives, walk_means, arrived_at_lamp}
use Rattle.run_laws.proofs.Circling.{lingers_forever, lingers_passes_none}
use Rattle.run_laws.proofs.Runs.{run_after, along_ends, along_passes}

module _ (t : Tables) (wf : WellFormed t) (start : WorldState) (line : Line) (of : Beginning t start line) where
  -- The rest of the line, by its lamps.
  abbrev rest : List ℕ → Line
  rest lamps = line_of line.end lamps

  rests_comes : (x : Ending) (k : ℕ) → RestsAfter t x k start line → Comes t x k start line
  unfolding Comes Ends
  rests_comes Goal k r = r
  rests_comes (Failure NotLegal) k r = r
  rests_comes (Failure NoBranch) k r = r
  rests_comes (Failure Circles) k r = absurd r.ends
  rests_comes (Failure GoalFalse) k r = r

  -- After n steps, the ending and the count of a run are true of the execution.
  abbrev RunComes : ℕ → Run → Type 0
  RunComes n (ran x k) = Comes t x (n + k) start line

  comes_after : (r : Run) (m n k : ℕ) → m ≡ n + k → RunComes m r → RunComes n (run_after k r)
  comes_after (ran x j) m n k e h = let f : n + (k + j) ≡ m + j = omega arith in rw f h

  -- The execution has arrived by the steps ls with the pair p, at the first of these lamps or at the line's end.
  record Comes_to (p : Pair) (lamps : List ℕ) (ls : List Label) : Type 0 where
    pub execution : Execution t start line ls p.state (situation p.world (rest lamps))
    pub arrival : Arrival t ls

  module _ (p : Pair) (lamps : List ℕ) (ls : List Label) (came : Comes_to p lamps ls) where
    range : InRange t p
    range =
        execution_in_range t wf came.execution
        (record { state_range = wf.formed.first_range; world_range = wf.formed.start_range start of.marked })

    -- The walk at this lamp ends the run.
    ended_comes :
        (x : Ending) (k : ℕ) → WalkMeans t (rest lamps) (t.states * t.worlds) p (ended x k) →
        Comes t x (length ls + k) start line
    ended_comes x k (rests r) =
        rests_comes x (length ls + k) (record {
          labels = ls ++ r.labels;
          state = r.last.state;
          at = situation r.last.world (rest lamps);
          execution = join came.execution r.execution;
          ends = r.ends;
          count = omega (arith, length-append ls r.labels, r.count);
        })
    ended_comes x k (lingers r) = unfold Comes in
        record {
          labels = ls;
          state = p.state;
          at = situation p.world (rest lamps);
          execution = came.execution;
          arrives = came.arrival;
          passes_none = lingers_passes_none t wf (rest lamps) p range r;
          forever = lingers_forever t wf (rest lamps) p range r;
          count = refl;
        }

  -- The walk passes the lamp, and arrives with p'.
  module _
      (p p' : Pair) (kind k : ℕ) (lamps : List ℕ) (ls : List Label) (came : Comes_to p (kind ∷ lamps) ls)
      (a : Arrives t p (rest (kind ∷ lamps)) p' k) where
    -- The execution has arrived at the lamps after it.
    passed_to : Comes_to p' lamps ((ls ++ a.labels) ++ (a.label ∷ []))
    passed_to =
        record {
          execution = join (join came.execution a.staying) (step a.passing);
          arrival = inr (ls ++ a.labels, a.label, refl, a.moved_on);
        }

    passed_count : length ((ls ++ a.labels) ++ (a.label ∷ [])) ≡ length ls + k
    passed_count = omega (arith, length-append (ls ++ a.labels) (a.label ∷ []), length-append ls a.labels, a.count)

  -- What the run says from there on is true of the execution.
  along_comes :
      (lamps : List ℕ) (p : Pair) (ls : List Label) → Comes_to p lamps ls → RunComes (length ls) (along t line.end lamps p)
  along_comes [] p ls came = go (lamp_walk t p line.end) refl (walk_means t (t.states * t.worlds) p (rest []))
    where
      go :
          (v : Walk) → lamp_walk t p line.end ≡ v → WalkMeans t (rest []) (t.states * t.worlds) p v →
          RunComes (length ls) (along t line.end [] p)
      go (ended x k) e m = rw (along_ends t line.end [] p x k e) (ended_comes p [] ls came x k m)
      go (arrived p' k) e m =
          let h = arrived_at_lamp t wf (t.states * t.worlds) p p' (rest []) k of.fits.ended (sym e) in
          absurd (omega arith)
  along_comes (kind ∷ lamps) p ls came =
      go (along_comes lamps) (lamp_walk t p (lamp_column t.ends kind)) refl
      (walk_means t (t.states * t.worlds) p (rest (kind ∷ lamps)))
    where
      go :
          ((p' : Pair) (ms : List Label) → Comes_to p' lamps ms → RunComes (length ms) (along t line.end lamps p')) →
          (v : Walk) → lamp_walk t p (lamp_column t.ends kind) ≡ v → WalkMeans t (rest (kind ∷ lamps)) (t.states * t.worlds) p v →
          RunComes (length ls) (along t line.end (kind ∷ lamps) p)
      go after (ended x k) e m =
          rw (along_ends t line.end (kind ∷ lamps) p x k e) (ended_comes p (kind ∷ lamps) ls came x k m)
      go after (arrived p' k) e (arrives a) =
          let ms = (ls ++ a.labels) ++ (a.label ∷ []) in
          rw (along_passes t line.end kind lamps p p' k e)
          (comes_after (along t line.end lamps p') (length ms) (length ls) k (passed_count p p' kind k lamps ls came a)
          (after p' ms (passed_to p p' kind k lamps ls came a)))

  -- The ending and the count that the run answers are true of the execution.
  pub run_comes : (x : Ending) (k : ℕ) → run t start line ≡ ran x k → Comes t x k start line
  run_comes x k e =
      let begins : Comes_to (pair t.first start) line.lamps [] = record { execution = here; arrival = inl refl } in
      let h = along_comes line.lamps (pair t.first start) [] begins in
      rw zero-add at (subst (RunComes 0) e h)
