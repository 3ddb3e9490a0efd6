-- The answer of the search function is right: its loops keep the invariant of the search, by the law for the members of one line.
use mathlib.Core.Path.{◌≡◌, refl, subst}
use mathlib.Core.List.{List, []}
use Prim.Native.Nat.{ℕ, zero, suc, ◌+◌, ◌*◌, ◌-◌, ◌≤◌, ◌<◌}
use native.Mathlib.Decide.{dec_lt}
use native.Mathlib.Omega.{arith}
use borrow.Author.Tests.{lt-ltb, le-ltb}
use lib.ListN.{length}
use Rattle.lamp_line.specs.declared.WorldState.{WorldState}
use Rattle.lamp_line.specs.declared.FailureKind.{FailureKind}
use Rattle.lamp_line.specs.Tables.{Tables, Line, world_state}
use Rattle.lamp_line.specs.inner.WellFormed.{WellFormed}
use Rattle.lamp_line.specs.Check.{failed, Counterexample, Right}
use Rattle.search_laws.specs.inner.Entries.{Entry, group_end}
use Rattle.search_laws.proofs.Graph.{reach_below}
use Rattle.search_laws.proofs.Room.{entries_fit}
use Rattle.search_laws.proofs.Turns.{At, Sweep, sweep_begins, sweep_done, next_group}
use Rattle.search_laws.proofs.Starts.{none_taken, starts_done}
use Rattle.check_laws.specs.inner.Fates.{start_node}
use Rattle.check_laws.specs.inner.Search.{Turn, answers, goes_on, and_then, conclusion, line_tried, kinds_from, groups_from, verdict_of}
use Rattle.check_laws.proofs.TableGraph.{graph, start_bound, to_bound}
use Rattle.check_laws.proofs.RightAnswers.{table_right}
use Rattle.check_laws.proofs.SearchParts.{Owes, and_then_lem}
use Rattle.check_laws.proofs.TableTurns.{Stage, members_right}

module _ (t : Tables) where
  -- Where the line has a lamp, its members are entries.
  lamp_stage : {E : List Entry} {a b m n : ℕ} (k : ℕ) → 1 ≤ k → Sweep (graph t) E a b k m n → Stage t E a b k m n
  lamp_stage zero lamp sweep = absurd (omega arith)
  lamp_stage (suc k) lamp sweep = sweep

  stage_lamp : {E : List Entry} {a b m n : ℕ} (k : ℕ) → 1 ≤ k → Stage t E a b k m n → Sweep (graph t) E a b k m n
  stage_lamp zero lamp stage = absurd (omega arith)
  stage_lamp (suc k) lamp sweep = sweep

  -- All groups were tried with all kinds.
  abbrev Through : List Entry → Type 0
  Through E = (a b : ℕ) × At (graph t) E a b (t.kinds + 1) × (length E ≤ b)

  -- The loop over the groups is at the entry a, or has passed the last one.
  data Stands (E : List Entry) (a : ℕ) : Type 0 where
    at_group : a < length E → At (graph t) E a (group_end E a) 1 → Stands E a
    after_last : length E ≤ a → Through E → Stands E a

  module _ (wf : WellFormed t) where
    -- ---- one group

    -- The kinds from k on.
    kinds_right :
        (n : ℕ) (E : List Entry) (a b k : ℕ) → At (graph t) E a b k → 1 ≤ k → k + n ≡ t.kinds + 1 →
        Owes (Right t) (λ E'. At (graph t) E' a b (t.kinds + 1)) (kinds_from t n E a b k)
    unfolding kinds_from
    kinds_right zero E a b k at low e = let done : k ≡ t.kinds + 1 = omega arith in subst (At (graph t) E a b) done at
    kinds_right (suc n) E a b k at low e =
        and_then_lem (Right t) (λ E'. Stage t E' a b k b (length E)) (λ E'. At (graph t) E' a b (t.kinds + 1))
        (line_tried t E a b k) (λ E'. kinds_from t n E' a b (k + 1))
        (members_right t wf (b - a) E a b k a (length E) (lamp_stage k low (sweep_begins at)) (omega arith) (omega (arith, at.inv.a<b)))
        (λ E' stage. kinds_right n E' a b (k + 1) (sweep_done (stage_lamp k low stage)) (omega arith) (omega arith))

    -- All kinds were tried: the next group comes, or there is none.
    next_stands : (E : List Entry) (a b : ℕ) → At (graph t) E a b (t.kinds + 1) → Stands E b
    next_stands E a b at = go (dec_lt b (length E))
      where
        go : Dec (b < length E) → Stands E b
        go (yes l) = at_group l (next_group at l)
        go (no l) = after_last (omega arith) (a, b, at, omega arith)

    -- ---- the groups

    -- There are no more entries than pairs.
    entries_few : {E : List Entry} {a b k : ℕ} → At (graph t) E a b k → length E ≤ (t.states + 1) * t.worlds
    entries_few {E} at =
        entries_fit E ((t.states + 1) * t.worlds) at.inv.distinct (λ i l.
        reach_below (graph t) ((t.states + 1) * t.worlds) (start_bound t wf) (to_bound t wf) (at.inv.real i l))

    -- The groups from the entry a on.
    groups_right :
        (n : ℕ) (E : List Entry) (a : ℕ) → Stands E a → (t.states + 1) * t.worlds ≤ a + n → Owes (Right t) Through (groups_from t n E a)
    unfolding groups_from
    groups_right zero E a (at_group l at) fuel = absurd (omega (arith, entries_few at))
    groups_right zero E a (after_last l through) fuel = through
    groups_right (suc n) E a (at_group l at) fuel =
        rw (lt-ltb a (length E) l, Owes)
        (and_then_lem (Right t) (λ E'. At (graph t) E' a (group_end E a) (t.kinds + 1)) Through
        (kinds_from t t.kinds E a (group_end E a) 1) (λ E'. groups_from t n E' (group_end E a))
        (kinds_right t.kinds E a (group_end E a) 1 at (omega arith) (omega arith))
        (λ E' at'. groups_right n E' (group_end E a) (next_stands E' a (group_end E a) at') (omega (arith, at.inv.a<b))))
    groups_right (suc n) E a (after_last l through) fuel = rw (le-ltb a (length E) l, Owes) through

    -- If all groups were tried, the conclusion is right.
    conclusion_right : (r : Turn) → Owes (Right t) Through r → Right t (conclusion r)
    unfolding Right
    conclusion_right (answers v) h = h
    conclusion_right (goes_on E) (a, b, at, end) = table_right t wf at end

    -- All starts are taken, and there is one: their group is tried with the first kind.
    starts_stand : (E : List Entry) → Stage t E 0 t.worlds 0 t.worlds 0 → Stands E 0
    starts_stand E (taken, is_b, is_n) =
        let (w, marked) = wf.formed.some_start in
        let known = taken.roots w.0 (start_node t w.0) (wf.formed.start_range w marked) (marked, refl) in
        let some : 0 < length E = omega (arith, known.there) in
        at_group some (starts_done taken some (λ s x (m, e). wf.formed.start_range (world_state s) m))

    -- The answer of the search is right.
    pub verdict_right : Right t (verdict_of t)
    unfolding verdict_of
    verdict_right =
        conclusion_right
        (and_then (line_tried t [] 0 t.worlds 0) (λ E. groups_from t ((t.states + 1) * t.worlds) E 0))
        (and_then_lem (Right t) (λ E. Stage t E 0 t.worlds 0 t.worlds 0) Through (line_tried t [] 0 t.worlds 0)
        (λ E. groups_from t ((t.states + 1) * t.worlds) E 0)
        (members_right t wf (t.worlds - 0) [] 0 t.worlds 0 0 0 (none_taken (graph t), refl, refl) (omega arith) (omega arith))
        (λ E stage. groups_right ((t.states + 1) * t.worlds) E 0 (starts_stand E stage) (omega arith)))

    -- ---- a failing answer

    module _ {kind : FailureKind} {s : WorldState} {line : Line} (e : verdict_of t ≡ failed kind s line) where
      -- The answer is the counterexample.
      counterexample : Counterexample t kind s line
      unfolding Right
      counterexample = subst (Right t) e verdict_right

      -- Its line has at most S·W + 1 lamps.
      pub failing_short : length line.lamps ≤ t.states * t.worlds + 1
      failing_short = counterexample.short
