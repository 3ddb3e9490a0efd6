-- The turns of the search over the tables of a job: a line is tried from one member after the other. This keeps the invariant, or the
-- answer is the counterexample of the check.
use mathlib.Core.Path.{◌≡◌, refl, sym, ap, subst, ◌∙◌}
use mathlib.Core.Logic.{◌≢◌, ◌⊎◌, inl, inr, ⊎_elim, ◌↔◌}
use mathlib.Core.Bool.{Bool, true, false, cond}
use mathlib.Core.List.{List, [], ◌∷◌}
use Prim.Native.Nat.{ℕ, zero, suc, ◌+◌, ◌≤◌, ◌<◌}
use native.Mathlib.Decide.{dec_lt}
use native.Mathlib.Omega.{arith}
use borrow.Author.Tests.{ltb-true, ltb-false, ne_eqb}
use lib.Dec.{eqb, ltb}
use lib.ListN.{length}
use Rattle.lamp_line.specs.declared.FailureKind.{FailureKind}
use Rattle.lamp_line.specs.Tables.{Tables, world_state, kinds_of_ends, lamp_column}
use Rattle.lamp_line.specs.inner.WellFormed.{WellFormed}
use Rattle.lamp_line.specs.Endings.{kind_number}
use Rattle.lamp_line.specs.Check.{Verdict, Right}
use Rattle.run_laws.proofs.Columns.{some_end}
use Rattle.search_laws.specs.inner.Graph.{Kind, FailsAlong, bad_end, bad_lamp, goes_on as along}
use Rattle.search_laws.specs.inner.Entries.{Entry, node, grown}
use Rattle.search_laws.proofs.Grown.{below_or_last}
use Rattle.search_laws.proofs.FirstFailure.{Lowest, First, first_alone, first_stays, first_kept, first_lower}
use Rattle.search_laws.proofs.GroupKind.{FailsNext}
use Rattle.search_laws.proofs.Starts.{StartsTaken, FailsEmpty, skip_start, start_new, take_start, empty_least}
use Rattle.search_laws.proofs.Turns.{Sweep, sweep_least, sweep_on, sweep_adds}
use Rattle.check_laws.specs.inner.Fates.{NodeFate, succeeds, fails, arrives, AtEnds, good, bad, start_node, fate, at_ends}
use Rattle.check_laws.specs.inner.Search.{Turn, answers, Trial, fails_at, quiet, finds, met, visited, visit, at_start, at_lamp, tried}
use Rattle.check_laws.specs.inner.Search.{line_entry, failing, lowest_from, members_from}
use Rattle.check_laws.proofs.SearchParts.{Owes}
use Rattle.check_laws.proofs.TableGraph.{graph, FailsAt, plain}
use Rattle.check_laws.proofs.RightAnswers.{least_right}
use Rattle.check_laws.proofs.MetPairs.{met_true, met_false}
use Rattle.check_laws.proofs.Ends.{GoodAtEnds, BadAtEnd, EndsSay, ends_say}

module _ (t : Tables) where
  -- ---- one line from one member

  -- The member i fails on the line that is tried from it, with the end e: a start on the empty line, or an entry at one more lamp.
  abbrev pub MemberFails : List Entry → ℕ → ℕ → ℕ → ℕ → Type 0
  MemberFails E zero s e f = FailsEmpty (graph t) s e f
  MemberFails E (suc k) i e f = FailsNext (graph t) E (suc k) i e f

  -- The line with the members from a to b is being tried: those before m were tried, and do not fail. With kind 0 they are starts; the
  -- table had no entry before the line was tried.
  abbrev pub Stage : List Entry → ℕ → ℕ → ℕ → ℕ → ℕ → Type 0
  Stage E a b zero m n = StartsTaken (graph t) E m × (b ≡ t.worlds) × (n ≡ 0)
  Stage E a b (suc k) m n = Sweep (graph t) E a b (suc k) m n

  -- No entry of the table has the pair y.
  abbrev New : List Entry → ℕ → Type 0
  New E y = (i : ℕ) → i < length E → node E i ≢ y

  -- No entry of the table fails at an end.
  abbrev EndsGood : List Entry → Type 0
  EndsGood E = (i e f : ℕ) → i < length E → e < kinds_of_ends t.ends → ¬ (FailsAt t (node E i) e f)

  -- What the trial says where the line reaches its end with the pair y: the pair is in the table; or it is new and fails at no end; or it is
  -- new and fails at some end.
  data AtEnd (E : List Entry) (y : ℕ) : Trial → Type 0 where
    known : (j : ℕ) → j < length E → node E j ≡ y → AtEnd E y quiet
    new : New E y → GoodAtEnds t y → AtEnd E y (finds y)
    fails_there : {e : ℕ} {kind : FailureKind} → New E y → BadAtEnd t y e kind → AtEnd E y (fails_at kind e)

  at_end_lem : (E : List Entry) (y : ℕ) → AtEnd E y (visit t E y)
  at_end_lem E y = go (met E y) refl (at_ends t y) (ends_say t y)
    where
      go : (b : Bool) → met E y ≡ b → (ends : AtEnds) → EndsSay t y ends → AtEnd E y (visited y b ends)
      go true m ends say = let (j, l, is) = met_true E y m in known j l is
      go false m good say = new (met_false E y m) say
      go false m (bad e kind) say = fails_there (met_false E y m) say

  -- A pair of the table fails at no end.
  known_good : (E : List Entry) (y j : ℕ) → EndsGood E → j < length E → node E j ≡ y → GoodAtEnds t y
  known_good E y j ends l is e f le h = ends j e f l le (subst (λ (x : ℕ). FailsAt t x e f) (sym is) h)

  -- The failure at the lowest end is the lowest.
  lowest_at_end :
      (y e e' f' : ℕ) (kind : FailureKind) → BadAtEnd t y e kind → FailsAt t y e' f' → (e < e') ⊎ ((e ≡ e') × (kind_number kind ≤ f'))
  lowest_at_end y e e' f' kind b (kind', g, n) = go (dec_lt e e') (dec_lt e' e)
    where
      go : Dec (e < e') → Dec (e' < e) → (e < e') ⊎ ((e ≡ e') × (kind_number kind ≤ f'))
      go (yes u) v = inl u
      go (no u) (yes v) = absurd (b.lowest e' f' v (kind', g, n))
      go (no u) (no v) =
          let same : e ≡ e' = omega arith in
          let there : fate t y e ≡ fails kind' = ap (fate t y) same ∙ g in
          let first = b.fate_is in
          let same_kind : kind ≡ kind' = cc in
          let same_number : kind_number kind ≡ f' = ap kind_number same_kind ∙ n in
          inr (same, omega arith)

  module _ (wf : WellFormed t) where
    -- ---- what a trial says of its member

    -- The trial says whether the member fails, and which of its failures is the lowest.
    abbrev FailsSo : List Entry → ℕ → ℕ → Trial → Type 0
    FailsSo E k i (fails_at kind e) = Lowest (MemberFails E k) i e (kind_number kind)
    FailsSo E k i quiet = (e f : ℕ) → ¬ (MemberFails E k i e f)
    FailsSo E k i (finds y) = (e f : ℕ) → ¬ (MemberFails E k i e f)

    -- If a member fails exactly where the pair y does at an end, the trial of y says so.
    ends_so :
        (E : List Entry) (k i y : ℕ) → EndsGood E → ((e f : ℕ) → MemberFails E k i e f ↔ ((e < kinds_of_ends t.ends) × FailsAt t y e f)) →
        FailsSo E k i (visit t E y)
    ends_so E k i y ends_good iff = go (visit t E y) (at_end_lem E y)
      where
        go : (r : Trial) → AtEnd E y r → FailsSo E k i r
        go _ (known j l is) = λ e f h. let (le, d) = (iff e f).0 h in known_good E y j ends_good l is e f le d
        go _ (new fresh ends) = λ e f h. let (le, d) = (iff e f).0 h in ends e f le d
        go _ (fails_there {e = e} {kind = kind} fresh b) =
            record {
              fails = (iff e (kind_number kind)).1 (b.is_end, (kind, b.fate_is, refl));
              lowest = λ e' f' h. lowest_at_end y e e' f' kind b ((iff e' f').0 h).1;
            }

    -- A start, on the empty line.
    start_so :
        (E : List Entry) (s : ℕ) → EndsGood E → (marked : Bool) → t.start (world_state s) ≡ marked → FailsSo E zero s (at_start t E s marked)
    start_so E s ends_good false e =
        λ e' f (le, (x, (m, is), h)). let z : ◌≡◌ {A = ℕ} 0 1 = cc in omega arith
    start_so E s ends_good true e =
        ends_so E zero s (start_node t s) ends_good (λ e' f. (
          λ (le, (x, (m, is), h)). (le, subst (λ (y : ℕ). FailsAt t y e' f) is h),
          λ (le, h). (le, (start_node t s, (e, refl), h)),
        ))

    -- If an entry leads to the pair y, it fails only where y does at an end.
    only_ends :
        (x c y e f : ℕ) → fate t x (lamp_column t.ends c) ≡ arrives y → FailsAlong (graph t) x (c ∷ []) e f → FailsAt t y e f
    only_ends x c y e f to (bad_lamp h) = absurd ((plain t wf).bad_to x c f y h to)
    only_ends x c y e f to (along {y = y'} to' (bad_end h)) =
        subst (λ (z : ℕ). FailsAt t z e f) ((plain t wf).to_one x c y' y to' to) h

    -- An entry, at one more lamp.
    lamp_so :
        (E : List Entry) (c i : ℕ) → EndsGood E → (v : NodeFate) → fate t (node E i) (lamp_column t.ends (suc c)) ≡ v →
        FailsSo E (suc c) i (at_lamp t E v)
    lamp_so E c i ends_good succeeds e = λ e' f (le, d). none d
      where
        none : {e' f : ℕ} → ¬ (FailsAlong (graph t) (node E i) (suc c ∷ []) e' f)
        none (bad_lamp (kind, g, n)) = let z : ◌≡◌ {A = ℕ} 0 1 = cc in omega arith
        none (along to d) = let z : ◌≡◌ {A = ℕ} 0 1 = cc in omega arith
    lamp_so E c i ends_good (fails kind) e =
        record { fails = (some_end t, bad_lamp (kind, e, refl)); lowest = λ e' f' (le, d). own d }
      where
        own : {e' f' : ℕ} → FailsAlong (graph t) (node E i) (suc c ∷ []) e' f' → (0 < e') ⊎ ((0 ≡ e') × (kind_number kind ≤ f'))
        own {e'} {f'} (bad_lamp h) =
            ⊎_elim (λ u. inl u)
            (λ u. inr (u, omega (arith, (plain t wf).bad_one (node E i) (suc c) (kind_number kind) f' (kind, e, refl) h))) (below_or_last 0 e' (omega arith))
        own (along to d) = absurd (let z : ◌≡◌ {A = ℕ} 0 1 = cc in omega arith)
    lamp_so E c i ends_good (arrives y) e =
        ends_so E (suc c) i y ends_good (λ e' f. (
          λ (le, d). (le, only_ends (node E i) (suc c) y e' f e d),
          λ (le, h). (le, along e (bad_end h)),
        ))

    -- Any member of a line.
    member_so : (E : List Entry) (k i : ℕ) → EndsGood E → FailsSo E k i (tried t E i k)
    unfolding tried
    member_so E zero s ends_good = start_so E s ends_good (t.start (world_state s)) refl
    member_so E (suc c) i ends_good = lamp_so E c i ends_good (fate t (node E i) (lamp_column t.ends (suc c))) refl

    -- ---- what is known after a trial

    stage_ends : (E : List Entry) (a b k m n : ℕ) → Stage E a b k m n → EndsGood E
    stage_ends E a b zero m n (taken, is_b, is_n) = taken.ends_good
    stage_ends E a b (suc k) m n sweep = sweep.inv.ends_good

    -- The next member is tried with the table that the trial leaves, unless this one fails.
    abbrev Leaves : List Entry → ℕ → ℕ → ℕ → ℕ → ℕ → Trial → Type 0
    Leaves E a b k m n (fails_at kind e) = Unit {0}
    Leaves E a b k m n quiet = Stage E a b k (m + 1) n
    Leaves E a b k m n (finds y) = Stage (grown E (line_entry n E m k y)) a b k (m + 1) n

    start_leaves :
        (E : List Entry) (a b s n : ℕ) → Stage E a b zero s n → (marked : Bool) → t.start (world_state s) ≡ marked →
        Leaves E a b zero s n (at_start t E s marked)
    start_leaves E a b s n (taken, is_b, is_n) false e =
        (skip_start taken (λ x (m, is). let z : ◌≡◌ {A = ℕ} 0 1 = cc in omega arith), is_b, is_n)
    start_leaves E a b s n (taken, is_b, is_n) true e = go (visit t E (start_node t s)) (at_end_lem E (start_node t s))
      where
        go : (r : Trial) → AtEnd E (start_node t s) r → Leaves E a b zero s n r
        go _ (known j l is) = absurd (start_new taken (plain t wf).starts (start_node t s) (e, refl) j l is)
        go _ (new fresh ends) = (
          take_start taken (plain t wf).starts (start_node t s) (e, refl) ends (eqb (length E) n) (λ some. ne_eqb (length E) n (λ same. omega arith)),
          is_b,
          is_n,
        )
        go _ (fails_there fresh b) = tt

    lamp_leaves :
        (E : List Entry) (a b c m n : ℕ) → Sweep (graph t) E a b (suc c) m n → m < b → Kind t.kinds (suc c) →
        (v : NodeFate) → fate t (node E m) (lamp_column t.ends (suc c)) ≡ v → Leaves E a b (suc c) m n (at_lamp t E v)
    lamp_leaves E a b c m n sweep here kind_in succeeds e =
        sweep_on sweep here (λ f (kind, g, num). let z : ◌≡◌ {A = ℕ} 0 1 = cc in omega arith)
        (λ y to. absurd (let z : ◌≡◌ {A = ℕ} 0 1 = cc in omega arith))
    lamp_leaves E a b c m n sweep here kind_in (fails kind) e = tt
    lamp_leaves E a b c m n sweep here kind_in (arrives y) e = go (visit t E y) (at_end_lem E y)
      where
        lamp_good : (f : ℕ) → ¬ (FailsAt t (node E m) (lamp_column t.ends (suc c)) f)
        lamp_good f h = (plain t wf).bad_to (node E m) (suc c) f y h e

        go : (r : Trial) → AtEnd E y r → Leaves E a b (suc c) m n r
        go _ (known j l is) = sweep_on sweep here lamp_good (λ y' to. (j, l, is ∙ (plain t wf).to_one (node E m) (suc c) y y' e to))
        go _ (new fresh ends) = sweep_adds sweep here lamp_good (plain t wf) kind_in y fresh e ends
        go _ (fails_there fresh b) = tt

    member_leaves :
        (E : List Entry) (a b k m n : ℕ) → Stage E a b k m n → m < b → k ≤ t.kinds → Leaves E a b k m n (tried t E m k)
    unfolding tried
    member_leaves E a b zero s n stage here le = start_leaves E a b s n stage (t.start (world_state s)) refl
    member_leaves E a b (suc c) m n sweep here le =
        lamp_leaves E a b c m n sweep here (record { low = omega arith; high = le }) (fate t (node E m) (lamp_column t.ends (suc c))) refl

    -- ---- a line from all its members

    -- The first failure of the members that were not tried is the counterexample.
    first_right :
        (E : List Entry) (a b k m n w e : ℕ) (kind : FailureKind) → Stage E a b k m n → k ≤ t.kinds →
        First (MemberFails E k) m b w e (kind_number kind) → Right t (failing E k kind w e)
    unfolding Right
    first_right E a b zero m n w e kind (taken, is_b, is_n) le first =
        least_right t wf kind w e []
        (empty_least taken (λ s x (marked, is). subst (λ (i : ℕ). s < i) (sym is_b) (wf.formed.start_range (world_state s) marked)) first)
    first_right E a b (suc k) m n w e kind sweep le first =
        least_right t wf kind _ e _ (sweep_least sweep (record { low = omega arith; high = le }) first)

    -- The members that are left are tried for a failure at a lower end.
    lowest_right :
        (i : ℕ) (E : List Entry) (a b k m n to w e : ℕ) (kind : FailureKind) → Stage E a b k m n → k ≤ t.kinds → to + i ≡ b →
        First (MemberFails E k) m to w e (kind_number kind) → Right t (lowest_from t i E to k kind w e)
    unfolding lowest_from
    lowest_right zero E a b k m n to w e kind stage le end first =
        let all : to ≡ b = omega arith in first_right E a b k m n w e kind stage le (rw all at first)
    lowest_right (suc i) E a b k m n to w e kind stage le end first =
        go (λ w e kind first. lowest_right i E a b k m n (to + 1) w e kind stage le (omega arith) first)
        (tried t E to k) (member_so E k to (stage_ends E a b k m n stage))
      where
        After : Type 0
        After =
            (w e : ℕ) (kind : FailureKind) → First (MemberFails E k) m (to + 1) w e (kind_number kind) →
            Right t (lowest_from t i E (to + 1) k kind w e)

        lower :
            After → (e' : ℕ) (kind' : FailureKind) → Lowest (MemberFails E k) to e' (kind_number kind') →
            (b : Bool) → ltb e' e ≡ b →
            Right t (cond b (lowest_from t i E (to + 1) k kind' to e') (lowest_from t i E (to + 1) k kind w e))
        lower after e' kind' own true is = after to e' kind' (first_lower first own (ltb-true e' e is))
        lower after e' kind' own false is = after w e kind (first_kept first own (ltb-false e' e is))

        go :
            After → (r : Trial) → FailsSo E k to r →
            Right t (elim r as (λ _. Verdict) [
              | fails_at kind' e' ↦ cond (ltb e' e) (lowest_from t i E (to + 1) k kind' to e') (lowest_from t i E (to + 1) k kind w e)
              | quiet ↦ lowest_from t i E (to + 1) k kind w e
              | finds y ↦ lowest_from t i E (to + 1) k kind w e
            ])
        go after (fails_at kind' e') own = lower after e' kind' own (ltb e' e) refl
        go after quiet none = after w e kind (first_stays first none)
        go after (finds y) none = after w e kind (first_stays first none)

    -- The members from m on are tried.
    pub members_right :
        (i : ℕ) (E : List Entry) (a b k m n : ℕ) → Stage E a b k m n → k ≤ t.kinds → m + i ≡ b →
        Owes (Right t) (λ E'. Stage E' a b k b n) (members_from t i n E m k)
    unfolding members_from
    members_right zero E a b k m n stage le end = let all : m ≡ b = omega arith in subst (λ (j : ℕ). Stage E a b k j n) all stage
    members_right (suc i) E a b k m n stage le end =
        go (λ E' stage'. members_right i E' a b k (m + 1) n stage' le (omega arith)) (tried t E m k)
        (member_so E k m (stage_ends E a b k m n stage)) (member_leaves E a b k m n stage (omega arith) le)
      where
        go :
            ((E' : List Entry) → Stage E' a b k (m + 1) n → Owes (Right t) (λ E''. Stage E'' a b k b n) (members_from t i n E' (m + 1) k)) →
            (r : Trial) → FailsSo E k m r → Leaves E a b k m n r →
            Owes (Right t) (λ E'. Stage E' a b k b n) (elim r as (λ _. Turn) [
              | fails_at kind e ↦ answers (lowest_from t i E (m + 1) k kind m e)
              | quiet ↦ members_from t i n E (m + 1) k
              | finds y ↦ members_from t i n (grown E (line_entry n E m k y)) (m + 1) k
            ])
        go after (fails_at kind e) own leaves =
            lowest_right i E a b k m n (m + 1) m e kind stage le (omega arith) (first_alone own)
        go after quiet none leaves = after E leaves
        go after (finds y) none leaves = after (grown E (line_entry n E m k y)) leaves
