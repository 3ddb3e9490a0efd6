-- Any two right answers of the check are equal: a correct plan has no failing line, only one failing line comes first, its run has
-- only one ending, and the number of reached pairs is unique.
use mathlib.Core.Path.{◌≡◌, refl, sym, ap, ap₂, subst₂}
use mathlib.Core.List.{List, [], ◌∷◌, ◌++◌}
use Prim.Native.Nat.{ℕ}
use native.Mathlib.Omega.{arith}
use lib.ListN.{length}
use Rattle.lamp_line.specs.declared.WorldState.{WorldState}
use Rattle.lamp_line.specs.declared.FailureKind.{FailureKind}
use Rattle.lamp_line.specs.declared.Ending.TheVariants.{Goal, Failure}
use Rattle.lamp_line.specs.Tables.{Tables, Line, world_state, final, lamp_problem, plan_of, line_of}
use Rattle.lamp_line.specs.inner.WellFormed.{WellFormed}
use Rattle.lamp_line.specs.Endings.{Ends, Leads}
use Rattle.plans.specs.Execution.{Correct}
use Rattle.lamp_line.specs.Check.{situation, Fails, rank, Counterexample, Reached, Verdict, accepted, failed, Right}
use Rattle.lamp_line.proofs.Counting.{number_once}
use Rattle.search_laws.proofs.Lex.{≼_antisym}
use Rattle.check_laws.proofs.RunLeads.{leads_run}

-- Lists that begin with parts of the same length are equal only if these parts are, and what follows them.
parts_same : {x y : List ℕ} (l m : List ℕ) → length l ≡ length m → l ++ x ≡ m ++ y → (l ≡ m) × (x ≡ y)
parts_same [] [] same e = (refl, e)
parts_same [] (b ∷ m) same e = absurd (omega arith)
parts_same (a ∷ l) [] same e = absurd (omega arith)
parts_same {x} {y} (a ∷ l) (b ∷ m) same e =
    let first : a ≡ b = cc in
    let (rest, after) = parts_same {x = x} {y = y} l m (omega arith) (cc) in
    (ap₂ (λ (i : ℕ) (k : List ℕ). i ∷ k) first rest, after)

module _ (t : Tables) (wf : WellFormed t) where
  -- A line whose execution leads to Goal does not fail.
  pub goal_not_fails :
      (kind : FailureKind) (start : WorldState) (line : Line) →
      Leads (lamp_problem t) (plan_of t) Goal t.first (situation start line) → ¬ (Fails t kind start line)
  goal_not_fails kind start line goal fails =
      let (k, e) = leads_run t wf start line fails.beginning Goal goal in
      let (k', e') = leads_run t wf start line fails.beginning (Failure kind) fails.leads in
      let z : ◌≡◌ {A = ℕ} 0 1 = cc in
      omega arith

  -- A correct plan has no failing line.
  pub correct_never_fails :
      Correct (lamp_problem t) (plan_of t) → (kind : FailureKind) (start : WorldState) (line : Line) → ¬ (Fails t kind start line)
  unfolding Correct Leads Ends
  correct_never_fails correct kind start line fails =
      let (ls, s, execution, goal) = correct (situation start line) fails.beginning in
      goal_not_fails kind start line (ls, final t, s, execution, (refl, goal)) fails

  -- A line fails from a start with only one failure kind.
  fails_in_one_way :
      (kind kind' : FailureKind) (start : WorldState) (line : Line) →
      Fails t kind start line → Fails t kind' start line → kind ≡ kind'
  fails_in_one_way kind kind' start line d d' =
      let (k, e) = leads_run t wf start line d.beginning (Failure kind) d.leads in
      let (k', e') = leads_run t wf start line d.beginning (Failure kind') d'.leads in
      cc

  -- There is at most one counterexample.
  one_counterexample :
      (kind kind' : FailureKind) (start start' : WorldState) (line line' : Line) →
      Counterexample t kind start line → Counterexample t kind' start' line' → failed kind start line ≡ failed kind' start' line'
  unfolding rank
  one_counterexample kind kind' start start' line line' c c' =
      let same_rank =
      ≼_antisym (rank t start line) (rank t start' line')
      (c.first kind' start' line' c'.fails) (c'.first kind start line c.fails) in
      let same_count : length line.lamps ≡ length line'.lamps = cc in
      let same_rest : line.lamps ++ (line.end ∷ start.0 ∷ []) ≡ line'.lamps ++ (line'.end ∷ start'.0 ∷ []) = cc in
      let (same_lamps, same_tail) = parts_same line.lamps line'.lamps same_count same_rest in
      let same_end : line.end ≡ line'.end = cc in
      let same_number : start.0 ≡ start'.0 = cc in
      let same_start : start ≡ start' = ap world_state same_number in
      let same_line : line ≡ line' = ap₂ line_of same_end same_lamps in
      let d' = subst₂ (Fails t kind') (sym same_start) (sym same_line) c'.fails in
      let same_kind = fails_in_one_way kind kind' start line c.fails d' in
      cc

  -- Two right answers are equal.
  pub right_once : (v v' : Verdict) → Right t v → Right t v' → v ≡ v'
  unfolding Right
  right_once (accepted m) (accepted n) a b = ap accepted (number_once (Reached t) m n a.counted b.counted)
  right_once (accepted m) (failed kind start line) a c = absurd (correct_never_fails a.correct kind start line c.fails)
  right_once (failed kind start line) (accepted n) c a = absurd (correct_never_fails a.correct kind start line c.fails)
  right_once (failed kind start line) (failed kind' start' line') c c' =
      one_counterexample kind kind' start start' line line' c c'
