-- The fate of a pair is given by any series of more than S·W actions. If S·W actions do not decide it, the walk has lingered at
-- the lamp for so long that it circles; so it still stays after any number of actions.
use mathlib.Core.Path.{◌≡◌, refl, sym, ap, subst, ◌∙◌}
use mathlib.Core.Logic.{◌≢◌}
use mathlib.Core.Bool.{Bool, true, false}
use Prim.Native.Nat.{ℕ, zero, suc, ◌+◌, ◌-◌, ◌*◌, ◌<◌}
use native.Mathlib.Omega.{arith}
use borrow.Author.Tests.{eqb-false}
use lib.ListN.{length}
use Rattle.plans.specs.Execution.{Forever, join, step}
use Rattle.plans.proofs.Executions.{halted_not_forever}
use Rattle.lamp_line.specs.declared.FailureKind.TheVariants.{Circles}
use Rattle.lamp_line.specs.declared.Ending.{Ending}
use Rattle.lamp_line.specs.declared.Ending.TheVariants.{Failure}
use Rattle.lamp_line.specs.Tables.{Tables, Line, final, column, lamp_theory, plan_of, column_count}
use Rattle.lamp_line.specs.inner.WellFormed.{WellFormed}
use Rattle.lamp_line.specs.Check.{situation}
use Rattle.lamp_line.specs.declared.Pair.{Pair}
use Rattle.lamp_line.specs.Run.{Move, ends, stays, passes, Walk, ended, arrived, is_final, judged, act, walk, lamp_walk}
use Rattle.run_laws.specs.inner.Pairs.{InRange}
use Rattle.run_laws.proofs.Steps.{steps_determined, step_passes}
use Rattle.run_laws.proofs.Columns.{LineAt, line_at}
use Rattle.run_laws.proofs.Actions.{act_final, ends_halted}
use Rattle.run_laws.proofs.Walks.{walk_after, walk_spent, walk_ends, walk_stays, walk_passes, walk_means, Lingers, not_ended, stays_on, WalkMeans, rests, lingers, arrives}
use Rattle.run_laws.proofs.Circling.{lingers_forever, lingers_passes_none}
use Rattle.fate_laws.specs.inner.Fates.{uncounted}
use Rattle.fate_laws.specs.inner.Series.{next, series}
use Rattle.fate_laws.proofs.Series.{series_first, series_joined}

-- The fate that a series gives, if a walk that still stays is taken to circle.
abbrev pub settled : Move → Walk
settled (ends x) = ended x 0
settled (stays p) = ended (Failure Circles) 0
settled (passes p) = arrived p 0

uncounted_after : (k : ℕ) (v : Walk) → uncounted (walk_after k v) ≡ uncounted v
uncounted_after k (ended x n) = refl
uncounted_after k (arrived p n) = refl

-- ---- a walk is a series of as many actions as it may count steps, followed by the test for the final state

module _ (t : Tables) (c : ℕ) where
  -- The fate that the walk gives after the series.
  abbrev stopped : Move → Walk
  stopped (ends x) = ended x 0
  stopped (stays p) = uncounted (walk t zero p c)
  stopped (passes p) = arrived p 0

  walk_far : (n : ℕ) (p : Pair) → uncounted (walk t n p c) ≡ stopped (series t c n p)
  unfolding series
  walk_far zero p = refl
  walk_far (suc n) p = go (λ p'. walk_far n p') (act t p c) refl
    where
      go :
          ((p' : Pair) → uncounted (walk t n p' c) ≡ stopped (series t c n p')) → (m : Move) → act t p c ≡ m →
          uncounted (walk t (suc n) p c) ≡ stopped (next m (λ p'. series t c n p'))
      go after (ends x) e = ap uncounted (walk_ends t n p c x e)
      go after (stays p') e = ap uncounted (walk_stays t n p p' c e) ∙ uncounted_after 1 (walk t n p' c) ∙ after p'
      go after (passes p') e = ap uncounted (walk_passes t n p p' c e)

  -- A walk lingers at the lamp if its actions all stay and do not lead to the final state.
  series_lingers : (n : ℕ) (p p' : Pair) → series t c n p ≡ stays p' → p'.state ≢ final t → Lingers t c n p
  unfolding series
  series_lingers zero p p' e live = not_ended (λ f. live (ap (λ p. p.state) (sym (same p p' e)) ∙ f))
    where
      same : (p p' : Pair) → stays p ≡ stays p' → p ≡ p'
      same p p' e = cc
  series_lingers (suc n) p p' e live = go (λ p'' e. series_lingers n p'' p' e live) (act t p c) refl e
    where
      go :
          ((p'' : Pair) → series t c n p'' ≡ stays p' → Lingers t c n p'') → (m : Move) → act t p c ≡ m →
          next m (λ p''. series t c n p'') ≡ stays p' → Lingers t c (suc n) p
      go after (ends x) f e = absurd (let z : ◌≡◌ {A = ℕ} 0 1 = cc in omega arith)
      go after (stays p'') f e = stays_on f (after p'' e)
      go after (passes p'') f e = absurd (let z : ◌≡◌ {A = ℕ} 0 1 = cc in omega arith)

  lingers_far : {n : ℕ} {p : Pair} → Lingers t c n p → (p' : Pair) × (series t c n p ≡ stays p')
  lingers_far (not_ended {p = p} live) = (p, unfold series in refl)
  lingers_far (stays_on {n = n} {p = p} {p' = p'} e more) =
      let (p'', f) = lingers_far more in
      (p'', series_first t c n p (stays p') e ∙ f)

-- ---- a walk that lingers for S·W actions

module _ (t : Tables) (wf : WellFormed t) (c : ℕ) (c< : c < column_count t) (p : Pair) (range : InRange t p) where
  -- A line at this column.
  here : LineAt t c
  here = line_at t c<

  means : (n : ℕ) → WalkMeans t here.line n p (walk t n p c)
  means n = subst (λ (d : ℕ). WalkMeans t here.line n p (walk t n p d)) here.is_column (walk_means t n p here.line)

  module _ (long : Lingers t c (t.states * t.worlds) p) where
    lingers_here : Lingers t (column t here.line) (t.states * t.worlds) p
    lingers_here = rw here.is_column long

    for_ever : Forever (lamp_theory t) (plan_of t) p.state (situation p.world here.line)
    for_ever = lingers_forever t wf here.line p range lingers_here

    never_ends : (n : ℕ) (x : Ending) → ¬ (series t c n p ≡ ends x)
    never_ends n x e = go (walk t n p c) (means n) (walk_far t c n p ∙ ap (stopped t c) e)
      where
        go : (v : Walk) → WalkMeans t here.line n p v → uncounted v ≡ ended x 0 → ⊥
        go (ended y k) (rests r) f =
            halted_not_forever (lamp_theory t) (plan_of t) (steps_determined t wf) r.execution
            (ends_halted t wf y r.last.state (situation r.last.world here.line) r.ends) for_ever
        go (ended y k) (lingers more) f =
            let g = (lingers_far t c (rw here.is_column at more)).1 in let z : ◌≡◌ {A = ℕ} 0 1 = cc in omega arith
        go (arrived p' k) m f = let z : ◌≡◌ {A = ℕ} 0 1 = cc in omega arith

    never_passes : (n : ℕ) (p' : Pair) → ¬ (series t c n p ≡ passes p')
    never_passes n p' e = go (walk t n p c) (means n) (walk_far t c n p ∙ ap (stopped t c) e)
      where
        go : (v : Walk) → WalkMeans t here.line n p v → uncounted v ≡ arrived p' 0 → ⊥
        go (ended y k) m f = let z : ◌≡◌ {A = ℕ} 0 1 = cc in omega arith
        go (arrived p'' k) (arrives a) f =
            let kept = lingers_passes_none t wf here.line p range lingers_here _ _ _ (join a.staying (step a.passing)) in
            let fewer = step_passes t wf a.passing a.moved_on here.fits.ended in
            omega (arith, fewer, ap (λ (line : Line). length line.lamps) kept)

    -- The walk stays, however many actions are made.
    still_stays : (n : ℕ) → settled (series t c n p) ≡ ended (Failure Circles) 0
    still_stays n = go (series t c n p) refl
      where
        go : (m : Move) → series t c n p ≡ m → settled m ≡ ended (Failure Circles) 0
        go (ends x) e = absurd (never_ends n x e)
        go (stays p') e = refl
        go (passes p') e = absurd (never_passes n p' e)

  -- Any series of more than S·W actions gives the fate of the pair.
  pub series_fate : (n : ℕ) → t.states * t.worlds < n → settled (series t c n p) ≡ uncounted (lamp_walk t p c)
  series_fate n h = go (series t c most p) refl
    where
      most : ℕ
      most = t.states * t.worlds

      rest : ℕ
      rest = n - suc most

      all : most + suc rest ≡ n
      all = omega arith

      on : (m : Move) → series t c most p ≡ m → series t c n p ≡ next m (λ p'. series t c (suc rest) p')
      on m e = ap (λ (k : ℕ). series t c k p) (sym all) ∙ series_joined t c most (suc rest) p m e

      walked : (m : Move) → series t c most p ≡ m → stopped t c m ≡ uncounted (lamp_walk t p c)
      walked m e = sym (walk_far t c most p ∙ ap (stopped t c) e)

      tested : (p' : Pair) → series t c most p ≡ stays p' → (b : Bool) → is_final t p'.state ≡ b →
          settled (series t c n p) ≡ uncounted (lamp_walk t p c)
      tested p' e true f =
          ap settled (on (stays p') e ∙ series_first t c rest p' (ends (judged t p'.world c)) (act_final t p' c f))
          ∙ sym (ap uncounted (walk_spent t p' c true f)) ∙ walked (stays p') e
      tested p' e false f =
          still_stays (series_lingers t c most p p' e (λ g. eqb-false p'.state.0 t.states f (ap (λ q. q.0) g))) n
          ∙ sym (ap uncounted (walk_spent t p' c false f)) ∙ walked (stays p') e

      go : (m : Move) → series t c most p ≡ m → settled (series t c n p) ≡ uncounted (lamp_walk t p c)
      go (ends x) e = ap settled (on (ends x) e) ∙ walked (ends x) e
      go (stays p') e = tested p' e (is_final t p'.state) refl
      go (passes p') e = ap settled (on (passes p') e) ∙ walked (passes p') e
