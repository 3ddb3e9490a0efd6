-- Laws of the walk, action by action, and what it says about the execution: the walk ends where the execution ends, and arrives
-- where the execution passes the lamp. It says "circles" where the execution has made all the walk's steps at the lamp and has not
-- ended.
use mathlib.Core.Path.{◌≡◌, refl, sym, ap, subst}
use mathlib.Core.Logic.{◌≢◌}
use mathlib.Core.Bool.{Bool, true, false, cond}
use mathlib.Core.List.{List, [], ◌∷◌}
use Prim.Native.Nat.{ℕ, zero, suc, ◌+◌, ◌≤◌, ◌<◌}
use native.Mathlib.Numerals.{one-add}
use native.Mathlib.Omega.{arith}
use borrow.Author.Tests.{eqb-false}
use lib.ListN.{length}
use Rattle.plans.specs.Execution.{Label, action_of, here, join, step}
use Rattle.lamp_line.specs.declared.FailureKind.TheVariants.{NotLegal, NoBranch, Circles, GoalFalse}
use Rattle.lamp_line.specs.declared.Ending.{Ending}
use Rattle.lamp_line.specs.declared.Ending.TheVariants.{Goal, Failure}
use Rattle.lamp_line.specs.Tables.{Tables, Line, final, moves_on, column, passed, kinds_of_ends, line_of}
use Rattle.lamp_line.specs.inner.WellFormed.{WellFormed}
use Rattle.lamp_line.specs.declared.Pair.{Pair}
use Rattle.lamp_line.specs.Run.{Move, ends, stays, passes, Walk, ended, arrived, is_final, judged, act, own_steps, walk}
use Rattle.run_laws.specs.inner.Pairs.{InRange}
use Rattle.run_laws.proofs.Steps.{step_in_range, step_passes}
use Rattle.run_laws.proofs.Actions.{StepAt, ExecutionAt, EndsAt, MoveMeans, act_final, act_means}

-- ---- the steps that an ending adds

-- An ending adds at most one step to those of the execution.
pub counts_at_most_one : (x : Ending) → own_steps x ≤ 1
unfolding own_steps
counts_at_most_one Goal = omega arith
counts_at_most_one (Failure NotLegal) = omega arith
counts_at_most_one (Failure NoBranch) = omega arith
counts_at_most_one (Failure Circles) = omega arith
counts_at_most_one (Failure GoalFalse) = omega arith

-- An ending in state S adds none.
judged_counts_no_step : (b : Bool) → own_steps (cond b Goal (Failure GoalFalse)) ≡ 0
unfolding own_steps
judged_counts_no_step true = refl
judged_counts_no_step false = refl

-- ---- the walk action by action

-- k steps, and then what a walk answers.
abbrev pub walk_after : ℕ → Walk → Walk
walk_after k (ended x n) = ended x (k + n)
walk_after k (arrived p n) = arrived p (k + n)

module _ (t : Tables) where
  -- No step is left: the walk ends, as the goal decides in the final state, else with failure 3.
  pub walk_spent :
      (p : Pair) (c : ℕ) (b : Bool) → is_final t p.state ≡ b →
      walk t zero p c ≡ ended (cond b (judged t p.world c) (Failure Circles)) 0
  unfolding walk
  walk_spent p c b e = rw e

  -- The action ends the run.
  pub walk_ends : (n : ℕ) (p : Pair) (c : ℕ) (x : Ending) → act t p c ≡ ends x → walk t (suc n) p c ≡ ended x (own_steps x)
  unfolding walk
  walk_ends n p c x e = rw (e, walk)

  -- The action stays at the lamp.
  pub walk_stays : (n : ℕ) (p p' : Pair) (c : ℕ) → act t p c ≡ stays p' → walk t (suc n) p c ≡ walk_after 1 (walk t n p' c)
  walk_stays n p p' c e = go (walk t n p' c) refl
    where
      go : (v : Walk) → walk t n p' c ≡ v → walk t (suc n) p c ≡ walk_after 1 v
      go (ended x k) f = unfold walk in rw (e, walk, f, one-add)
      go (arrived p'' k) f = unfold walk in rw (e, walk, f, one-add)

  -- The action passes the lamp.
  pub walk_passes : (n : ℕ) (p p' : Pair) (c : ℕ) → act t p c ≡ passes p' → walk t (suc n) p c ≡ arrived p' 1
  unfolding walk
  walk_passes n p p' c e = rw (e, walk)

  -- ---- what a walk says of the execution

  -- From p at a lamp, the execution comes to rest there with this ending and k counted steps.
  pub record RestsHere (x : Ending) (k : ℕ) (p : Pair) (line : Line) : Type 0 where
    pub labels : List Label
    pub last : Pair
    pub execution : ExecutionAt t p line labels last line
    pub ends : EndsAt t x last line
    pub count : k ≡ length labels + own_steps x

  -- From p at a lamp, the execution stays there for some steps and then passes it, arriving with p'. k counts all these steps.
  pub record Arrives (p : Pair) (line : Line) (p' : Pair) (k : ℕ) : Type 0 where
    pub labels : List Label
    pub last : Pair
    pub staying : ExecutionAt t p line labels last line
    pub label : Label
    pub passing : StepAt t last line label p' (passed line)
    pub moved_on : moves_on t (action_of label) ≡ true
    pub count : k ≡ length labels + 1

  -- From p, n actions in a row stay at the lamp, and do not lead to the final state.
  pub data Lingers (c : ℕ) : ℕ → Pair → Type 0 where
    not_ended : {p : Pair} → p.state ≢ final t → Lingers c zero p
    stays_on : {n : ℕ} {p p' : Pair} → act t p c ≡ stays p' → Lingers c n p' → Lingers c (suc n) p

  -- What a walk that may count n steps says about the execution from p: it comes to rest at this lamp, or lingers there for n
  -- steps, or passes the lamp.
  pub data WalkMeans (line : Line) : ℕ → Pair → Walk → Type 0 where
    rests : {n : ℕ} {p : Pair} {x : Ending} {k : ℕ} → RestsHere x k p line → WalkMeans line n p (ended x k)
    lingers : {n : ℕ} {p : Pair} → Lingers (column t line) n p → WalkMeans line n p (ended (Failure Circles) n)
    arrives : {n : ℕ} {p p' : Pair} {k : ℕ} → Arrives p line p' k → WalkMeans line n p (arrived p' k)

  rests_at_once : {x : Ending} {p : Pair} {line : Line} {k : ℕ} → EndsAt t x p line → k ≡ own_steps x → RestsHere x k p line
  rests_at_once {p = p} h e = record { labels = []; last = p; execution = here; ends = h; count = omega arith }

  -- After a step that stays, what the walk says from there on is true with one more step.
  module _ {line : Line} {p p' : Pair} {l : Label} (stay : StepAt t p line l p' line) where
    rests_later : {x : Ending} {k : ℕ} → RestsHere x k p' line → RestsHere x (1 + k) p line
    rests_later r =
        record {
          labels = l ∷ r.labels;
          last = r.last;
          execution = join (step stay) r.execution;
          ends = r.ends;
          count = omega (arith, r.count);
        }

    arrives_later : {p'' : Pair} {k : ℕ} → Arrives p' line p'' k → Arrives p line p'' (1 + k)
    arrives_later r =
        record {
          labels = l ∷ r.labels;
          last = r.last;
          staying = join (step stay) r.staying;
          label = r.label;
          passing = r.passing;
          moved_on = r.moved_on;
          count = omega (arith, r.count);
        }

    means_later :
        {n : ℕ} {v : Walk} → act t p (column t line) ≡ stays p' →
        WalkMeans line n p' v → WalkMeans line (suc n) p (walk_after 1 v)
    means_later e (rests r) = rests (rests_later r)
    means_later e (lingers r) = rw one-add (lingers (stays_on e r))
    means_later e (arrives r) = arrives (arrives_later r)

  -- What a walk says is true of the execution.
  pub walk_means : (n : ℕ) (p : Pair) (line : Line) → WalkMeans line n p (walk t n p (column t line))
  unfolding MoveMeans
  walk_means zero p line = go (is_final t p.state) refl
    where
      go : (b : Bool) → is_final t p.state ≡ b → WalkMeans line zero p (walk t zero p (column t line))
      go true e =
          rw (walk_spent p (column t line) true e)
          (rests (rests_at_once (subst (λ m. MoveMeans t p line m) (act_final t p (column t line) e) (act_means t p line))
          (sym (judged_counts_no_step (t.goal p.world (column t line))))))
      go false e =
          rw (walk_spent p (column t line) false e)
          (lingers (not_ended (λ h. eqb-false p.state.0 t.states e (ap (λ q. q.0) h))))
  walk_means (suc n) p line = go (λ p'. walk_means n p' line) (act t p (column t line)) refl (act_means t p line)
    where
      go :
          ((p' : Pair) → WalkMeans line n p' (walk t n p' (column t line))) →
          (m : Move) → act t p (column t line) ≡ m → MoveMeans t p line m →
          WalkMeans line (suc n) p (walk t (suc n) p (column t line))
      go after (ends x) e h = rw (walk_ends n p (column t line) x e) (rests (rests_at_once h refl))
      go after (stays p') e (l, x) = rw (walk_stays n p p' (column t line) e) (means_later x e (after p'))
      go after (passes p') e (l, x, m) = rw (walk_passes n p p' (column t line) e)
          (arrives (record { labels = []; last = p; staying = here; label = l; passing = x; moved_on = m; count = refl }))

  -- ---- where a walk arrives

  module _ (wf : WellFormed t) where
    -- A walk that passes its lamp arrives with a pair of the tables.
    pub arrived_in_range : (n : ℕ) (p p' : Pair) (c k : ℕ) → arrived p' k ≡ walk t n p c → InRange t p'
    arrived_in_range n p p' c k e = go (subst (λ v. WalkMeans (line_of c []) n p v) (sym e) (walk_means n p (line_of c [])))
      where
        go : WalkMeans (line_of c []) n p (arrived p' k) → InRange t p'
        go (arrives a) = step_in_range t wf a.passing

    -- A walk passes a lamp only if there is one.
    pub arrived_at_lamp :
        (n : ℕ) (p p' : Pair) (line : Line) (k : ℕ) → line.end < kinds_of_ends t.ends →
        arrived p' k ≡ walk t n p (column t line) → 0 < length line.lamps
    arrived_at_lamp n p p' line k h e = go (subst (λ v. WalkMeans line n p v) (sym e) (walk_means n p line))
      where
        go : WalkMeans line n p (arrived p' k) → 0 < length line.lamps
        go (arrives a) = omega (arith, step_passes t wf a.passing a.moved_on h)
