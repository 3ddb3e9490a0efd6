-- Laws for loops that count their steps upwards: how the walk at one lamp, or the run along the line, is given by what such a loop
-- has still to do. Their forms fit the code: they say "k + 1", and have the answer on the left of the equation.
use mathlib.Core.Path.{◌≡◌, refl, sym, ap, ◌∙◌}
use mathlib.Core.Bool.{cond}
use mathlib.Core.List.{List, [], ◌∷◌}
use Prim.Native.Nat.{ℕ, suc, ◌+◌, ◌-◌, ◌≤◌, ◌<◌}
use native.Mathlib.Nat.{add-zero}
use native.Mathlib.Omega.{arith}
use borrow.Author.Tests.{lt-leb}
use lib.ListN.{length, drop}
use Rattle.lamp_line.specs.declared.FailureKind.TheVariants.{Circles}
use Rattle.lamp_line.specs.declared.Ending.{Ending}
use Rattle.lamp_line.specs.declared.Ending.TheVariants.{Failure}
use Rattle.lamp_line.specs.Tables.{Tables, column, line_of}
use Rattle.lamp_line.specs.declared.Pair.{Pair}
use Rattle.lamp_line.specs.Run.{ends, stays, passes, Walk, ended, arrived, Run, ran, stopped}
use Rattle.lamp_line.specs.Run.{own_steps, is_final, judged, act, walk, lamp_walk, along, limited}
use Rattle.run_laws.proofs.Walks.{walk_after, walk_spent, walk_ends, walk_stays, walk_passes}
use Rattle.run_laws.proofs.Runs.{run_after, along_ends, along_passes}

walk_after_sum : (j k : ℕ) (v : Walk) → walk_after j (walk_after k v) ≡ walk_after (j + k) v
walk_after_sum j k (ended x n) = ap (ended x) (omega arith)
walk_after_sum j k (arrived p n) = ap (arrived p) (omega arith)

walk_after_none : (v : Walk) → walk_after 0 v ≡ v
walk_after_none (ended x n) = ap (ended x) (omega arith)
walk_after_none (arrived p n) = ap (arrived p) (omega arith)

run_after_sum : (j k : ℕ) (r : Run) → run_after j (run_after k r) ≡ run_after (j + k) r
run_after_sum j k (ran x n) = ap (ran x) (omega arith)

run_after_none : (r : Run) → run_after 0 r ≡ r
run_after_none (ran x n) = ap (ran x) (omega arith)

-- ---- the walk at one lamp

-- A loop for the walk of n steps from p₀ has counted k steps and is at p.
unfoldable pub WalkOwes : Tables → ℕ → ℕ → Pair → ℕ → Pair → Type 0
WalkOwes t n c p₀ k p = walk t n p₀ c ≡ walk_after k (walk t (n - k) p c)

module _ (t : Tables) (n c : ℕ) (p₀ : Pair) where
  -- The loop begins.
  pub walk_owes_start : WalkOwes t n c p₀ 0 p₀
  unfolding WalkOwes
  walk_owes_start = let e : n - 0 ≡ n = omega arith in rw (e, walk_after_none)

  module _ (k : ℕ) (p : Pair) (owes : WalkOwes t n c p₀ k p) where
    owed_turn : k < n → walk t n p₀ c ≡ walk_after k (walk t (suc (n - (k + 1))) p c)
    unfolding WalkOwes
    owed_turn h = let e : suc (n - (k + 1)) ≡ n - k = omega arith in rw e owes

    -- The action stays: one more step is counted.
    pub walk_owes_stays : k < n → (p' : Pair) → stays p' ≡ act t p c → WalkOwes t n c p₀ (k + 1) p'
    unfolding WalkOwes
    walk_owes_stays h p' e =
        owed_turn h ∙ (rw (walk_stays t (n - (k + 1)) p p' c (sym e)) (walk_after_sum k 1 (walk t (n - (k + 1)) p' c)))

    -- The action passes the lamp: the walk is done, with one more step.
    pub walk_owes_passes : k < n → (p' : Pair) → passes p' ≡ act t p c → arrived p' (k + 1) ≡ walk t n p₀ c
    walk_owes_passes h p' e = sym (owed_turn h ∙ (rw (walk_passes t (n - (k + 1)) p p' c (sym e))))

    -- The action ends the run: the walk is done, with the steps that the ending adds.
    pub walk_owes_ends : k < n → (x : Ending) → ends x ≡ act t p c → ended x (k + own_steps x) ≡ walk t n p₀ c
    walk_owes_ends h x e = sym (owed_turn h ∙ (rw (walk_ends t (n - (k + 1)) p c x (sym e))))

    -- All n steps are counted: the walk ends, as the goal decides in the final state, else with failure 3.
    pub walk_owes_spent :
        n ≤ k → ended (cond (is_final t p.state) (judged t p.world c) (Failure Circles)) k ≡ walk t n p₀ c
    unfolding WalkOwes
    walk_owes_spent h =
        let none_left : n - k ≡ 0 = omega arith in
        sym (owes ∙ (rw (none_left, walk_spent t p c (is_final t p.state) refl, add-zero k)))

-- ---- the run along the line

-- A loop for the run from p₀ along lamps₀ has counted k steps and is at p, with these lamps left.
unfoldable pub RunOwes : Tables → ℕ → List ℕ → Pair → ℕ → List ℕ → Pair → Type 0
RunOwes t end lamps₀ p₀ k lamps p = along t end lamps₀ p₀ ≡ run_after k (along t end lamps p)

module _ (t : Tables) (end : ℕ) (lamps₀ : List ℕ) (p₀ : Pair) where
  -- The loop begins.
  pub run_owes_start : RunOwes t end lamps₀ p₀ 0 lamps₀ p₀
  unfolding RunOwes
  run_owes_start = sym (run_after_none (along t end lamps₀ p₀))

  module _ (k : ℕ) (lamps : List ℕ) (p : Pair) (owes : RunOwes t end lamps₀ p₀ k lamps p) where
    -- The walk passes the lamp: the run goes on with the lamps after it.
    pub run_owes_passes :
        0 < length lamps → (p' : Pair) (j : ℕ) → arrived p' j ≡ lamp_walk t p (column t (line_of end lamps)) →
        RunOwes t end lamps₀ p₀ (k + j) (drop 1 lamps) p'
    unfolding RunOwes
    run_owes_passes h p' j e = owes ∙ go lamps h e
      where
        go :
            (l : List ℕ) → 0 < length l → arrived p' j ≡ lamp_walk t p (column t (line_of end l)) →
            run_after k (along t end l p) ≡ run_after (k + j) (along t end (drop 1 l) p')
        go [] h e = absurd (omega arith)
        go (kind ∷ l) h e = rw (along_passes t end kind l p p' j (sym e)) (run_after_sum k j (along t end l p'))

    -- The walk ends the run.
    pub run_owes_ends :
        (x : Ending) (j : ℕ) → ended x j ≡ lamp_walk t p (column t (line_of end lamps)) → ran x (k + j) ≡ along t end lamps₀ p₀
    unfolding RunOwes
    run_owes_ends x j e = sym (owes ∙ (rw (along_ends t end lamps p x j (sym e))))

    -- More steps are counted than the limit allows.
    pub run_owes_stopped : (limit : ℕ) → limit < k → stopped limit ≡ limited limit (along t end lamps₀ p₀)
    unfolding RunOwes
    run_owes_stopped limit h = rw owes (go (along t end lamps p))
      where
        go : (r : Run) → stopped limit ≡ limited limit (run_after k r)
        go (ran x j) = rw (lt-leb (k + j) limit (omega arith))
