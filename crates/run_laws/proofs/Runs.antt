-- Laws of the run lamp by lamp, and the bound of its steps: it counts at most S·W at each lamp and at the line's end.
use mathlib.Core.Path.{◌≡◌, refl}
use mathlib.Core.List.{List, [], ◌∷◌}
use Prim.Native.Nat.{ℕ, zero, suc, ◌+◌, ◌*◌, ◌≤◌}
use native.Mathlib.Nat.{suc-mul}
use native.Mathlib.Numerals.{add-one}
use native.Mathlib.Omega.{arith}
use lib.ListN.{length}
use Rattle.lamp_line.specs.declared.WorldState.{WorldState}
use Rattle.lamp_line.specs.declared.Ending.{Ending}
use Rattle.lamp_line.specs.Tables.{Tables, Line, lamp_column, column, line_of}
use Rattle.lamp_line.specs.declared.Pair.{Pair}
use Rattle.lamp_line.specs.Run.{pair, Move, ends, stays, passes, Walk, ended, arrived, Run, ran}
use Rattle.lamp_line.specs.Run.{act, walk, lamp_walk, along, run}
use Rattle.run_laws.proofs.Walks.{counts_at_most_one, walk_after, walk_ends, walk_stays, walk_passes}

-- ---- the run lamp by lamp

-- k steps, and then what a run answers.
abbrev pub run_after : ℕ → Run → Run
run_after k (ran x n) = ran x (k + n)

module _ (t : Tables) where
  -- The walk at the first lamp, or at the line's end, ends the run.
  pub along_ends :
      (end : ℕ) (lamps : List ℕ) (p : Pair) (x : Ending) (k : ℕ) →
      lamp_walk t p (column t (line_of end lamps)) ≡ ended x k → along t end lamps p ≡ ran x k
  unfolding along
  along_ends end [] p x k e = rw (e, along)
  along_ends end (kind ∷ lamps) p x k e = rw (e, along)

  -- The walk at the first lamp passes it.
  pub along_passes :
      (end kind : ℕ) (lamps : List ℕ) (p p' : Pair) (k : ℕ) →
      lamp_walk t p (lamp_column t.ends kind) ≡ arrived p' k → along t end (kind ∷ lamps) p ≡ run_after k (along t end lamps p')
  along_passes end kind lamps p p' k e = go (along t end lamps p') refl
    where
      go : (r : Run) → along t end lamps p' ≡ r → along t end (kind ∷ lamps) p ≡ run_after k r
      go (ran x n) f = unfold along in rw (e, along, f)

-- ---- the bound of the steps

-- The steps that a walk counts, and those that a run counts.
abbrev pub walk_steps : Walk → ℕ
walk_steps (ended x k) = k
walk_steps (arrived p k) = k

abbrev run_steps : Run → ℕ
run_steps (ran x k) = k

walk_after_steps : (k : ℕ) (v : Walk) → walk_steps (walk_after k v) ≡ k + walk_steps v
walk_after_steps k (ended x n) = refl
walk_after_steps k (arrived p n) = refl

run_after_steps : (k : ℕ) (r : Run) → run_steps (run_after k r) ≡ k + run_steps r
run_after_steps k (ran x n) = refl

module _ (t : Tables) where
  -- A walk that may count n steps counts at most n.
  pub walk_bounded : (n : ℕ) (p : Pair) (c : ℕ) → walk_steps (walk t n p c) ≤ n
  walk_bounded zero p c = unfold walk in omega arith
  walk_bounded (suc n) p c = go (λ p'. walk_bounded n p' c) (act t p c) refl
    where
      go : ((p' : Pair) → walk_steps (walk t n p' c) ≤ n) → (m : Move) → act t p c ≡ m → walk_steps (walk t (suc n) p c) ≤ suc n
      go after (ends x) e = rw (walk_ends t n p c x e) (omega (arith, counts_at_most_one x))
      go after (stays p') e = rw (walk_stays t n p p' c e, walk_after_steps) (omega (arith, after p'))
      go after (passes p') e = rw (walk_passes t n p p' c e) (omega arith)

  along_bounded :
      (end : ℕ) (lamps : List ℕ) (p : Pair) →
      run_steps (along t end lamps p) ≤ suc (length lamps) * (t.states * t.worlds)
  along_bounded end [] p = go (lamp_walk t p end) refl
    where
      most : walk_steps (lamp_walk t p end) ≤ t.states * t.worlds
      most = walk_bounded (t.states * t.worlds) p end

      go : (v : Walk) → lamp_walk t p end ≡ v → run_steps (along t end [] p) ≤ 1 * (t.states * t.worlds)
      go (ended x k) e = rw (along_ends t end [] p x k e) (omega (arith, rw e at most))
      go (arrived p' k) e = unfold along in rw (e, along) (omega (arith, rw e at most))
  along_bounded end (kind ∷ lamps) p = go (along_bounded end lamps) (lamp_walk t p (lamp_column t.ends kind)) refl
    where
      most : walk_steps (lamp_walk t p (lamp_column t.ends kind)) ≤ t.states * t.worlds
      most = walk_bounded (t.states * t.worlds) p (lamp_column t.ends kind)

      go :
          ((p' : Pair) → run_steps (along t end lamps p') ≤ suc (length lamps) * (t.states * t.worlds)) →
          (v : Walk) → lamp_walk t p (lamp_column t.ends kind) ≡ v →
          run_steps (along t end (kind ∷ lamps) p) ≤ suc (suc (length lamps)) * (t.states * t.worlds)
      go after (ended x k) e =
          rw (along_ends t end (kind ∷ lamps) p x k e)
          (omega (arith, rw e at most, suc-mul (suc (length lamps)) (t.states * t.worlds)))
      go after (arrived p' k) e =
          rw (along_passes t end kind lamps p p' k e, run_after_steps)
          (omega (arith, rw e at most, after p', suc-mul (suc (length lamps)) (t.states * t.worlds)))

-- A run counts at most (n + 1)·S·W steps along n lamps.
pub run_is_bounded :
    (t : Tables) (start : WorldState) (line : Line) (x : Ending) (k : ℕ) → run t start line ≡ ran x k →
    k ≤ (length line.lamps + 1) * (t.states * t.worlds)
run_is_bounded t start line x k e =
    let h = along_bounded t line.end line.lamps (pair t.first start) in
    rw (add-one (length line.lamps)) (rw e at h)
