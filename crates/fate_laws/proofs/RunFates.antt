-- The ending of a run by the fates of pairs: where the fate at the first lamp is an ending, the run ends so; where it is an arrival, the
-- run ends as the rest of the line does from there.
use mathlib.Core.Path.{◌≡◌, refl, ap, ◌∙◌}
use mathlib.Core.List.{List, ◌∷◌}
use Prim.Native.Nat.{ℕ}
use native.Mathlib.Omega.{arith}
use Rattle.lamp_line.specs.declared.Ending.{Ending}
use Rattle.lamp_line.specs.Tables.{Tables, lamp_column, column, line_of}
use Rattle.lamp_line.specs.declared.Pair.{Pair}
use Rattle.lamp_line.specs.Run.{Walk, ended, arrived, Run, ran, lamp_walk, along}
use Rattle.run_laws.proofs.Runs.{run_after, along_ends, along_passes}
use Rattle.fate_laws.specs.inner.Fates.{uncounted, ending_of}

ending_after : (k : ℕ) (r : Run) → ending_of (run_after k r) ≡ ending_of r
ending_after k (ran x n) = refl

module _ (t : Tables) where
  -- The fate of the pair at the first lamp, or at the line's end, is an ending.
  pub ending_here :
      (end : ℕ) (lamps : List ℕ) (p : Pair) (x : Ending) →
      uncounted (lamp_walk t p (column t (line_of end lamps))) ≡ ended x 0 → ending_of (along t end lamps p) ≡ x
  ending_here end lamps p x e = go (lamp_walk t p (column t (line_of end lamps))) refl e
    where
      go : (v : Walk) → lamp_walk t p (column t (line_of end lamps)) ≡ v → uncounted v ≡ ended x 0 → ending_of (along t end lamps p) ≡ x
      go (ended y k) w e = ap ending_of (along_ends t end lamps p y k w) ∙ (cc)
      go (arrived p' k) w e = absurd (let z : ◌≡◌ {A = ℕ} 0 1 = cc in omega arith)

  -- It is the arrival with a pair at what follows the lamp.
  pub ending_later :
      (end kind : ℕ) (lamps : List ℕ) (p p' : Pair) →
      uncounted (lamp_walk t p (lamp_column t.ends kind)) ≡ arrived p' 0 →
      ending_of (along t end (kind ∷ lamps) p) ≡ ending_of (along t end lamps p')
  ending_later end kind lamps p p' e = go (lamp_walk t p (lamp_column t.ends kind)) refl e
    where
      go :
          (v : Walk) → lamp_walk t p (lamp_column t.ends kind) ≡ v → uncounted v ≡ arrived p' 0 →
          ending_of (along t end (kind ∷ lamps) p) ≡ ending_of (along t end lamps p')
      go (ended y k) w e = absurd (let z : ◌≡◌ {A = ℕ} 0 1 = cc in omega arith)
      go (arrived p'' k) w e =
          let same : p'' ≡ p' = cc in
          ap ending_of (along_passes t end kind lamps p p'' k w)
          ∙ (ending_after k (along t end lamps p'') ∙ ap (λ (q : Pair). ending_of (along t end lamps q)) same)
