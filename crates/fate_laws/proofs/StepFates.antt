-- The fate of a pair from the result of some of its actions: an ending or an arrival is its fate, a pair with which they stay at
-- the lamp has the same fate, and a pair that is met twice circles.
use mathlib.Core.Path.{◌≡◌, refl, sym, ap, ◌∙◌}
use Prim.Native.Nat.{ℕ, zero, suc, ◌+◌, ◌-◌, ◌*◌, ◌≤◌, ◌<◌}
use native.Mathlib.Nat.{suc-mul, zero-mul, add_comm, mul-le-mul_left}
use native.Mathlib.Omega.{arith}
use Rattle.lamp_line.specs.declared.FailureKind.TheVariants.{Circles}
use Rattle.lamp_line.specs.declared.Ending.{Ending}
use Rattle.lamp_line.specs.declared.Ending.TheVariants.{Failure}
use Rattle.lamp_line.specs.Tables.{Tables, column_count}
use Rattle.lamp_line.specs.inner.WellFormed.{WellFormed}
use Rattle.lamp_line.specs.declared.Pair.{Pair}
use Rattle.lamp_line.specs.Run.{Move, ends, stays, passes, ended, arrived, lamp_walk}
use Rattle.run_laws.specs.inner.Pairs.{InRange}
use Rattle.fate_laws.specs.inner.Fates.{uncounted}
use Rattle.fate_laws.specs.inner.Series.{next, series}
use Rattle.fate_laws.proofs.Fates.{settled, series_fate}
use Rattle.fate_laws.proofs.Series.{series_joined, stays_within}

module _ (t : Tables) (wf : WellFormed t) (c : ℕ) (c< : c < column_count t) where
  most : ℕ
  most = t.states * t.worlds

  -- The fate of a pair, from the result of n of its actions.
  fate_after :
      (n : ℕ) (p : Pair) (m : Move) → InRange t p → series t c n p ≡ m →
      uncounted (lamp_walk t p c) ≡ settled (next m (λ p'. series t c (suc most) p'))
  unfolding most
  fate_after n p m range e =
      sym (series_fate t wf c c< p range (n + suc most) (omega arith)) ∙ ap settled (series_joined t c n (suc most) p m e)

  -- If its actions end the run, this ending is its fate.
  pub ends_fate : (n : ℕ) (p : Pair) (x : Ending) → InRange t p → series t c n p ≡ ends x → uncounted (lamp_walk t p c) ≡ ended x 0
  ends_fate n p x = fate_after n p (ends x)

  -- If they pass the lamp, its fate is the arrival with that pair.
  pub passes_fate : (n : ℕ) (p p' : Pair) → InRange t p → series t c n p ≡ passes p' → uncounted (lamp_walk t p c) ≡ arrived p' 0
  passes_fate n p p' = fate_after n p (passes p')

  -- If they stay at the lamp, its fate is that of the pair with which they stay.
  pub stays_fate :
      (n : ℕ) (p p' : Pair) → InRange t p → series t c n p ≡ stays p' → uncounted (lamp_walk t p c) ≡ uncounted (lamp_walk t p' c)
  unfolding most
  stays_fate n p p' range e =
      fate_after n p (stays p') range e ∙ series_fate t wf c c< p' (stays_within t wf c n p p' range e) (suc most) (omega arith)

  -- If n actions lead back to the pair, so does every multiple of n actions.
  rounds : (n : ℕ) (p : Pair) → series t c n p ≡ stays p → (k : ℕ) → series t c (k * n) p ≡ stays p
  rounds n p e zero = rw (zero-mul n) (unfold series in refl)
  rounds n p e (suc k) = rw (suc-mul k n, add_comm (k * n) n) (series_joined t c n (k * n) p (stays p) e ∙ rounds n p e k)

  -- If they meet a pair a second time, they circle.
  pub circle_fate :
      (i k : ℕ) (p p' : Pair) → InRange t p → i < k → series t c i p ≡ stays p' → series t c k p ≡ stays p' →
      uncounted (lamp_walk t p c) ≡ ended (Failure Circles) 0
  unfolding most
  circle_fate i k p p' range i<k e f =
      let n = k - i in
      let all : i + n ≡ k = omega arith in
      let round : series t c n p' ≡ stays p' = sym (rw all at (series_joined t c i n p (stays p') e)) ∙ f in
      let long : suc most * 1 ≤ suc most * n = mul-le-mul_left (suc most) (omega arith) in
      stays_fate i p p' range e
      ∙ sym (series_fate t wf c c< p' (stays_within t wf c i p p' range e) (suc most * n) (omega arith))
      ∙ ap settled (rounds n p' round (suc most))
