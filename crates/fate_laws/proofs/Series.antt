-- Laws of series of actions at one column: two series one after the other are one series, and series lead from pairs of
-- the tables to pairs of the tables.
use mathlib.Core.Path.{◌≡◌, refl, sym, ap, subst, ◌∙◌}
use Prim.Native.Nat.{ℕ, zero, suc, ◌+◌}
use native.Mathlib.Nat.{zero-add, suc-add}
use native.Mathlib.Omega.{arith}
use Rattle.lamp_line.specs.Tables.{Tables}
use Rattle.lamp_line.specs.inner.WellFormed.{WellFormed}
use Rattle.lamp_line.specs.declared.Pair.{Pair}
use Rattle.lamp_line.specs.Run.{Move, ends, stays, passes, act}
use Rattle.run_laws.specs.inner.Pairs.{InRange}
use Rattle.run_laws.proofs.Actions.{stays_in_range}
use Rattle.fate_laws.specs.inner.Series.{next, series}

module _ (t : Tables) (c : ℕ) where
  -- The first action, and then the others.
  pub series_first : (n : ℕ) (p : Pair) (m : Move) → act t p c ≡ m → series t c (suc n) p ≡ next m (λ p'. series t c n p')
  unfolding series
  series_first n p m e = ap (λ (m : Move). next m (λ p'. series t c n p')) e

  next_none : (m : Move) → next m (λ p. stays p) ≡ m
  next_none (ends x) = refl
  next_none (stays p) = refl
  next_none (passes p) = refl

  -- One action.
  series_one : (p : Pair) → series t c 1 p ≡ act t p c
  unfolding series
  series_one p = next_none (act t p c)

  next_next :
      (m : Move) (f g h : Pair → Move) → ((p : Pair) → f p ≡ next (g p) h) → next m f ≡ next (next m g) h
  next_next (ends x) f g h e = refl
  next_next (stays p) f g h e = e p
  next_next (passes p) f g h e = refl

  -- A series of m + n actions is a series of m actions, followed by one of n.
  series_add : (m n : ℕ) (p : Pair) → series t c (m + n) p ≡ next (series t c m p) (λ p'. series t c n p')
  unfolding series
  series_add zero n p = rw zero-add
  series_add (suc m) n p =
      rw suc-add (next_next (act t p c) (λ p'. series t c (m + n) p') (λ p'. series t c m p') (λ p'. series t c n p') (λ p'. series_add m n p'))

  -- The same, where the result of the first m actions is known to be y.
  pub series_joined : (m n : ℕ) (p : Pair) (y : Move) → series t c m p ≡ y → series t c (m + n) p ≡ next y (λ p'. series t c n p')
  series_joined m n p y e = series_add m n p ∙ ap (λ (y : Move). next y (λ p'. series t c n p')) e

  -- After n actions that stay, one more.
  pub series_more : (n : ℕ) (p p' : Pair) (m : Move) → series t c n p ≡ stays p' → act t p' c ≡ m → series t c (n + 1) p ≡ m
  series_more n p p' m e f = series_joined n 1 p (stays p') e ∙ series_one p' ∙ f

-- ---- series keep to the pairs of the tables

module _ (t : Tables) (wf : WellFormed t) (c : ℕ) where
  -- Actions that stay lead from a pair of the tables to a pair of the tables.
  pub stays_within : (n : ℕ) (p p' : Pair) → InRange t p → series t c n p ≡ stays p' → InRange t p'
  unfolding series
  stays_within zero p p' range e = let same : p ≡ p' = cc in subst (InRange t) same range
  stays_within (suc n) p p' range e = go (λ p'' within. stays_within n p'' p' within) (act t p c) refl e
    where
      go :
          ((p'' : Pair) → InRange t p'' → series t c n p'' ≡ stays p' → InRange t p') → (m : Move) → act t p c ≡ m →
          next m (λ p''. series t c n p'') ≡ stays p' → InRange t p'
      go after (ends x) f e = absurd (let z : ◌≡◌ {A = ℕ} 0 1 = cc in omega arith)
      go after (stays p'') f e = after p'' (stays_in_range t wf p p'' c (sym f)) e
      go after (passes p'') f e = absurd (let z : ◌≡◌ {A = ℕ} 0 1 = cc in omega arith)
