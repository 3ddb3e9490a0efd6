-- The pigeonhole principle for native numbers, with the two places given: of n + 1 numbers below n, two are equal. The proof is by
-- induction. If the last number also stands at an earlier place, these are the two places. If not, it replaces the largest value
-- among the earlier numbers; this leaves one number fewer, and one possible value fewer.
use mathlib.Core.Path.{◌≡◌, sym, ap, ◌∙◌}
use mathlib.Core.Logic.{◌⊎◌, inl, inr, ⊎_elim, ◌≢◌}
use Prim.Native.Nat.{ℕ, zero, suc, ◌≤◌, ◌<◌}
use native.Mathlib.Decide.{ℕ_discrete}
use native.Mathlib.Omega.{arith}

-- Two different places, neither above n, at which f has the same value.
pub record Repeat (f : ℕ → ℕ) (n : ℕ) : Type 0 where
  pub earlier : ℕ
  pub later : ℕ
  pub in_order : earlier < later
  pub in_range : later ≤ n
  pub same : f earlier ≡ f later

abbrev Found : (ℕ → ℕ) → ℕ → ℕ → Type 0
Found f v n = (i : ℕ) × (i < n) × (f i ≡ v)

abbrev Missing : (ℕ → ℕ) → ℕ → ℕ → Type 0
Missing f v n = (i : ℕ) → i < n → f i ≢ v

-- The value v stands at some place below n, or at none.
find_value : (f : ℕ → ℕ) (v n : ℕ) → Found f v n ⊎ Missing f v n
find_value f v zero = inr (λ i h. omega arith)
find_value f v (suc n) = go (find_value f v n) (ℕ_discrete (f n) v)
  where
    at_last : Missing f v n → f n ≢ v → (i : ℕ) → i < suc n → Dec (i ≡ n) → f i ≢ v
    at_last missing differs i h (yes e) = λ q. differs (ap f (sym e) ∙ q)
    at_last missing differs i h (no d) = missing i (omega arith)

    go : Found f v n ⊎ Missing f v n → Dec (f n ≡ v) → Found f v (suc n) ⊎ Missing f v (suc n)
    go (inl (i, h, e)) d = inl (i, omega arith, e)
    go (inr missing) (yes e) = inl (n, omega arith, e)
    go (inr missing) (no d) = inr (λ i h. at_last missing d i h (ℕ_discrete i n))

-- x, but v if x is n.
replaced : (v n x : ℕ) → Dec (x ≡ n) → ℕ
replaced v n x (yes e) = v
replaced v n x (no d) = x

-- The last number, f (suc n), stands at no earlier place.
module _ (n : ℕ) (f : ℕ → ℕ) (bounded : (i : ℕ) → i ≤ suc n → f i < suc n) (new : Missing f (f (suc n)) (suc n)) where
  replaced_bounded : (i : ℕ) → i ≤ n → (d : Dec (f i ≡ n)) → replaced (f (suc n)) n (f i) d < n
  unfolding replaced
  replaced_bounded i h (yes e) = omega (arith, new i (omega arith), bounded (suc n) (omega arith))
  replaced_bounded i h (no d) = omega (arith, bounded i (omega arith))

  replaced_injective :
      (i j : ℕ) → i ≤ n → j ≤ n → (d : Dec (f i ≡ n)) (e : Dec (f j ≡ n)) →
      replaced (f (suc n)) n (f i) d ≡ replaced (f (suc n)) n (f j) e → f i ≡ f j
  unfolding replaced
  replaced_injective i j h k (yes d) (yes e) q = d ∙ sym e
  replaced_injective i j h k (yes d) (no e) q = absurd (new j (omega arith) (sym q))
  replaced_injective i j h k (no d) (yes e) q = absurd (new i (omega arith) q)
  replaced_injective i j h k (no d) (no e) q = q

  fewer : ((g : ℕ → ℕ) → ((i : ℕ) → i ≤ n → g i < n) → Repeat g n) → Repeat f (suc n)
  fewer smaller = back (smaller g (λ i h. replaced_bounded i h (ℕ_discrete (f i) n)))
    where
      g : ℕ → ℕ
      g i = replaced (f (suc n)) n (f i) (ℕ_discrete (f i) n)

      back : Repeat g n → Repeat f (suc n)
      back r =
          record {
            earlier = r.earlier;
            later = r.later;
            in_order = r.in_order;
            in_range = omega arith;
            same =
                replaced_injective r.earlier r.later (omega arith) (omega arith)
                (ℕ_discrete (f r.earlier) n) (ℕ_discrete (f r.later) n) r.same;
          }

-- Of n + 1 numbers below n, two are equal.
pub pigeonhole : (n : ℕ) (f : ℕ → ℕ) → ((i : ℕ) → i ≤ n → f i < n) → Repeat f n
pigeonhole zero f bounded = absurd (let b = bounded 0 (omega arith) in omega arith)
pigeonhole (suc n) f bounded = ⊎_elim found (λ new. fewer n f bounded new (pigeonhole n)) (find_value f (f (suc n)) (suc n))
  where
    found : Found f (f (suc n)) (suc n) → Repeat f (suc n)
    found (i, h, e) = record { earlier = i; later = suc n; in_order = h; in_range = omega arith; same = e }
