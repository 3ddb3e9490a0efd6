-- Sums of bits: what lies behind adds nothing, how large a sum is, and how it grows when one bit is set.
use mathlib.Core.Path.{◌≡◌, sym, ◌∙◌}
use mathlib.Core.Logic.{◌⊎◌, inl, inr, ⊎_elim}
use mathlib.Core.Bool.{false, false≢true}
use mathlib.Core.List.{List}
use Prim.Native.Nat.{ℕ, ◌+◌, ◌<◌, ◌≤◌}
use native.Mathlib.Decide.{ℕ_discrete}
use native.Mathlib.Omega.{arith}
use Rattle.lamp_line.proofs.Counting.{number_le, number_lt, number_same, number_more, number_none, numbers_below}
use Rattle.pair_bits.specs.Sum.{bit_at, OneAmong, SumIs, BehindAddsNothing}
use Rattle.pair_bits.specs.inner.Bits.{Cleared, OnlySet}

-- ---- the promise of 02, (d), on what lies behind

pub behind_adds_nothing : BehindAddsNothing
behind_adds_nothing ws vs n a b same sum other = number_same sum other (λ i. (moved ws vs same i, moved vs ws (λ j l. sym (same j l)) i))
  where
    moved : (ws vs : List ℕ) → ((i : ℕ) → i < n → bit_at ws i ≡ bit_at vs i) → (i : ℕ) → OneAmong ws n i → OneAmong vs n i
    moved ws vs same i one = record { among = one.among; is_one = sym (same i one.among) ∙ one.is_one }

-- ---- how large a sum is

module _ {ws : List ℕ} {n sum : ℕ} (is : SumIs ws n sum) where
  -- At most n of n bits are ones,
  pub sum_le : sum ≤ n
  sum_le = number_le is (numbers_below n) (λ i one. one.among)

  -- and fewer where some bit is not.
  pub sum_lt : (i : ℕ) → i < n → bit_at ws i ≡ false → sum < n
  sum_lt i l not_one = number_lt is (numbers_below n) (λ j one. one.among) i l (λ one. false≢true (sym not_one ∙ one.is_one))

  -- Setting a bit that is not set adds one.
  pub sum_set : {vs : List ℕ} {i : ℕ} → i < n → bit_at ws i ≡ false → OnlySet ws vs i → SumIs vs n (sum + 1)
  sum_set {vs} {i} l not_one only =
      number_more is i (λ one. false≢true (sym not_one ∙ one.is_one)) (λ j. (⊎_elim is_new was_one, λ one. go one (ℕ_discrete j i)))
    where
      is_new : {j : ℕ} → j ≡ i → OneAmong vs n j
      is_new e = record { among = omega arith; is_one = rw e only.now_set }

      was_one : {j : ℕ} → OneAmong ws n j → OneAmong vs n j
      was_one {j} one =
          let other : ¬ (j ≡ i) = λ e. false≢true (sym not_one ∙ rw e at one.is_one) in
          record { among = one.among; is_one = only.others j other ∙ one.is_one }

      go : {j : ℕ} → OneAmong vs n j → Dec (j ≡ i) → (j ≡ i) ⊎ OneAmong ws n j
      go one (yes e) = inl e
      go {j} one (no d) = inr (record { among = one.among; is_one = sym (only.others j d) ∙ one.is_one })

-- Cleared bits sum to 0.
pub sum_cleared : {ws : List ℕ} {n : ℕ} → Cleared ws n → SumIs ws n 0
unfolding Cleared
sum_cleared cleared = number_none (λ i one. false≢true (sym (cleared i one.among) ∙ one.is_one))
