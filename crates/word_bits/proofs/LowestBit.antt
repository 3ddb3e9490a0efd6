-- The lowest bit of a word that is set: the machine finds it by counting zeros, and takes it away by an and with the number before.
use mathlib.Core.Path.{◌≡◌, refl, sym, ap, subst, ◌∙◌}
use mathlib.Core.Logic.{◌≢◌}
use mathlib.Core.Bool.{true, false, false≢true}
use Prim.Native.Nat.{ℕ, zero, suc, ◌+◌, ◌*◌, ◌-◌, ◌/◌, ◌%◌, ◌^◌, ◌<◌}
use native.Mathlib.Nat.{div-one, div-div-eq-div-mul, pow-suc, mul_comm}
use native.Mathlib.Decide.{dec_lt}
use native.Mathlib.Omega.{arith}
use lib.Arith.{digits_div, digits_mod}
use lib.Bits.{bit_and, and_step, and_self, and_le_r}
use lib.Count.{under, count_trailing_zeros}
use Rattle.word_bits.specs.Bits.{bit_in, has_bit}
use Rattle.word_bits.specs.inner.WordBits.{OnlyRemoved, Lowest, WithoutLowest}

-- ---- bits and halves

bit_of_half : (word i : ℕ) → bit_in (word / 2) i ≡ bit_in word (suc i)
unfolding bit_in
bit_of_half word i = rw (div-div-eq-div-mul word 2 (2 ^ i), pow-suc, mul_comm (2 ^ i) 2)

lowest_digit : (word : ℕ) → bit_in word 0 ≡ word % 2
unfolding bit_in
lowest_digit word = rw (div-one word)

-- The bits of a number that is doubled.
bits_doubled : (half low i : ℕ) → low < 2 → bit_in (half * 2 + low) (suc i) ≡ bit_in half i
bits_doubled half low i low< = sym (bit_of_half (half * 2 + low) i) ∙ ap (λ (n : ℕ). bit_in n i) (digits_div half {m = 2} low<)

no_low : (half : ℕ) → bit_in (half * 2 + 0) 0 ≡ 0
no_low half = lowest_digit (half * 2 + 0) ∙ digits_mod half {m = 2} (omega arith)

-- ---- the lowest bit

-- The zeros below the lowest bit that is set, among n bits; and the number without that bit, which the machine gets as the number and
-- the one before it.
record LowestOf (n word i : ℕ) : Type 0 where
  pub is_bit : i < n
  pub is_set : has_bit word i ≡ true
  pub none_lower : (k : ℕ) → k < i → has_bit word k ≡ false
  pub without : OnlyRemoved word (bit_and word (word - 1)) i

lowest_of : (n word : ℕ) → 0 < word → word < 2 ^ n → LowestOf n word (count_trailing_zeros n word)
unfolding count_trailing_zeros
lowest_of zero word some few = absurd (omega arith)
lowest_of (suc n) word some few = by (lowest_of n (word / 2)) (word % 2) refl
  where
    lower : (t : ℕ) → word % 2 ≡ 0 → LowestOf n (word / 2) t → (k : ℕ) → k < suc t → has_bit word k ≡ false
    lower t even half zero k< = rw (lowest_digit word, even)
    lower t even half (suc k) k< = rw (sym (bit_of_half word k)) (half.none_lower k (omega arith))

    -- Of an even number, that is its half's with one zero more.
    doubled : word % 2 ≡ 0 → bit_and word (word - 1) ≡ bit_and (word / 2) (word / 2 - 1) * 2 + 0
    doubled even =
        let half : (word - 1) / 2 ≡ word / 2 - 1 = omega arith in
        let odd : (word - 1) % 2 ≡ 1 = omega arith in
        rw (and_step word (word - 1), half, odd, even)

    kept : (t : ℕ) → word % 2 ≡ 0 → LowestOf n (word / 2) t → (k : ℕ) → k ≢ suc t →
        has_bit (bit_and word (word - 1)) k ≡ has_bit word k
    kept t even half zero other = rw (doubled even, no_low (bit_and (word / 2) (word / 2 - 1)), lowest_digit word, even)
    kept t even half (suc k) other =
        rw (doubled even, bits_doubled (bit_and (word / 2) (word / 2 - 1)) 0 k (omega arith))
        (half.without.others k (λ e. other (ap suc e)) ∙ rw (bit_of_half word k))

    -- Of an odd number, it is the number without its lowest digit.
    halved : word % 2 ≡ 1 → bit_and word (word - 1) ≡ word / 2 * 2 + 0
    halved odd =
        let half : (word - 1) / 2 ≡ word / 2 = omega arith in
        let even : (word - 1) % 2 ≡ 0 = omega arith in
        rw (and_step word (word - 1), half, even, odd, and_self (word / 2))

    kept_above : word % 2 ≡ 1 → (k : ℕ) → k ≢ 0 → has_bit (bit_and word (word - 1)) k ≡ has_bit word k
    kept_above odd zero other = absurd (other refl)
    kept_above odd (suc k) other = rw (halved odd, bits_doubled (word / 2) 0 k (omega arith), bit_of_half word k)

    by :
        (0 < word / 2 → word / 2 < 2 ^ n → LowestOf n (word / 2) (count_trailing_zeros n (word / 2))) → (low : ℕ) → word % 2 ≡ low →
        LowestOf (suc n) word (under low (count_trailing_zeros n (word / 2)))
    by above zero even =
        let half = above (omega arith) (omega (arith, pow-suc 2 n)) in
        let t = count_trailing_zeros n (word / 2) in
        record {
          is_bit = omega (arith, half.is_bit);
          is_set = rw (sym (bit_of_half word t)) half.is_set;
          none_lower = lower _ even half;
          without =
              record {
                removed = rw (doubled even, bits_doubled (bit_and (word / 2) (word / 2 - 1)) 0 t (omega arith)) half.without.removed;
                others = kept _ even half;
              };
        }
    by above (suc low) odd =
        let one : word % 2 ≡ 1 = omega arith in
        record {
          is_bit = omega arith;
          is_set = rw (lowest_digit word, one);
          none_lower = λ k k<. absurd (omega arith);
          without = record { removed = rw (halved one, no_low (word / 2)); others = kept_above one };
        }

-- The machine's count of zeros below it is the lowest bit that is set.
pub lowest : {word : ℕ} → word < 2 ^ 64 → 0 < word → Lowest word (count_trailing_zeros 64 word)
lowest {word} fits some =
    let low = lowest_of 64 word some fits in
    record { is_bit = low.is_bit; is_set = low.is_set; none_lower = low.none_lower }

-- There is one lowest bit.
lowest_once : {word i k : ℕ} → Lowest word i → Lowest word k → i ≡ k
lowest_once {word} {i} {k} low low' = by (dec_lt i k) (dec_lt k i)
  where
    by : Dec (i < k) → Dec (k < i) → i ≡ k
    by (yes i<) _ = absurd (false≢true (sym (low'.none_lower i i<) ∙ low.is_set))
    by (no i≮) (yes k<) = absurd (false≢true (sym (low.none_lower k k<) ∙ low'.is_set))
    by (no i≮) (no k≮) = omega arith

-- The word and the number before it have all its bits but the lowest.
pub lowest_removed : {word : ℕ} → word < 2 ^ 64 → 0 < word → WithoutLowest word (bit_and word (word - 1))
lowest_removed {word} fits some =
    record {
      removes = λ i low. subst (OnlyRemoved word (bit_and word (word - 1))) (lowest_once (lowest fits some) low) (lowest_of 64 word some fits).without;
      lower = omega (arith, and_le_r word (word - 1));
    }

-- A word is below the power of 2 that it is itself the exponent of.
below_power : (word : ℕ) → word < 2 ^ word
below_power zero = omega arith
below_power (suc word) = omega (arith, pow-suc 2 word, below_power word)

-- A word that is not 0 has a bit set.
pub some_bit : {word : ℕ} → word ≢ 0 → (i : ℕ) × (has_bit word i ≡ true)
some_bit {word} other = (count_trailing_zeros word word, (lowest_of word word (omega arith) (below_power word)).is_set)
