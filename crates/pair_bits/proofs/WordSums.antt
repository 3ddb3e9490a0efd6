-- Sums taken word by word: one bit more, a part of a word, the words' end, and the loop over the words.
use mathlib.Core.Path.{◌≡◌, refl, sym, subst, ◌∙◌}
use mathlib.Core.Logic.{◌⊎◌, inl, inr, ⊎_elim}
use mathlib.Core.Bool.{false, false≢true}
use mathlib.Core.List.{List}
use Prim.Native.Nat.{ℕ, zero, suc, ◌+◌, ◌*◌, ◌/◌, ◌%◌, ◌^◌, ◌<◌, ◌≤◌}
use native.Mathlib.Decide.{dec_lt}
use native.Mathlib.Nat.{mod-lt, mod-eq_of_lt, eq-or-lt_of_le}
use native.Mathlib.Omega.{arith}
use lib.Arith.{digits_div, digits_mod}
use lib.Count.{ones, ones_cat}
use lib.Dec.{eqb}
use lib.ListN.{length, get_or, get_or-eq_default}
use lib.Pow.{pow_pos, mod-pow-add}
use Rattle.lamp_line.proofs.Counting.{number_as, number_more, number_none}
use Rattle.word_bits.specs.Bits.{bit_in, has_bit}
use Rattle.word_bits.proofs.WordBits.{shifted_one, none_in_zero}
use Rattle.pair_bits.specs.Sum.{bit_at, OneAmong, SumIs}
use Rattle.pair_bits.proofs.Sums.{sum_le}

-- ---- bit by bit

-- One bit more, which is b.
sum_next : {ws : List ℕ} {n sum : ℕ} (b : ℕ) → b < 2 → bit_at ws n ≡ eqb b 1 → SumIs ws n sum → SumIs ws (suc n) (sum + b)
sum_next {ws} {n} {sum} b small e is = go b small e
  where
    before : {i : ℕ} → OneAmong ws n i → OneAmong ws (suc n) i
    before one = record { among = omega (arith, one.among); is_one = one.is_one }

    last_or_before : {i : ℕ} → OneAmong ws (suc n) i → (i ≡ n) ⊎ OneAmong ws n i
    last_or_before {i} one =
        ⊎_elim (λ e. inl e) (λ l. inr (record { among = l; is_one = one.is_one }))
        (eq-or-lt_of_le {n = i} {m = n} (omega (arith, one.among)))

    go : (b : ℕ) → b < 2 → bit_at ws n ≡ eqb b 1 → SumIs ws (suc n) (sum + b)
    go zero h e =
        subst (SumIs ws (suc n)) (omega arith)
        (number_as is
        (λ i. (
          before,
          λ one. ⊎_elim (λ f. absurd (false≢true (sym e ∙ rw f at one.is_one))) (λ earlier. earlier) (last_or_before one),
        )))
    go (suc zero) h e =
        number_more is n (λ one. omega (arith, one.among))
        (λ i. (⊎_elim (λ f. record { among = omega arith; is_one = rw f e }) before, last_or_before))
    go (suc (suc b)) h e = absurd (omega arith)

-- ---- word by word

ones_bit : (b : ℕ) → b < 2 → ones b ≡ b
unfolding ones
ones_bit zero h = refl
ones_bit (suc zero) h = refl
ones_bit (suc (suc b)) h = absurd (omega arith)

-- One more bit of a word.
ones_more : (w m : ℕ) → ones (w % 2 ^ suc m) ≡ ones (w % 2 ^ m) + w / 2 ^ m % 2
ones_more w m =
    let e : suc m ≡ 1 + m = omega arith in
    rw (
      e,
      mod-pow-add w 1 m,
      ones_cat m (w / 2 ^ m % 2 ^ 1) (w % 2 ^ m) (mod-lt w (pow_pos m)),
      ones_bit (w / 2 ^ m % 2) (omega arith),
    )
    (omega arith)

bit_in_word : (ws : List ℕ) (j m : ℕ) → m < 64 → bit_at ws (j * 64 + m) ≡ has_bit (get_or ws j 0) m
unfolding bit_at
bit_in_word ws j m h = rw (digits_div j {m = 64} h, digits_mod j {m = 64} h)

-- The first m bits of word j have the ones of its remainder by 2 ^ m.
sum_part :
    {ws : List ℕ} {sum : ℕ} (j m : ℕ) → m ≤ 64 → SumIs ws (j * 64) sum → SumIs ws (j * 64 + m) (sum + ones (get_or ws j 0 % 2 ^ m))
unfolding ones bit_in
sum_part {ws} j zero h is =
    let e : j * 64 + 0 ≡ j * 64 = omega arith in
    let z : get_or ws j 0 % 1 ≡ 0 = omega arith in
    rw (e, z) (subst (SumIs ws (j * 64)) (omega arith) is)
sum_part {ws} {sum} j (suc m) h is =
    let b = get_or ws j 0 / 2 ^ m % 2 in
    let e : j * 64 + suc m ≡ suc (j * 64 + m) = omega arith in
    let k : sum + (ones (get_or ws j 0 % 2 ^ m) + b) ≡ sum + ones (get_or ws j 0 % 2 ^ m) + b = omega arith in
    rw (e, ones_more (get_or ws j 0) m, k) (sum_next b (omega arith) (bit_in_word ws j m (omega arith)) (sum_part j m (omega arith) is))

-- Behind the words there are no ones.
sum_behind : {ws : List ℕ} {i n sum : ℕ} → length ws ≤ i → i * 64 ≤ n → SumIs ws (i * 64) sum → SumIs ws n sum
sum_behind {ws} {i} {n} past within is = number_as is (λ k. (kept, λ one. in_words one (dec_lt k (i * 64))))
  where
    none : (k : ℕ) → i ≤ k / 64 → bit_at ws k ≡ false
    none k h = unfold bit_at in rw (get_or-eq_default ws 0 {n = k / 64} (omega arith)) (none_in_zero (k % 64))

    kept : {k : ℕ} → OneAmong ws (i * 64) k → OneAmong ws n k
    kept one = record { among = omega (arith, one.among); is_one = one.is_one }

    in_words : {k : ℕ} → OneAmong ws n k → Dec (k < i * 64) → OneAmong ws (i * 64) k
    in_words one (yes l) = record { among = l; is_one = one.is_one }
    in_words {k} one (no h) = absurd (false≢true (sym (none k (omega arith)) ∙ one.is_one))

-- ---- the loop over the words

-- The first i words are summed, which the first n bits fill.
pub record Summed (ws : List ℕ) (n sum i : ℕ) : Type 0 where
  pub filled : i ≤ n / 64
  pub sum_is : SumIs ws (i * 64) sum

-- No word is summed.
pub summed_none : {ws : List ℕ} {n : ℕ} → Summed ws n 0 0
summed_none = record { filled = omega arith; sum_is = number_none (λ i one. omega (arith, one.among)) }

module _ {ws : List ℕ} {n sum i : ℕ} (summed : Summed ws n sum i) where
  -- Word i is summed whole.
  pub summed_more : i < n / 64 → get_or ws i 0 < 2 ^ 64 → Summed ws n (sum + ones (get_or ws i 0)) (i + 1)
  summed_more more fits =
      let e : (i + 1) * 64 ≡ i * 64 + 64 = omega arith in
      let whole : SumIs ws (i * 64 + 64) (sum + ones (get_or ws i 0 % 2 ^ 64)) = sum_part i 64 (omega arith) summed.sum_is in
      record { filled = omega arith; sum_is = rw e (rw (mod-eq_of_lt fits) at whole) }

  -- All words that the bits fill are summed: word i is summed without its bits behind the first n.
  pub summed_rest : n / 64 ≤ i → SumIs ws n (sum + ones (get_or ws i 0 % (1 * 2 ^ (n % 64) % 2 ^ 64)))
  summed_rest all =
      let e : i * 64 + n % 64 ≡ n = omega (arith, summed.filled) in
      rw (shifted_one (n % 64) (omega arith)) (rw e at (sum_part i (n % 64) (omega arith) summed.sum_is))

  -- There is no word i.
  pub summed_all : length ws ≤ i → SumIs ws n sum
  summed_all past = sum_behind past (omega (arith, summed.filled)) summed.sum_is

  -- The sum is at most n.
  pub summed_le : sum ≤ n
  summed_le = omega (arith, summed.filled, sum_le summed.sum_is)
