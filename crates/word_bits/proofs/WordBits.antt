-- The bits of one word: those of an or and those of a power of two, and from these what setting one bit does to each bit.
use mathlib.Core.Path.{◌≡◌, sym}
use mathlib.Core.Logic.{◌≢◌}
use mathlib.Core.Bool.{Bool, true, false, false≢true}
use Prim.Native.Nat.{ℕ, suc, ◌+◌, ◌*◌, ◌-◌, ◌/◌, ◌%◌, ◌^◌, max, ◌<◌}
use native.Mathlib.Nat.{div-eq_of_lt, mod-eq_of_lt, div_self, pow-suc, one-mul, zero-mul}
use native.Mathlib.Decide.{dec_lt}
use native.Mathlib.Omega.{arith}
use lib.Arith.{digits_mod}
use lib.Bits.{bit_or, or_step, or_shr}
use lib.Pow.{pow_pos, pow-add, pow-lt, shl-shr}
use mir.Val.{bool_byte}
use Rattle.word_bits.specs.Bits.{bit_in, has_bit}
use Rattle.word_bits.specs.inner.WordBits.{OnlyAdded, AddedIf}

-- ---- an or

or_low : (a b : ℕ) → bit_or a b % 2 ≡ max (a % 2) (b % 2)
or_low a b = rw (or_step a b) (digits_mod (bit_or (a / 2) (b / 2)) (omega arith))

or_bit : (a b j : ℕ) → bit_or a b / 2 ^ j % 2 ≡ max (a / 2 ^ j % 2) (b / 2 ^ j % 2)
or_bit a b j = rw (or_shr a b j) (or_low (a / 2 ^ j) (b / 2 ^ j))

-- ---- a power of two

power_same : (k : ℕ) → 2 ^ k / 2 ^ k % 2 ≡ 1
power_same k = rw (div_self (pow_pos k))

power_other : (k j : ℕ) → j ≢ k → 2 ^ k / 2 ^ j % 2 ≡ 0
power_other k j n = go (dec_lt j k)
  where
    go : Dec (j < k) → 2 ^ k / 2 ^ j % 2 ≡ 0
    go (yes h) =
        let e : k ≡ suc (k - (j + 1)) + j = omega arith in
        rw (e, pow-add 2 (suc (k - (j + 1))) j, shl-shr (2 ^ suc (k - (j + 1))) j, pow-suc) (omega arith)
    go (no h) = let above : k < j = omega arith in rw (div-eq_of_lt (pow-lt above))

-- ---- a word with one bit set

-- A one that the machine shifts by k places is 2 ^ k.
pub shifted_one : (k : ℕ) → k < 64 → 1 * 2 ^ k % 2 ^ 64 ≡ 2 ^ k
shifted_one k h = rw (one-mul (2 ^ k)) (mod-eq_of_lt (pow-lt h))

or_set : (a k : ℕ) → k < 64 → bit_or a (1 * 2 ^ k % 2 ^ 64) / 2 ^ k % 2 ≡ 1
or_set a k h = rw (shifted_one k h, or_bit a (2 ^ k) k, power_same k) (omega arith)

or_keep : (a k j : ℕ) → k < 64 → j ≢ k → bit_or a (1 * 2 ^ k % 2 ^ 64) / 2 ^ j % 2 ≡ a / 2 ^ j % 2
or_keep a k j h n = rw (shifted_one k h, or_bit a (2 ^ k) j, power_other k j n) (omega arith)

-- An or with that one sets bit k and no other.
pub only_added : {word k : ℕ} → k < 64 → OnlyAdded word (bit_or word (1 * 2 ^ k % 2 ^ 64)) k
unfolding bit_in
only_added {word} {k} h = record { added = rw (or_set word k h); others = λ j n. rw (or_keep word k j h n) }

-- The same if a truth value says so: the machine shifts its 1 or 0.
pub added_if : {word k : ℕ} (add : Bool) → k < 64 → AddedIf add word (bit_or word (bool_byte add * 2 ^ k % 2 ^ 64)) k
unfolding bit_in
added_if true h = record { added = λ e. only_added h; kept = λ e k. absurd (false≢true (sym e)) }
added_if {word} {k} false h =
    let none : 0 * 2 ^ k % 2 ^ 64 ≡ 0 = rw (zero-mul (2 ^ k)) in
    record {
      added = λ e. absurd (false≢true e);
      kept = λ e j. rw (none, or_bit word 0 j, div-eq_of_lt (pow_pos j), max_zero (word / 2 ^ j % 2));
    }
  where
    max_zero : (b : ℕ) → max b 0 ≡ b
    max_zero b = omega arith

-- ---- no bit

-- The word 0 has no bit set.
pub none_in_zero : (i : ℕ) → has_bit 0 i ≡ false
unfolding bit_in
none_in_zero i = rw (div-eq_of_lt (pow_pos i))
