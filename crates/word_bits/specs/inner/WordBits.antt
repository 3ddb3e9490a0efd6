-- For the functions of this crate: the lowest bit of a word, and what setting or removing a bit does to a word.
use Rattle.std.specs.Prelude.{◌≡◌, ◌≢◌, Bool, true, false, ℕ, ◌<◌}
use Rattle.word_bits.specs.Bits.{has_bit}

-- After a change bit i is set, and every other bit is as it was.
pub record OnlyAdded (before after i : ℕ) : Type 0 where
  pub added : has_bit after i ≡ true
  pub others : (k : ℕ) → k ≢ i → has_bit after k ≡ has_bit before k

-- The same if `add` says so; otherwise every bit is as it was.
pub record AddedIf (add : Bool) (before after i : ℕ) : Type 0 where
  pub added : add ≡ true → OnlyAdded before after i
  pub kept : add ≡ false → (k : ℕ) → has_bit after k ≡ has_bit before k

-- After a change bit i is not set, and every other bit is as it was.
pub record OnlyRemoved (before after i : ℕ) : Type 0 where
  pub removed : has_bit after i ≡ false
  pub others : (k : ℕ) → k ≢ i → has_bit after k ≡ has_bit before k

-- Bit i is the lowest that is set.
pub record Lowest (word i : ℕ) : Type 0 where
  pub is_bit : i < 64
  pub is_set : has_bit word i ≡ true
  pub none_lower : (k : ℕ) → k < i → has_bit word k ≡ false

-- After a change the lowest bit that was set is not, and the word is a lower number.
pub record WithoutLowest (before after : ℕ) : Type 0 where
  pub removes : (i : ℕ) → Lowest before i → OnlyRemoved before after i
  pub lower : after < before
