-- The bits of a word, the lowest first.
use Rattle.std.specs.Prelude.{Bool, ℕ, ◌/◌, ◌%◌, ◌^◌, eqb}

-- Bit i of the word.
unfoldable pub bit_in : ℕ → ℕ → ℕ
bit_in word i = word / 2 ^ i % 2

-- Bit i is set.
abbrev pub has_bit : ℕ → ℕ → Bool
has_bit word i = eqb (bit_in word i) 1
