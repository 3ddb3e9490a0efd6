-- One bit a pair in 64-bit words, and their sum (01, "The check"; 02, (d)).
use Rattle.std.specs.Prelude.{◌≡◌, Bool, true, List, ℕ, ◌/◌, ◌%◌, ◌<◌, get_or}
use Rattle.lamp_line.specs.Lists.{NumberOf}
use Rattle.word_bits.specs.Bits.{has_bit}

-- Bit i of the words is a one. The lowest bit of the first word is bit 0; where there is no word, there are no ones.
unfoldable pub bit_at : List ℕ → ℕ → Bool
bit_at ws i = has_bit (get_or ws (i / 64) 0) (i % 64)

-- Bit i is a one among the first n bits.
pub record OneAmong (ws : List ℕ) (n i : ℕ) : Type 0 where
  pub among : i < n
  pub is_one : bit_at ws i ≡ true

-- The sum of the first n bits is the number of ones among them (02, (d)).
abbrev pub SumIs : List ℕ → ℕ → ℕ → Type 0
SumIs ws n sum = NumberOf (OneAmong ws n) sum

-- No other bit of the words has an influence (02, (d)): if the first n bits are the same, so is their sum, whatever the rest of the last
-- word and the words after it hold, and however many these are.
abbrev pub BehindAddsNothing : Type 0
BehindAddsNothing =
    (ws vs : List ℕ) (n a b : ℕ) → ((i : ℕ) → i < n → bit_at ws i ≡ bit_at vs i) → SumIs ws n a → SumIs vs n b → a ≡ b
