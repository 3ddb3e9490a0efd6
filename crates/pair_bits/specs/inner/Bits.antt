-- For the functions of this crate: what clearing bits or setting one does to the words.
use Rattle.std.specs.Prelude.{◌≡◌, ◌≢◌, true, false, List, ℕ, ◌<◌, length}
use Rattle.pair_bits.specs.Sum.{bit_at}

-- None of the first n bits is set.
unfoldable pub Cleared : List ℕ → ℕ → Type 0
Cleared ws n = (i : ℕ) → i < n → bit_at ws i ≡ false

-- After a change bit i is set, and every other bit is as it was.
pub record OnlySet (before after : List ℕ) (i : ℕ) : Type 0 where
  pub now_set : bit_at after i ≡ true
  pub others : (k : ℕ) → k ≢ i → bit_at after k ≡ bit_at before k
  pub long : length after ≡ length before
