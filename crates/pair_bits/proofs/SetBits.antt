-- Bits of a list of words: setting one changes no other, and writing words as 0 clears their bits.
use Rattle.std.proofs.Common.{◌≡◌, ◌≢◌, ◌∙◌, List, ◌++◌, ℕ, ◌+◌, ◌*◌, ◌/◌, ◌%◌, ◌<◌, ◌≤◌, length, get_or, set, take, drop, arith, length-take, get_or-set_same, get_or-set_other}
use Rattle.std.proofs.lemmas.List.{get_or_append_left, get_or-replicate, length-replicate, length-set}
use lib.ListN.{replicate}
use native.Mathlib.Decide.{ℕ_discrete}
use Rattle.word_bits.specs.inner.WordBits.{OnlyAdded}
use Rattle.word_bits.proofs.WordBits.{none_in_zero}
use Rattle.pair_bits.specs.Sum.{bit_at}
use Rattle.pair_bits.specs.inner.Bits.{Cleared, OnlySet}

module _ (ws : List ℕ) (i : ℕ) {word : ℕ} (room : i < length ws * 64) (with : OnlyAdded (get_or ws (i / 64) 0) word (i % 64)) where
  other_bit : (k : ℕ) → k ≢ i → Dec (k / 64 ≡ i / 64) → bit_at (set ws (i / 64) word) k ≡ bit_at ws k
  unfolding bit_at
  other_bit k n (yes e) =
      rw (e, get_or-set_same ws (i / 64) word 0 (omega arith)) (with.others (k % 64) (λ f. n (omega arith)))
  other_bit k n (no d) = rw (get_or-set_other ws (i / 64) (k / 64) word 0 d)

  -- The word of bit i is written with that bit set: bit i is set, and no other changes.
  pub only_set : OnlySet ws (set ws (i / 64) word) i
  unfolding bit_at
  only_set =
      record {
        now_set = rw (get_or-set_same ws (i / 64) word 0 (omega arith)) with.added;
        others = λ k n. other_bit k n (ℕ_discrete (k / 64) (i / 64));
        long = length-set ws (i / 64) word;
      }

-- ---- words written as 0

-- The first n words are 0.
pub record Zeros (ws : List ℕ) (n : ℕ) : Type 0 where
  pub zero_at : (i : ℕ) → i < n → get_or ws i 0 ≡ 0

-- Words that are 0 have no bit set.
pub zeros_cleared : {ws : List ℕ} {n : ℕ} → Zeros ws n → (m : ℕ) → m / 64 + (m % 64 + 63) / 64 ≤ n → Cleared ws m
unfolding Cleared bit_at
zeros_cleared zeros m h i l = rw (zeros.zero_at (i / 64) (omega arith)) (none_in_zero (i % 64))

-- The number of the words that hold the first n bits.
abbrev pub held_by : ℕ → ℕ
held_by n = n / 64 + (n % 64 + 63) / 64

-- If these words are written as 0, none of the first n bits is set.
pub filled_cleared :
    (ws : List ℕ) (n : ℕ) → n ≤ length ws * 64 → Cleared (replicate (length (take (held_by n) ws)) 0 ++ drop (held_by n) ws) n
filled_cleared ws n room = zeros_cleared (record { zero_at = zero_at }) n (omega (arith, length-take (held_by n) ws))
  where
    count : ℕ
    count = length (take (held_by n) ws)

    zero_at : (i : ℕ) → i < count → get_or (replicate count 0 ++ drop (held_by n) ws) i 0 ≡ 0
    zero_at i within =
        get_or_append_left (replicate count 0) (drop (held_by n) ws) 0 i (rw length-replicate within)
        ∙ get_or-replicate count i 0 0 within
