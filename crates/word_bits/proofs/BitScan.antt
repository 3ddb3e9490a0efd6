-- Going through the bits of a word that are set, from the lowest on: `rest` is the word without the bits below w.
use mathlib.Core.Path.{◌≡◌, sym, ◌∙◌}
use mathlib.Core.Bool.{true, false, false≢true}
use Prim.Native.Nat.{ℕ, ◌+◌, ◌≤◌, ◌<◌}
use native.Mathlib.Decide.{dec_lt, ℕ_discrete}
use native.Mathlib.Omega.{arith}
use Rattle.word_bits.specs.Bits.{has_bit}
use Rattle.word_bits.specs.inner.WordBits.{Lowest, OnlyRemoved, WithoutLowest}
use Rattle.word_bits.proofs.WordBits.{none_in_zero}

pub record Scanning (word rest w : ℕ) : Type 0 where
  pub above : (k : ℕ) → w ≤ k → has_bit rest k ≡ has_bit word k
  pub below : (k : ℕ) → k < w → has_bit rest k ≡ false

module _ {word rest w : ℕ} (scan : Scanning word rest w) where
  -- Nothing is left: no bit from w on is set.
  pub scan_end : rest ≡ 0 → (k : ℕ) → w ≤ k → has_bit word k ≡ false
  scan_end is_empty k w≤ = sym (scan.above k w≤) ∙ rw is_empty (none_in_zero k)

  module _ {at : ℕ} (low : Lowest rest at) where
    -- The next bit that is set is not behind.
    pub scan_ahead : w ≤ at
    scan_ahead = by (dec_lt at w)
      where
        by : Dec (at < w) → w ≤ at
        by (yes behind) = absurd (false≢true (sym (scan.below at behind) ∙ low.is_set))
        by (no ahead) = omega arith

    pub scan_set : has_bit word at ≡ true
    scan_set = sym (scan.above at scan_ahead) ∙ low.is_set

    -- Those between are not set.
    pub scan_between : (k : ℕ) → w ≤ k → k < at → has_bit word k ≡ false
    scan_between k w≤ k< = sym (scan.above k w≤) ∙ low.none_lower k k<

    -- It is left behind.
    pub scan_more : {after : ℕ} → WithoutLowest rest after → Scanning word after (at + 1)
    scan_more {after} without =
        record {
          above = λ k at<. only.others k (λ e. omega arith) ∙ scan.above k (omega (arith, scan_ahead));
          below = λ k k<. by k k< (ℕ_discrete k at);
        }
      where
        only : OnlyRemoved rest after at
        only = without.removes at low

        by : (k : ℕ) → k < at + 1 → Dec (k ≡ at) → has_bit after k ≡ false
        by k k< (yes same) = rw same only.removed
        by k k< (no other) = only.others k other ∙ low.none_lower k (omega arith)
