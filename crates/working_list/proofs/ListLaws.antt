-- The list and the bits together: the list holds no more words than there are pairs, and it holds fewer while some pair's bit is not set.
use mathlib.Core.Path.{◌≡◌, sym, ap, ◌∙◌}
use mathlib.Core.Bool.{false}
use mathlib.Core.List.{List}
use Prim.Native.Nat.{ℕ, ◌*◌, ◌≤◌, ◌<◌}
use native.Mathlib.Omega.{arith}
use lib.ListN.{length}
use Rattle.lamp_line.specs.Tables.{Tables}
use Rattle.pair_bits.specs.Sum.{bit_at}
use Rattle.pair_bits.specs.inner.Bits.{Cleared}
use Rattle.pair_bits.proofs.Sums.{sum_le, sum_lt, sum_cleared}
use Rattle.run_laws.specs.inner.Pairs.{pairs}
use Rattle.search_laws.specs.inner.Entries.{Entry}
use Rattle.check_laws.specs.inner.Search.{met}
use Rattle.check_laws.proofs.MetPairs.{met_none}
use Rattle.working_list.specs.inner.Listing.{table, Listed}
use Rattle.working_list.proofs.EntryLaws.{entries_none, taken_length}

-- Cleared bits belong to the empty list.
pub listed_empty :
    {t : Tables} {list words : List ℕ} → Cleared words (pairs t) → pairs t ≤ length list → pairs t ≤ length words * 64 →
    Listed t list words 0
unfolding Cleared
listed_empty {t} {list} {words} cleared h k =
    record {
      bits = λ y l. cleared y l ∙ sym (ap (λ (E : List Entry). met E y) (entries_none t.worlds) ∙ met_none y);
      counted = sum_cleared cleared;
      ranges = λ i l. absurd (omega arith);
      chained = λ i l. absurd (omega arith);
      list_room = h;
      bits_room = k;
    }

module _ {t : Tables} {list words : List ℕ} {n : ℕ} (listed : Listed t list words n) where
  -- The list holds no more words than there are pairs.
  pub count_fits : n ≤ pairs t
  count_fits = sum_le listed.counted

  -- It has as many entries as words.
  pub table_length : length (table t list n) ≡ n
  table_length = taken_length t.worlds list n (omega (arith, count_fits, listed.list_room))

  -- While the bit of a pair is not set, the list holds fewer words than there are pairs.
  pub room_left : (y : ℕ) → y < pairs t → bit_at words y ≡ false → n < pairs t
  room_left = sum_lt listed.counted
