-- For the functions and proofs of the search: the first words of the list as a table of entries, and the bits that belong to them.
use Rattle.std.specs.Prelude.{◌≡◌, List, ℕ, ◌*◌, ◌≤◌, ◌<◌, length, get_or, take}
use Rattle.lamp_line.specs.Tables.{Tables}
use Rattle.run_laws.specs.inner.Pairs.{InRange, pairs}
use Rattle.pair_bits.specs.Sum.{bit_at, SumIs}
use Rattle.search_laws.specs.inner.Entries.{Entry}
use Rattle.check_laws.specs.inner.Search.{met}
use Rattle.working_list.specs.inner.Placing.{unpacked, entries, MemberOf}

-- The entries of the first n words of the list.
abbrev pub table : Tables → List ℕ → ℕ → List Entry
table t list n = entries t.worlds (take n list)

-- The first n words of the list and the bits belong together.
pub record Listed (t : Tables) (list words : List ℕ) (n : ℕ) : Type 0 where
  -- A pair's bit is set exactly when the pair is in the list.
  pub bits : (y : ℕ) → y < pairs t → bit_at words y ≡ met (table t list n) y
  -- As many bits are set as the list has words.
  pub counted : SumIs words (pairs t) n
  -- The pairs are those of the tables, each found from a start or from a pair before it.
  pub ranges : (i : ℕ) → i < n → InRange t (unpacked (get_or list i 0)).pair
  pub chained : (i : ℕ) → i < n → MemberOf i (unpacked (get_or list i 0)).member (unpacked (get_or list i 0)).kind
  -- There is room for all pairs.
  pub list_room : pairs t ≤ length list
  pub bits_room : pairs t ≤ length words * 64
