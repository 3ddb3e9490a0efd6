-- The places of the memory: each pair has one at each column, within the memory, and no two have the same.
use mathlib.Core.Path.{◌≡◌, sym, ap, ap₂, ◌∙◌}
use mathlib.Core.List.{List}
use Prim.Native.Nat.{ℕ, ◌/◌, ◌%◌, ◌≤◌, ◌<◌}
use native.Mathlib.Decide.{ℕ_discrete}
use native.Mathlib.Omega.{arith}
use lib.Arith.{digits_lt, digits_div, digits_mod}
use lib.ListN.{length, set}
use lib.Seq.{get_or-set_same, get_or-set_other}
use Rattle.lamp_line.specs.Tables.{Tables, column_count}
use Rattle.lamp_line.specs.declared.Pair.{Pair}
use Rattle.run_laws.specs.inner.Pairs.{InRange, pair_number, pairs}
use Rattle.run_laws.proofs.Pairs.{pair_number_in, pair_number_injective}
use Rattle.lamp_fates.specs.inner.Memory.{memory_size, entry_place, remembered}

module _ (t : Tables) (p : Pair) (column : ℕ) (in_range : InRange t p) (column_in : column < column_count t) where
  -- The place is below the number of entries.
  pub place_below : entry_place t p column < memory_size t
  place_below =
      digits_lt {q = column} {m = column_count t} {r = pair_number t.worlds p} {c = pairs t} column_in (pair_number_in t p in_range)

  -- So it is within a memory that has room.
  pub place_in : (memory : List ℕ) → memory_size t ≤ length memory → entry_place t p column < length memory
  place_in memory room = omega (arith, place_below)

  module _ (p' : Pair) (column' : ℕ) (in_range' : InRange t p') (column_in' : column' < column_count t) where
    -- Equal places are those of equal pairs at equal columns.
    same_place : entry_place t p' column' ≡ entry_place t p column → (p' ≡ p) × (column' ≡ column)
    same_place e = (pair_number_injective t.worlds p' p in_range'.world_range in_range.world_range number, at)
      where
        number : pair_number t.worlds p' ≡ pair_number t.worlds p
        number =
            sym (digits_mod column' (pair_number_in t p' in_range')) ∙ ap (λ (n : ℕ). n % pairs t) e
            ∙ digits_mod column (pair_number_in t p in_range)

        at : column' ≡ column
        at =
            sym (digits_div column' (pair_number_in t p' in_range')) ∙ ap (λ (n : ℕ). n / pairs t) e
            ∙ digits_div column (pair_number_in t p in_range)

    -- The entry v is stored. P holds of an entry of the new memory if P holds of v, where the entry is at that place, and of the old
    -- entry otherwise.
    pub stored :
        (P : ℕ → Type 0) (memory : List ℕ) (v : ℕ) → memory_size t ≤ length memory → ((p' ≡ p) × (column' ≡ column) → P v) →
        (¬ ((p' ≡ p) × (column' ≡ column)) → P (remembered t memory p' column')) →
        P (remembered t (set memory (entry_place t p column) v) p' column')
    stored P memory v room new old = go (ℕ_discrete (entry_place t p' column') (entry_place t p column))
      where
        go :
            Dec (entry_place t p' column' ≡ entry_place t p column) →
            P (remembered t (set memory (entry_place t p column) v) p' column')
        go (yes e) =
            rw (e, get_or-set_same memory (entry_place t p column) v 0 (place_in memory room)) (new (same_place e))
        go (no other) =
            rw (get_or-set_other memory (entry_place t p column) (entry_place t p' column') v 0 other)
            (old (λ same. other (ap₂ (entry_place t) same.0 same.1)))
