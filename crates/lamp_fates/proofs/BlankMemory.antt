-- A memory in which nothing is known yet, and how large a memory has to be.
use mathlib.Core.Path.{◌≡◌}
use mathlib.Core.Logic.{inl}
use Prim.Native.Nat.{ℕ, ◌≤◌, ◌<◌}
use native.Mathlib.Decide.{dec_lt}
use native.Mathlib.Omega.{arith}
use lib.ListN.{get_or, replicate, get_or-replicate, length-replicate, get_or-eq_default}
use Rattle.lamp_line.specs.Tables.{Tables, column_count}
use Rattle.lamp_line.specs.inner.WellFormed.{WellFormed}
use Rattle.lamp_line.proofs.Products.{product_le}
use Rattle.lamp_fates.specs.inner.Memory.{memory_size, Memory}
use Rattle.run_laws.specs.inner.Pairs.{pairs}
use Rattle.run_laws.proofs.Pairs.{pairs_few}

-- An entry of a list of zeros is 0.
blank : (n i : ℕ) → get_or (replicate {A = ℕ} n 0) i 0 ≡ 0
blank n i = go (dec_lt i n)
  where
    go : Dec (i < n) → get_or (replicate {A = ℕ} n 0) i 0 ≡ 0
    go (yes h) = get_or-replicate n i 0 0 h
    go (no h) = get_or-eq_default (replicate n 0) 0 {n = i} (omega (arith, length-replicate {A = ℕ} n 0))

-- A list of zeros is a memory, if it is long enough.
pub blank_memory : (t : Tables) (n : ℕ) → memory_size t ≤ n → Memory t (replicate n 0)
blank_memory t n enough =
    record {
      room = omega (arith, length-replicate {A = ℕ} n 0);
      unknown_or_right = λ p column range c<. inl (blank n _);
    }

-- There are at most 16 columns, each with an entry for every pair.
pub entries_most : {t : Tables} → WellFormed t → memory_size t ≤ 66560
entries_most {t} wf = product_le 16 4160 (column_count t) (pairs t) wf.formed.columns_range (pairs_few wf)
