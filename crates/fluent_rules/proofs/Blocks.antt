-- Laws of `blocks`: a list whose parts are the blocks, one after the other, is all of them, and what stands where in them.
use mathlib.Core.List.{List, ◌++◌}
use mathlib.Core.Path.{◌≡◌, sym, ap, ◌∙◌}
use Prim.Native.Nat.{ℕ, zero, suc, ◌+◌, ◌*◌, ◌<◌}
use native.Mathlib.Decide.{ℕ_discrete}
use native.Mathlib.Nat.{zero-mul, suc-mul}
use native.Mathlib.Omega.{arith}
use lib.Arith.{digits_lt}
use lib.ListN.{length, get_or, take, drop, length-append, get_or-append}
use lib.Seq.{take-add, drop-drop, get_or-append-add}
use Rattle.lamp_line.specs.Lists.{blocks}

-- The k elements of a list from a place on.
abbrev pub piece : List ℕ → ℕ → ℕ → List ℕ
piece l from k = take k (drop from l)

piece_add : (l : List ℕ) (from m k : ℕ) → piece l from (m + k) ≡ piece l from m ++ piece l (from + m) k
piece_add l from m k = take-add m k (drop from l) ∙ ap (λ rest. take m (drop from l) ++ take k rest) (drop-drop m from l)

pub blocks_are : (n k : ℕ) (block : ℕ → List ℕ) (l : List ℕ) (from : ℕ) →
    ((i : ℕ) → i < n → piece l (from + i * k) k ≡ block i) → piece l from (n * k) ≡ blocks n block
unfolding blocks
blocks_are zero k block l from each = rw (zero-mul k)
blocks_are (suc n) k block l from each =
    rw (suc-mul n k, piece_add l from (n * k) k, blocks_are n k block l from (λ i i<. each i (omega arith)), each n (omega arith))

module _ (k : ℕ) (block : ℕ → List ℕ) (long : (i : ℕ) → length (block i) ≡ k) where
  pub blocks_length : (n : ℕ) → length (blocks n block) ≡ n * k
  unfolding blocks
  blocks_length zero = sym (zero-mul k)
  blocks_length (suc n) = rw (length-append (blocks n block) (block n), blocks_length n, long n) (sym (suc-mul n k))

  pub in_block : (n i j : ℕ) → i < n → j < k → get_or (blocks n block) (i * k + j) 0 ≡ get_or (block i) j 0
  unfolding blocks
  in_block zero i j i< j< = absurd (omega arith)
  in_block (suc n) i j i< j< = at (ℕ_discrete i n) (λ i<n. in_block n i j i<n j<)
    where
      at : Dec (i ≡ n) → (i < n → get_or (blocks n block) (i * k + j) 0 ≡ get_or (block i) j 0) →
          get_or (blocks n block ++ block n) (i * k + j) 0 ≡ get_or (block i) j 0
      at (yes e) earlier = rw (e, sym (blocks_length n)) (get_or-append-add (blocks n block) (block n) j 0)
      at (no other) earlier =
          get_or-append (blocks n block) (block n) 0 (i * k + j)
          (rw (blocks_length n) (digits_lt {q = i} {m = n} {r = j} {c = k} (omega arith) j<))
          ∙ earlier (omega arith)
