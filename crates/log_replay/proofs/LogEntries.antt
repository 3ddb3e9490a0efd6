-- The entries of a log: the pairs of its bytes, how many the first n are, and that the first k of them are their beginning.
use Rattle.std.proofs.Common.{◌≡◌, refl, sym, ap, ◌∙◌, List, [], ◌∷◌, ◌++◌, append_assoc, append-nil, ℕ, zero, suc, ◌+◌, ◌*◌, ◌≤◌, ◌<◌, arith, length, get_or, take, length-append, take_all}
use Rattle.std.specs.Simd.{first_chunks}
use native.Mathlib.Decide.{ℕ_discrete}
use lib.Seq.{take-append-le}
use Rattle.plans.specs.Execution.{Label}
use Rattle.lamp_line.proofs.PairsOfBytes.{byte_of_pair}
use Rattle.log_replay.specs.Logs.{log_entry, first_entries}

-- ---- the bytes in pairs

-- The pair i holds entry i.
pub entry_of_pair : (log : List ℕ) (n i : ℕ) → i < n → log_entry (get_or (first_chunks 2 n log) i []) 0 ≡ log_entry log i
entry_of_pair log n i i< =
    let e : 2 * i + 0 ≡ 2 * i = omega arith in
    rw (byte_of_pair log n i 0 i< (omega arith), e, byte_of_pair log n i 1 i< (omega arith))

-- ---- the entries

module _ (log : List ℕ) where
  pub length_entries : (n : ℕ) → length (first_entries log n) ≡ n
  unfolding first_entries
  length_entries zero = refl
  length_entries (suc n) = omega (arith, length_entries n, length-append (first_entries log n) (log_entry log n ∷ []))

  -- The first n entries begin with the first k.
  pub entries_begin : (k n : ℕ) → k ≤ n → (more : List Label) × (first_entries log n ≡ first_entries log k ++ more)
  unfolding first_entries
  entries_begin k zero k≤ = let same : k ≡ 0 = omega arith in ([], rw same)
  entries_begin k (suc n) k≤ = by (entries_begin k n) (ℕ_discrete k (suc n))
    where
      by :
          (k ≤ n → (more : List Label) × (first_entries log n ≡ first_entries log k ++ more)) → Dec (k ≡ suc n) →
          (more : List Label) × (first_entries log (suc n) ≡ first_entries log k ++ more)
      by earlier (yes same) = ([], rw same (sym (append-nil _)))
      by earlier (no other) =
          let (more, is) = earlier (omega arith) in
          (more ++ (log_entry log n ∷ []), ap (λ (ls : List Label). ls ++ (log_entry log n ∷ [])) is ∙ append_assoc (first_entries log k) more (log_entry log n ∷ []))

  pub take_entries : (k n : ℕ) → k ≤ n → take k (first_entries log n) ≡ first_entries log k
  take_entries k n k≤ =
      let (more, is) = entries_begin k n k≤ in
      ap (take k) is
      ∙ take-append-le k (first_entries log k) more (omega (arith, length_entries k))
      ∙ take_all k (first_entries log k) (omega (arith, length_entries k))
