-- The cells of a part of a file are its bytes in pairs: a test of such pairs, and the property of the places that it stands for.
use Rattle.std.proofs.Common.{◌≡◌, ◌∙◌, Bool, List, [], ℕ, ◌+◌, ◌-◌, ◌*◌, ◌/◌, ◌≤◌, ◌<◌, ap, length, get_or, arith}
use Rattle.std.specs.List.{list_any, between}
use Rattle.std.specs.Simd.{first_chunks}
use Rattle.std.proofs.lemmas.List.Edits.{length-between, get_or-between}
use Rattle.lamp_line.specs.Refusals.{some_below}
use Rattle.lamp_line.proofs.PairsOfBytes.{count_of_pairs, byte_of_pair}
use Rattle.lamp_line.proofs.Scan.{any_by_place}
use Rattle.job_layout.specs.FileRefusals.{cell_wrong_in, cell_wrong_at}

-- The test of a pair of bytes.
abbrev pub pair_wrong : ℕ → ℕ → List ℕ → Bool
pair_wrong worlds results cell = cell_wrong_in worlds results (get_or cell 0 0) (get_or cell 1 0)

module _ (l : List ℕ) (from count : ℕ) (within : from + 2 * count ≤ length l) where
  abbrev part : List ℕ
  part = between from (from + 2 * count) l

  byte_at : (i k : ℕ) → i < count → k < 2 → get_or (get_or (first_chunks 2 count part) i []) k 0 ≡ get_or l (from + 2 * i + k) 0
  byte_at i k i< k< =
      let e : from + (2 * i + k) ≡ from + 2 * i + k = omega arith in
      byte_of_pair part count i k i< k<
      ∙ get_or-between l from (from + 2 * count) (2 * i + k) 0 (omega arith)
      ∙ ap (λ (n : ℕ). get_or l n 0) e

  -- Some pair of the part is wrong exactly when some cell is out of range.
  pub any_pair_wrong :
      (worlds results : ℕ) →
      list_any (pair_wrong worlds results) (first_chunks 2 (length part / 2) part) ≡ some_below count (cell_wrong_at l from worlds results)
  any_pair_wrong worlds results =
      let long : length part ≡ from + 2 * count - from = length-between l from (from + 2 * count) within in
      let half : length part / 2 ≡ count = omega arith in
      rw half
      (any_by_place (pair_wrong worlds results) (cell_wrong_at l from worlds results) (first_chunks 2 count part) []
      (λ i i<.
      let i<count : i < count = omega (arith, count_of_pairs count part) in
      let e : from + 2 * i + 0 ≡ from + 2 * i = omega arith in
      rw (byte_at i 0 i<count (omega arith), e, byte_at i 1 i<count (omega arith)))
      ∙ ap (λ (n : ℕ). some_below n (cell_wrong_at l from worlds results)) (count_of_pairs count part))
