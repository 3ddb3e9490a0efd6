-- A list of bytes in pairs: how many there are, and which bytes each has.
use Rattle.std.proofs.Common.{◌≡◌, refl, ap, ◌∙◌, List, [], ℕ, zero, suc, ◌+◌, ◌*◌, ◌<◌, arith, length, get_or, take, drop, get_or-take, get_or-drop}
use Rattle.std.specs.Simd.{first_chunks}
use Rattle.std.proofs.lemmas.List.{drop-drop}

pub count_of_pairs : (n : ℕ) (l : List ℕ) → length (first_chunks 2 n l) ≡ n
count_of_pairs zero l = refl
count_of_pairs (suc n) l = ap suc (count_of_pairs n (drop 2 l))

pair_at : (n : ℕ) (l : List ℕ) (i : ℕ) → i < n → get_or (first_chunks 2 n l) i [] ≡ take 2 (drop (2 * i) l)
pair_at zero l i i< = absurd (omega arith)
pair_at (suc n) l zero i< = refl
pair_at (suc n) l (suc i) i< =
    let e : 2 + 2 * i ≡ 2 * suc i = omega arith in
    pair_at n (drop 2 l) i (omega arith) ∙ ap (take 2) (drop-drop (2 * i) 2 l ∙ ap (λ (k : ℕ). drop k l) e)

-- The pair i has the two bytes from 2 * i on.
pub byte_of_pair :
    (l : List ℕ) (n i k : ℕ) → i < n → k < 2 → get_or (get_or (first_chunks 2 n l) i []) k 0 ≡ get_or l (2 * i + k) 0
byte_of_pair l n i k i< k< =
    ap (λ (p : List ℕ). get_or p k 0) (pair_at n l i i<)
    ∙ get_or-take 2 (drop (2 * i) l) k 0 k<
    ∙ get_or-drop (2 * i) l k 0
