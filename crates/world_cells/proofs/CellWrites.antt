-- Writing cells, one after the other, where no rule has written.
use Rattle.std.proofs.Common.{Bool, true, false, cond, List, [], ◌∷◌, inl, inr, ⊎_elim, ◌≢◌, ◌≡◌, refl, sym, ap, ◌∙◌, ℕ, ◌+◌, ◌*◌, ◌≤◌, ◌<◌, arith, length, set, get_or-set_same, get_or-set_other}
use Rattle.std.proofs.lemmas.List.{length-set}
use native.Mathlib.Decide.{ℕ_discrete}
use Rattle.world_cells.specs.inner.CellsWritten.{cell_at, undecided, with_cell, Claimed}
use Rattle.world_cells.proofs.RulesApplied.{same_undecided}

pub written_cell : (part : List ℕ) (i next result : ℕ) → 2 * i + 1 < length part → cell_at (with_cell part i next result) i ≡ next ∷ result ∷ []
written_cell part i next result in_part =
    rw (
      get_or-set_other (set part (2 * i) next) (2 * i + 1) (2 * i) result 0 (λ e. omega arith),
      get_or-set_same part (2 * i) next 0 (omega arith),
      get_or-set_same (set part (2 * i) next) (2 * i + 1) result 0 (rw (length-set part (2 * i) next) in_part),
    )

pub kept_cell : (part : List ℕ) (i next result j : ℕ) → j ≢ i → cell_at (with_cell part i next result) j ≡ cell_at part j
kept_cell part i next result j other =
    rw (
      get_or-set_other (set part (2 * i) next) (2 * i + 1) (2 * j) result 0 (λ e. omega arith),
      get_or-set_other part (2 * i) (2 * j) next 0 (λ e. other (omega arith)),
      get_or-set_other (set part (2 * i) next) (2 * i + 1) (2 * j + 1) result 0 (λ e. other (omega arith)),
      get_or-set_other part (2 * i) (2 * j + 1) next 0 (λ e. omega arith),
    )

-- One cell more.
pub claimed_more :
    {before part after : List ℕ} {first i next result : ℕ} → Claimed before part first i next result → first ≤ i → 2 * i + 1 < length before →
    after ≡ cond (undecided part i) (with_cell part i next result) part → Claimed before after first (i + 1) next result
claimed_more {before} {part} {after} {first} {i} {next} {result} so_far low in_part change =
    let same = so_far.kept i (inr (omega arith)) in
    record {
      long = ap length change ∙ by_length (undecided part i) ∙ so_far.long;
      claimed = λ j first≤ j<. rw change (at j first≤ (ℕ_discrete j i) j< (undecided part i) (same_undecided before part i same) same);
      kept = λ j outside.
          rw change (elsewhere j (λ e. ⊎_elim (λ h. omega arith) (λ h. omega arith) outside) (undecided part i))
          ∙ so_far.kept j (⊎_elim (λ h. inl h) (λ h. inr (omega arith)) outside);
    }
  where
    by_length : (b : Bool) → length (cond b (with_cell part i next result) part) ≡ length part
    by_length true = simp length-set
    by_length false = refl

    elsewhere : (j : ℕ) → j ≢ i → (b : Bool) → cell_at (cond b (with_cell part i next result) part) j ≡ cell_at part j
    elsewhere j other true = kept_cell part i next result j other
    elsewhere j other false = refl

    here : (b : Bool) → cell_at part i ≡ cell_at before i →
        cell_at (cond b (with_cell part i next result) part) i ≡ cond b (next ∷ result ∷ []) (cell_at before i)
    here true same = written_cell part i next result (rw so_far.long in_part)
    here false same = same

    at : (j : ℕ) → first ≤ j → Dec (j ≡ i) → j < i + 1 → (b : Bool) → b ≡ undecided before i → cell_at part i ≡ cell_at before i →
        cell_at (cond b (with_cell part i next result) part) j ≡ cond (undecided before j) (next ∷ result ∷ []) (cell_at before j)
    at j first≤ (yes e) j< b same_b same = rw (e, sym same_b) (here b same)
    at j first≤ (no other) j< b same_b same = elsewhere j other b ∙ so_far.claimed j first≤ (omega arith)
