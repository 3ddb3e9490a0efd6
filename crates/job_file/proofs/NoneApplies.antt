-- A job that the reader answers is the file's head, and none of the eleven refusals applies to the file.
use mathlib.Core.Path.{◌≡◌, refl, sym, subst}
use mathlib.Core.Bool.{false}
use Rattle.std.specs.Prelude.{Option, None, Some, Ok}
use mathlib.Core.List.{List}
use Prim.Native.Nat.{ℕ}
use native.Mathlib.Omega.{arith}
use Rattle.lamp_line.specs.Refusals.{refusal, or_refused, answer_by}
use Rattle.lamp_line.proofs.Answering.{first_not_applied}
use Rattle.job_layout.specs.declared.Job.{Job}
use Rattle.job_layout.specs.Layout.{head}
use Rattle.job_layout.specs.FileRefusals.{size_wrong, number_wrong, place_wrong, length_wrong, mark_wrong, cell_wrong, end_wrong, start_wrong, goal_wrong, action_wrong, target_wrong}
use Rattle.lamp_line.specs.declared.Refusal.{Refusal}
use Rattle.job_file.specs.Reading.{refusals, file_refusals, reading_of, Opened}

-- The job j is the head of the file s, and none of refusals 1 to 11 applies to the file.
pub record NoneApplies (s : List ℕ) (j : Job) : Type 0 where
  pub is_head : j ≡ head s
  pub size : size_wrong s ≡ false
  pub numbers : number_wrong s j ≡ false
  pub places : place_wrong s j ≡ false
  pub lengths : length_wrong j ≡ false
  pub marks : mark_wrong s j ≡ false
  pub cells : cell_wrong s j ≡ false
  pub ends : end_wrong s j ≡ false
  pub starts : start_wrong s j ≡ false
  pub goals : goal_wrong s j ≡ false
  pub actions : action_wrong s j ≡ false
  pub targets : target_wrong s j ≡ false

answered : (o : Option Refusal) (h j : Job) → or_refused o (Ok h) ≡ Ok j → (o ≡ None) × (j ≡ h)
answered None h j e = (refl, cc)
answered (Some because) h j e = absurd (let z : ◌≡◌ {A = ℕ} 0 1 = cc in omega arith)

none_of : (s : List ℕ) (j : Job) → j ≡ head s → refusal (refusals s j) ≡ None → NoneApplies s j
none_of s j is_head e =
    let r₁ = first_not_applied _ _ _ e in
    let r₂ = first_not_applied _ _ _ r₁.1 in
    let r₃ = first_not_applied _ _ _ r₂.1 in
    let r₄ = first_not_applied _ _ _ r₃.1 in
    let r₅ = first_not_applied _ _ _ r₄.1 in
    let r₆ = first_not_applied _ _ _ r₅.1 in
    let r₇ = first_not_applied _ _ _ r₆.1 in
    let r₈ = first_not_applied _ _ _ r₇.1 in
    let r₉ = first_not_applied _ _ _ r₈.1 in
    let r₁₀ = first_not_applied _ _ _ r₉.1 in
    let r₁₁ = first_not_applied _ _ _ r₁₀.1 in
    record {
      is_head = is_head;
      size = r₁.0;
      numbers = r₂.0;
      places = r₃.0;
      lengths = r₄.0;
      marks = r₅.0;
      cells = r₆.0;
      ends = r₇.0;
      starts = r₈.0;
      goals = r₉.0;
      actions = r₁₀.0;
      targets = r₁₁.0;
    }

-- This holds if the reader answers j.
pub none_applies : (s : List ℕ) (j : Job) → Opened s j → NoneApplies s j
unfolding reading_of answer_by
none_applies s j opened =
    let a = answered (refusal (file_refusals s)) (head s) j opened in
    none_of s j a.1 (subst (λ (h : Job). refusal (refusals s h) ≡ None) (sym a.1) a.0)
