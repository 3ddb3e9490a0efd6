-- Refusals (01, "Who can cause which number"). The refusals of an operation are a list in ascending order of their numbers, each with
-- its condition; the operation answers the first whose condition holds.
use Rattle.std.specs.Prelude.{Bool, true, false, ◌||◌, List, [], ◌∷◌, ℕ, zero, suc, Option, None, Some, Result, Ok, Err}
use Rattle.lamp_line.specs.declared.Refusal.{Refusal}
use Rattle.lamp_line.specs.declared.Refusal.TheVariants as refused

-- The numbers that 01 and 02 give to the refusals.
abbrev pub refusal_number : Refusal → ℕ
refusal_number refused.FileSize = 1
refusal_number refused.HeadNumber = 2
refusal_number refused.PartPlace = 3
refusal_number refused.PartLength = 4
refusal_number refused.Mark = 5
refusal_number refused.Cell = 6
refusal_number refused.LegalAtEnd = 7
refusal_number refused.StartMark = 8
refusal_number refused.GoalCell = 9
refusal_number refused.PlanAction = 10
refusal_number refused.PlanTarget = 11
refusal_number refused.LineBuffer = 12
refusal_number refused.WorkingSpace = 13
refusal_number refused.Start = 14
refusal_number refused.Line = 15
refusal_number refused.State = 16
refusal_number refused.AfterEnd = 17
refusal_number refused.NoTarget = 18
refusal_number refused.NoLampLeft = 19
refusal_number refused.LogSize = 20
refusal_number refused.LogEntry = 21
refusal_number refused.Rules = 22
refusal_number refused.CellsLength = 23

-- A refusal, and whether its condition holds.
infix 20 ◌when◌
pub data Rule : Type 0 where
  ◌when◌ : Refusal → Bool → Rule

-- The first refusal that applies, if there is one.
unfoldable pub refusal : List Rule → Option Refusal
refusal [] = None
refusal ((because when true) ∷ rules) = Some because
refusal ((because when false) ∷ rules) = refusal rules

-- What an operation answers: what it was called for, or a refusal.
abbrev pub Answer : Type 0 → Type 0
Answer A = Result A Refusal

-- A refusal, if there is one; otherwise the answer.
abbrev pub or_refused : {A : Type 0} → Option Refusal → Answer A → Answer A
or_refused None answer = answer
or_refused (Some because) answer = Err because

-- An operation answers the first refusal that applies; if none applies, its own answer.
unfoldable pub answer_by : {A : Type 0} → List Rule → A → Answer A
answer_by rules answer = or_refused (refusal rules) (Ok answer)

-- Some number below n has the property.
unfoldable pub some_below : ℕ → (ℕ → Bool) → Bool
some_below zero p = false
some_below (suc n) p = p n || some_below n p

-- Some element of the list has the property.
unfoldable pub some_of : List ℕ → (ℕ → Bool) → Bool
some_of [] p = false
some_of (x ∷ l) p = p x || some_of l p
