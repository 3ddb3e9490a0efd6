-- The user's demand 2: the answers of the run (01, "One run") are those of the execution of 001, Definitions 2 and 4.
use Rattle.std.specs.Prelude.{◌≡◌, ◌↔◌, List, ℕ, ◌+◌, ◌*◌, ◌≤◌, ◌<◌, length, None, Ok}
use Rattle.plans.specs.Execution.{Label, T*, Forever}
use Rattle.lamp_line.specs.declared.ProgramState.{ProgramState}
use Rattle.lamp_line.specs.declared.WorldState.{WorldState}
use Rattle.lamp_line.specs.declared.FailureKind.TheVariants.{Circles}
use Rattle.lamp_line.specs.declared.Ending.{Ending}
use Rattle.lamp_line.specs.declared.Ending.TheVariants.{Failure}
use Rattle.lamp_line.specs.Tables.{Line, column, Situation, lamp_theory, plan_of}
use Rattle.lamp_line.specs.Refusals.{refusal}
use Rattle.lamp_line.specs.declared.Pair.{Pair}
use Rattle.lamp_line.specs.Run.{lamp_walk}
use Rattle.lamp_line.specs.Check.{situation}
use Rattle.lamp_line.specs.Executions.{Comes}
use Rattle.lamp_line.specs.WalkMeaning.{WalkSays}
use Rattle.job_layout.specs.declared.Job.{Job}
use Rattle.job_layout.specs.JobTables.{tables_of}
use Rattle.job_file.specs.Reading.{Opened}
use Rattle.line_refusals.specs.LineRefusals.{line_refusals}
use Rattle.line_run.specs.declared.Ran.TheVariants.{Ended, Stopped}
use Rattle.line_run.specs.RunAnswers.{run_answer}

-- ---- the run

-- A statement about every run that is not refused, from a start along a line.
abbrev OfEveryRun : (List ℕ → WorldState → Line → Type 0) → Type 0
OfEveryRun Says = (s : List ℕ) (start : WorldState) (line : Line) → refusal (line_refusals s start line) ≡ None → Says s start line

-- An ending with k steps is answered exactly when the execution reaches that ending with k counted steps and the limit allows k.
abbrev pub RunEndsExactly : Type 0
RunEndsExactly =
    OfEveryRun (λ s start line. (limit : ℕ) (x : Ending) (k : ℕ) →
    (run_answer s start line limit ≡ Ok (Ended x k)) ↔ (Comes (tables_of s) x k start line × (k ≤ limit)))

-- Stopped is answered exactly when the execution has no ending within the limit; the number in the answer is the limit.
abbrev pub RunStopsExactly : Type 0
RunStopsExactly =
    OfEveryRun (λ s start line. (limit n : ℕ) →
    (run_answer s start line limit ≡ Ok (Stopped n))
    ↔ ((n ≡ limit) × ((x : Ending) (k : ℕ) → Comes (tables_of s) x k start line → limit < k)))

-- With the greatest 32-bit limit, the answer is failure 3 exactly for executions that never end.
abbrev pub RunCirclesExactly : Type 0
RunCirclesExactly =
    OfEveryRun (λ s start line.
    ((k : ℕ) × (run_answer s start line 4294967295 ≡ Ok (Ended (Failure Circles) k)))
    ↔ Forever (lamp_theory (tables_of s)) (plan_of (tables_of s)) (tables_of s).first (situation start line))

-- Along n lamps at most (n + 1)·S·W steps are counted.
abbrev pub RunIsBounded : Type 0
RunIsBounded =
    OfEveryRun (λ s start line. (limit : ℕ) (x : Ending) (k : ℕ) → run_answer s start line limit ≡ Ok (Ended x k) →
    k ≤ (length line.lamps + 1) * ((tables_of s).states * (tables_of s).worlds))

-- ---- the execution, and the one-lamp walk

-- The execution is deterministic: two executions with the same beginning and the same number of steps have the same labels, and reach
-- the same program state and situation.
abbrev pub Deterministic : Type 0
Deterministic =
    (s : List ℕ) (j : Job) → Opened s j → (q q₁ q₂ : ProgramState) (at at₁ at₂ : Situation) (ls ms : List Label) →
    T* (lamp_theory (tables_of s)) (plan_of (tables_of s)) ls q at q₁ at₁ →
    T* (lamp_theory (tables_of s)) (plan_of (tables_of s)) ms q at q₂ at₂ → length ls ≡ length ms →
    (ls ≡ ms) × (q₁ ≡ q₂) × (at₁ ≡ at₂)

-- What a walk answers is true of the execution, for every pair of the tables, at the first lamp of any line or at the line's end.
abbrev pub WalkIsExecution : Type 0
WalkIsExecution =
    (s : List ℕ) (j : Job) → Opened s j → (line : Line) (p : Pair) → p.state.0 ≤ j.states → p.world.0 < j.worlds →
    WalkSays (tables_of s) line p (lamp_walk (tables_of s) p (column (tables_of s) line))
