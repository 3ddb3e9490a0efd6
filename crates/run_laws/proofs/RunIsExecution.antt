-- The run of 01 is the execution of 001. What the run says is true of the execution, which has only one ending and one count; so
-- the run has an ending and a count exactly when the execution has them.
use mathlib.Core.Path.{◌≡◌, refl}
use mathlib.Core.Logic.{◌↔◌}
use Prim.Native.Nat.{ℕ}
use Rattle.plans.specs.Execution.{Forever}
use Rattle.lamp_line.specs.declared.WorldState.{WorldState}
use Rattle.lamp_line.specs.declared.FailureKind.TheVariants.{Circles}
use Rattle.lamp_line.specs.declared.Ending.{Ending}
use Rattle.lamp_line.specs.declared.Ending.TheVariants.{Failure}
use Rattle.lamp_line.specs.Tables.{Tables, Line, Beginning, lamp_theory, plan_of}
use Rattle.lamp_line.specs.inner.WellFormed.{WellFormed}
use Rattle.lamp_line.specs.Check.{situation}
use Rattle.lamp_line.specs.Run.{Run, ran, run}
use Rattle.lamp_line.specs.Executions.{Comes}
use Rattle.run_laws.proofs.RunComes.{run_comes}
use Rattle.run_laws.proofs.OneEnding.{comes_once, circles_from_start, forever_circles}

-- The run has this ending with k counted steps exactly when the execution has.
pub run_is_execution :
    (t : Tables) → WellFormed t → (start : WorldState) (line : Line) → Beginning t start line → (x : Ending) (k : ℕ) →
    (run t start line ≡ ran x k) ↔ Comes t x k start line
run_is_execution t wf start line of x k = (run_comes t wf start line of x k, λ c. back c (run t start line) refl)
  where
    back : Comes t x k start line → (r : Run) → run t start line ≡ r → run t start line ≡ ran x k
    back c (ran x' k') e =
        let (f, g) = comes_once t wf start line of x x' k k' c (run_comes t wf start line of x' k' e) in
        cc

-- The run ends with failure 3 exactly when the execution goes on for ever (01, "One run").
pub circles_forever :
    (t : Tables) → WellFormed t → (start : WorldState) (line : Line) → Beginning t start line →
    ((k : ℕ) × (run t start line ≡ ran (Failure Circles) k)) ↔
    Forever (lamp_theory t) (plan_of t) t.first (situation start line)
unfolding Comes
circles_forever t wf start line of = (forward, λ f. back f (run t start line) refl)
  where
    forward :
        (k : ℕ) × (run t start line ≡ ran (Failure Circles) k) →
        Forever (lamp_theory t) (plan_of t) t.first (situation start line)
    forward (k, e) = circles_from_start t wf start line (run_comes t wf start line of (Failure Circles) k e)

    back :
        Forever (lamp_theory t) (plan_of t) t.first (situation start line) → (r : Run) → run t start line ≡ r →
        (k : ℕ) × (run t start line ≡ ran (Failure Circles) k)
    back f (ran x k) e =
        let g = forever_circles t wf start line f x k (run_comes t wf start line of x k e) in
        (k, cc)
