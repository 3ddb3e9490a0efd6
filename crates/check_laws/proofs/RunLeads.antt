-- The run of a line has an ending exactly when the execution leads to this ending, whatever the number of steps. So every execution
-- reaches the goal or fails.
use mathlib.Core.Path.{◌≡◌, refl}
use mathlib.Core.Logic.{◌⊎◌, inl, inr}
use Prim.Native.Nat.{ℕ, ◌+◌}
use lib.ListN.{length}
use Rattle.lamp_line.specs.declared.WorldState.{WorldState}
use Rattle.lamp_line.specs.declared.FailureKind.{FailureKind}
use Rattle.lamp_line.specs.declared.FailureKind.TheVariants.{NotLegal, NoBranch, Circles, GoalFalse}
use Rattle.lamp_line.specs.declared.Ending.{Ending}
use Rattle.lamp_line.specs.declared.Ending.TheVariants.{Goal, Failure}
use Rattle.lamp_line.specs.Tables.{Tables, Line, Beginning, lamp_problem, plan_of}
use Rattle.lamp_line.specs.inner.WellFormed.{WellFormed}
use Rattle.lamp_line.specs.Endings.{Rests, Leads}
use Rattle.lamp_line.specs.Check.{situation, Fails}
use Rattle.lamp_line.specs.Run.{Run, ran, own_steps, run}
use Rattle.lamp_line.specs.Executions.{RestsAfter, Comes}
use Rattle.run_laws.proofs.RunIsExecution.{run_is_execution, circles_forever}

module _ (t : Tables) (wf : WellFormed t) (start : WorldState) (line : Line) (of : Beginning t start line) where
  -- The run has this ending, with some number of steps.
  abbrev pub RunComesTo : Ending → Type 0
  RunComesTo x = (k : ℕ) × (run t start line ≡ ran x k)

  abbrev RestsSo : Ending → Type 0
  RestsSo x = Rests (lamp_problem t) (plan_of t) x t.first (situation start line)

  rests_after : (x : Ending) → RestsSo x → (k : ℕ) × RestsAfter t x k start line
  rests_after x (ls, q, s, execution, ends) = (
    length ls + own_steps x,
    record { labels = ls; state = q; at = s; execution = execution; ends = ends; count = refl },
  )

  after_rests : {x : Ending} {k : ℕ} → RestsAfter t x k start line → RestsSo x
  after_rests r = (r.labels, r.state, r.at, r.execution, r.ends)

  -- If the execution leads to an ending, the run has this ending.
  pub leads_run : (x : Ending) → Leads (lamp_problem t) (plan_of t) x t.first (situation start line) → RunComesTo x
  unfolding Leads Comes
  leads_run Goal h = let (k, r) = rests_after Goal h in (k, (run_is_execution t wf start line of Goal k).1 r)
  leads_run (Failure NotLegal) h =
      let (k, r) = rests_after (Failure NotLegal) h in (k, (run_is_execution t wf start line of (Failure NotLegal) k).1 r)
  leads_run (Failure NoBranch) h =
      let (k, r) = rests_after (Failure NoBranch) h in (k, (run_is_execution t wf start line of (Failure NoBranch) k).1 r)
  leads_run (Failure Circles) h = (circles_forever t wf start line of).1 h
  leads_run (Failure GoalFalse) h =
      let (k, r) = rests_after (Failure GoalFalse) h in (k, (run_is_execution t wf start line of (Failure GoalFalse) k).1 r)

  -- If the run has an ending, the execution leads to it.
  pub run_leads : (x : Ending) → RunComesTo x → Leads (lamp_problem t) (plan_of t) x t.first (situation start line)
  unfolding Leads Comes
  run_leads Goal (k, e) = after_rests ((run_is_execution t wf start line of Goal k).0 e)
  run_leads (Failure NotLegal) (k, e) = after_rests ((run_is_execution t wf start line of (Failure NotLegal) k).0 e)
  run_leads (Failure NoBranch) (k, e) = after_rests ((run_is_execution t wf start line of (Failure NoBranch) k).0 e)
  run_leads (Failure Circles) h = (circles_forever t wf start line of).0 h
  run_leads (Failure GoalFalse) (k, e) = after_rests ((run_is_execution t wf start line of (Failure GoalFalse) k).0 e)

  -- The execution of a line reaches the goal or fails.
  pub goal_or_fails :
      Leads (lamp_problem t) (plan_of t) Goal t.first (situation start line) ⊎ ((kind : FailureKind) × Fails t kind start line)
  goal_or_fails = go (run t start line) refl
    where
      go :
          (r : Run) → run t start line ≡ r →
          Leads (lamp_problem t) (plan_of t) Goal t.first (situation start line) ⊎ ((kind : FailureKind) × Fails t kind start line)
      go (ran Goal k) e = inl (run_leads Goal (k, e))
      go (ran (Failure kind) k) e = inr (kind, record { beginning = of; leads = run_leads (Failure kind) (k, e) })
