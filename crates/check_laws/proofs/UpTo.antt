-- The full check's verdict and the lines of up to a number of lamps (02, (b)): the verdict names one of them exactly when one of them
-- fails.
use mathlib.Core.Logic.{◌↔◌, inl, inr}
use mathlib.Core.List.{List, ◌∷◌}
use Prim.Native.Nat.{ℕ, ◌+◌, ◌*◌, ◌≤◌, ◌<◌}
use native.Mathlib.Decide.{dec_lt}
use native.Mathlib.Omega.{arith}
use lib.ListN.{length}
use Rattle.plans.specs.Execution.{Correct}
use Rattle.lamp_line.specs.declared.WorldState.{WorldState}
use Rattle.lamp_line.specs.declared.FailureKind.{FailureKind}
use Rattle.lamp_line.specs.Lists.{◌≼◌}
use Rattle.lamp_line.specs.Tables.{Tables, Line, lamp_problem, plan_of}
use Rattle.lamp_line.specs.inner.WellFormed.{WellFormed}
use Rattle.lamp_line.specs.Check.{Fails, rank, Counterexample, Verdict, accepted, failed, Right}
use Rattle.lamp_line.specs.ShortCheck.{NoneUpTo}
use Rattle.check_laws.specs.inner.Search.{Beyond, verdict_of}
use Rattle.check_laws.proofs.OneVerdict.{correct_never_fails}
use Rattle.check_laws.proofs.VerdictRight.{verdict_right}

first_number : (a b : ℕ) (l m : List ℕ) → (a ∷ l) ≼ (b ∷ m) → a ≤ b
unfolding ◌≼◌
first_number a b l m (inl h) = omega arith
first_number a b l m (inr (h, rest)) = omega arith

module _ (t : Tables) (wf : WellFormed t) (longest : ℕ) where
  -- No other failing line has fewer lamps than the counterexample.
  pub shortest :
      {kind kind' : FailureKind} {start start' : WorldState} {line line' : Line} →
      Counterexample t kind start line → Fails t kind' start' line' → length line.lamps ≤ length line'.lamps
  unfolding rank
  shortest {kind} {kind'} {start} {start'} {line} {line'} c d =
      first_number (length line.lamps) (length line'.lamps) _ _ (c.first kind' start' line' d)

  -- A right verdict names no line of up to that many lamps exactly when none of them fails.
  pub beyond_exactly : (v : Verdict) → Right t v → Beyond longest v ↔ NoneUpTo t longest
  unfolding Right
  beyond_exactly (accepted count) right = (λ beyond kind start line short. correct_never_fails t wf right.correct kind start line, λ none. tt)
  beyond_exactly (failed kind start line) right = (
    λ beyond kind' start' line' short fails. omega (arith, shortest right fails),
    λ none. go none (dec_lt longest (length line.lamps)),
  )
    where
      go : NoneUpTo t longest → Dec (longest < length line.lamps) → longest < length line.lamps
      go none (yes h) = h
      go none (no h) = absurd (none kind start line (omega arith) right.fails)

  -- If no line of up to S·W + 1 lamps fails, the plan is correct on all lines.
  pub far_enough : t.states * t.worlds + 1 ≤ longest → NoneUpTo t longest → Correct (lamp_problem t) (plan_of t)
  unfolding Right
  far_enough far none = go (verdict_of t) (verdict_right t wf)
    where
      go : (v : Verdict) → Right t v → Correct (lamp_problem t) (plan_of t)
      go (accepted count) right = right.correct
      go (failed kind start line) right = absurd (none kind start line (omega (arith, right.short)) right.fails)
