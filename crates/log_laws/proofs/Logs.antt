-- Logs and the executions that give them: a beginning of a possible log is possible, an entry is the plan's, and the logs of a line
-- are the beginnings of its execution, as far as that goes.
use mathlib.Core.Path.{◌≡◌, sym, ap, subst, ◌∙◌}
use mathlib.Core.Logic.{◌≢◌, ◌↔◌}
use mathlib.Core.List.{List, [], ◌∷◌, ◌++◌}
use Prim.Native.Nat.{ℕ, suc, ◌<◌}
use native.Mathlib.Decide.{dec_lt}
use native.Mathlib.Omega.{arith}
use lib.ListN.{length, take, drop, take-append-drop}
use Rattle.plans.specs.Execution.{Label, action_of, here, Forever}
use Rattle.plans.proofs.Executions.{split_execution, last_step, same_labels_same_state, first_steps, shared_beginning, longest}
use Rattle.lamp_line.specs.declared.WorldState.{WorldState}
use Rattle.lamp_line.specs.declared.Ending.{Ending}
use Rattle.lamp_line.specs.Tables.{Tables, Line, Beginning, final, lamp_theory, plan_of}
use Rattle.lamp_line.specs.inner.WellFormed.{WellFormed}
use Rattle.lamp_line.specs.Check.{situation}
use Rattle.lamp_line.specs.Executions.{RestsAfter}
use Rattle.lamp_line.specs.Replay.{Gives, Possible, FirstImpossible}
use Rattle.run_laws.proofs.Steps.{steps_determined}
use Rattle.run_laws.proofs.Actions.{ends_halted}
use Rattle.run_laws.proofs.Columns.{some_column, line_at}

module _ (t : Tables) where
  -- What gives a log gives its beginnings.
  pub gives_beginning :
      {start : WorldState} {line : Line} (log more : List Label) → Gives t start line (log ++ more) → Gives t start line log
  gives_beginning log more given =
      let (q, s, before, after) = split_execution (lamp_theory t) (plan_of t) log given.execution in
      record { beginning = given.beginning; state = q; at = s; execution = before }

  -- The beginning of a possible log is possible.
  pub beginning_possible : (log more : List Label) → Possible t (log ++ more) → Possible t log
  beginning_possible log more (start, line, given) = (start, line, gives_beginning log more given)

  -- The log without entries is possible.
  pub empty_possible : WellFormed t → Possible t []
  empty_possible wf =
      let (start, marked) = wf.formed.some_start in
      let at = line_at t (some_column t) in
      let beginning : Beginning t start at.line = record { marked = marked; fits = at.fits } in
      (start, at.line, record { beginning = beginning; state = t.first; at = situation start at.line; execution = here })

  -- A possible log has no impossible entry.
  pub possible_everywhere : {log : List Label} {place : ℕ} → Possible t log → ¬ (FirstImpossible t log place)
  possible_everywhere {log} {place} possible first =
      first.impossible
      (beginning_possible (take (suc place) log) (drop (suc place) log) (rw (take-append-drop (suc place) log) possible))

  -- There is only one first impossible entry.
  pub first_once : {log : List Label} {i k : ℕ} → FirstImpossible t log i → FirstImpossible t log k → i ≡ k
  first_once {log} {i} {k} first first' = by (dec_lt i k) (dec_lt k i)
    where
      by : Dec (i < k) → Dec (k < i) → i ≡ k
      by (yes i<) _ = absurd (first.impossible (first'.possible_before i i<))
      by (no i≮) (yes k<) = absurd (first'.impossible (first.possible_before k k<))
      by (no i≮) (no k≮) = omega arith

  -- An entry after a log: the plan has not ended with the log, and the action is the plan's in the program state to which it leads.
  pub entry_of_plan :
      {start : WorldState} {line : Line} {log : List Label} (given : Gives t start line log) (l : Label) →
      Possible t (log ++ (l ∷ [])) → (given.state ≢ final t) × (action_of l ≡ t.action given.state)
  entry_of_plan {log = log} given l (start, line, more) =
      let by = last_step (lamp_theory t) (plan_of t) log more.execution in
      let same = same_labels_same_state (lamp_theory t) (plan_of t) given.execution by.before in
      (λ ended. by.last.live (sym same ∙ ended), by.last.acts ∙ ap t.action (sym same))

  -- An execution that comes to rest gives just the beginnings of its labels.
  pub rest_gives :
      WellFormed t → {start : WorldState} {line : Line} → Beginning t start line → {x : Ending} {k : ℕ}
      (rests : RestsAfter t x k start line) (log : List Label) →
      Gives t start line log ↔ ((more : List Label) × (rests.labels ≡ log ++ more))
  rest_gives wf {start} {line} beginning {x} rests log = (
    λ given.
        let halted = ends_halted t wf x rests.state rests.at rests.ends in
        let det = steps_determined t wf in
        let shorter = longest (lamp_theory t) (plan_of t) det rests.execution halted given.execution in
        let (more, same, after) =
        shared_beginning (lamp_theory t) (plan_of t) det given.execution rests.execution shorter in
        (more, same),
    λ (more, same).
        gives_beginning log more
        (subst (λ (ls : List Label). Gives t start line ls) same
        (record { beginning = beginning; state = rests.state; at = rests.at; execution = rests.execution })),
  )

  -- One that goes on for ever gives a log of every length.
  pub forever_gives :
      {start : WorldState} {line : Line} → Beginning t start line →
      Forever (lamp_theory t) (plan_of t) t.first (situation start line) → (n : ℕ) →
      (log : List Label) × (length log ≡ n) × Gives t start line log
  forever_gives beginning forever n =
      let (log, long, execution) = first_steps (lamp_theory t) (plan_of t) forever n in
      (log, long, record { beginning = beginning; state = forever.states n; at = forever.situations n; execution = execution })
