-- The replay decides: what it answers is so, and what is so it answers; and what the logs of a line are.
use Rattle.std.proofs.Common.{◌≡◌, refl, sym, ◌∙◌, ◌≢◌, ◌↔◌, List, ◌++◌, ℕ, length, Option, None, Some, Ok, Err, arith}
use Rattle.plans.specs.Execution.{Label}
use Rattle.plans.proofs.Executions.{forever_before}
use Rattle.lamp_line.specs.declared.Refusal.{Refusal}
use Rattle.lamp_line.specs.declared.FailureKind.TheVariants.{NotLegal, NoBranch, Circles, GoalFalse}
use Rattle.lamp_line.specs.declared.Ending.{Ending}
use Rattle.lamp_line.specs.declared.Ending.TheVariants.{Goal, Failure}
use Rattle.lamp_line.specs.Tables.{lamp_theory, plan_of}
use Rattle.lamp_line.specs.Run.{own_steps}
use Rattle.lamp_line.specs.Refusals.{refusal}
use Rattle.lamp_line.specs.Executions.{RestsAfter, Comes}
use Rattle.lamp_line.specs.Replay.{Gives}
use Rattle.log_laws.proofs.Logs.{beginning_possible, empty_possible, possible_everywhere, first_once, entry_of_plan, rest_gives, forever_gives}
use Rattle.job_layout.specs.JobTables.{tables_of}
use Rattle.job_tables.proofs.Ranges.{well_formed}
use Rattle.log_replay.specs.declared.ReplayError.TheVariants.{ImpossibleAt, Refused}
use Rattle.log_replay.specs.ReplayAnswers.{replay_refusals, ReplayAnswer, ReplayedRight, ReplayedBy}
use Rattle.guarantee.specs.ReplayPromises.{PossibleExactly, PlaceExactly, ReplayDetermined, BeginningPossible, EmptyPossible, EntryOfPlan, EntriesCounted, CirclingGoesOn}

-- ---- the answers

pub possible_exactly : PossibleExactly
unfolding ReplayedRight
possible_exactly s log (Ok _) not_refused replayed = (λ _. rw not_refused at replayed, λ _. refl)
possible_exactly s log (Err (ImpossibleAt place)) not_refused replayed =
    let first = rw not_refused at replayed in (
      λ e. absurd cc,
      λ possible. absurd (possible_everywhere (tables_of s) possible first),
    )
possible_exactly s log (Err (Refused because)) not_refused replayed = absurd (rw not_refused at replayed)

pub place_exactly : PlaceExactly
unfolding ReplayedRight
place_exactly s log (Ok _) not_refused replayed place =
    let possible = rw not_refused at replayed in (
      λ e. absurd cc,
      λ first. absurd (possible_everywhere (tables_of s) possible first),
    )
place_exactly s log (Err (ImpossibleAt place')) not_refused replayed place =
    let first' = rw not_refused at replayed in (
      λ e. let same : place' ≡ place = cc in rw same at first',
      λ first. let same = first_once (tables_of s) first' first in cc,
    )
place_exactly s log (Err (Refused because)) not_refused replayed place = absurd (rw not_refused at replayed)

pub replay_determined : ReplayDetermined
unfolding ReplayedRight
replay_determined s log r r' = by (refusal (replay_refusals s log)) r r'
  where
    by : (o : Option Refusal) (r r' : ReplayAnswer) → ReplayedBy o (tables_of s) log r → ReplayedBy o (tables_of s) log r' → r ≡ r'
    by (Some because) r r' e e' = e ∙ sym e'
    by None (Ok _) (Ok _) possible possible' = refl
    by None (Ok _) (Err (ImpossibleAt place)) possible first = absurd (possible_everywhere (tables_of s) possible first)
    by None (Err (ImpossibleAt place)) (Ok _) first possible = absurd (possible_everywhere (tables_of s) possible first)
    by None (Err (ImpossibleAt place)) (Err (ImpossibleAt place')) first first' =
        let same = first_once (tables_of s) first first' in cc
    by None (Err (Refused because)) r' none' right = absurd none'
    by None r (Err (Refused because)) right none' = absurd none'

-- ---- logs

pub beginnings_possible : BeginningPossible
beginnings_possible = beginning_possible

pub empty_log_possible : EmptyPossible
empty_log_possible s j opened = empty_possible (tables_of s) (well_formed s j opened)

pub entries_of_plan : EntryOfPlan
entries_of_plan t start line log = entry_of_plan t

pub entries_counted : EntriesCounted
unfolding Comes own_steps
entries_counted s j opened start line beginning = by
  where
    rests :
        {x : Ending} {k : ℕ} (rest : RestsAfter (tables_of s) x k start line) → own_steps x ≡ 0 →
        (labels : List Label) × (length labels ≡ k) ×
        ((log : List Label) → Gives (tables_of s) start line log ↔ ((more : List Label) × (labels ≡ log ++ more)))
    rests rest none_own =
        (rest.labels, omega (arith, rest.count), rest_gives (tables_of s) (well_formed s j opened) beginning rest)

    by :
        (x : Ending) (k : ℕ) → Comes (tables_of s) x k start line → x ≢ Failure Circles →
        (labels : List Label) × (length labels ≡ k) ×
        ((log : List Label) → Gives (tables_of s) start line log ↔ ((more : List Label) × (labels ≡ log ++ more)))
    by Goal k rest other = rests rest refl
    by (Failure NotLegal) k rest other = rests rest refl
    by (Failure NoBranch) k rest other = rests rest refl
    by (Failure Circles) k rest other = absurd (other refl)
    by (Failure GoalFalse) k rest other = rests rest refl

pub circling_goes_on : CirclingGoesOn
unfolding Comes
circling_goes_on s start line beginning k circles =
    forever_gives (tables_of s) beginning
    (forever_before (lamp_theory (tables_of s)) (plan_of (tables_of s)) circles.execution circles.forever)
