-- Request (b) of 02: the short check answers what the full check would, up to its bound; and what follows where it answers none.
use Rattle.std.proofs.Common.{◌≡◌, refl, sym, ap, subst, ◌∙◌, ◌↔◌, ⊎_elim, List, length, take, length-take-le, ℕ, ◌≤◌, ◌<◌, arith}
use Rattle.std.proofs.Common.{Option, None, Some, Ok, Err}
use native.Mathlib.Decide.{dec_lt}
use Rattle.lamp_line.specs.declared.Refusal.{Refusal}
use Rattle.lamp_line.specs.declared.Ending.TheVariants.{Goal}
use Rattle.lamp_line.specs.Tables.{Tables}
use Rattle.lamp_line.specs.inner.WellFormed.{WellFormed}
use Rattle.lamp_line.specs.Endings.{Ends, Leads}
use Rattle.lamp_line.specs.Check.{failed, Right}
use Rattle.lamp_line.specs.ShortCheck.{NoneUpTo}
use Rattle.check_laws.proofs.RunLeads.{goal_or_fails}
use Rattle.check_laws.proofs.OneVerdict.{goal_not_fails, correct_never_fails}
use Rattle.check_laws.proofs.UpTo.{beyond_exactly, far_enough}
use Rattle.job_layout.specs.Layout.{head}
use Rattle.job_layout.specs.JobTables.{tables_of}
use Rattle.job_file.specs.Reading.{Opened}
use Rattle.job_file.proofs.Opening.{opened_unrefused}
use Rattle.job_tables.proofs.Ranges.{well_formed}
use Rattle.line_finding.specs.declared.Failure.{Failure as FailedAnswer}
use Rattle.plan_check.specs.declared.CheckError.TheVariants as error
use Rattle.plan_check.specs.CheckAnswers.{failed_line, FailedRight, CheckAnswer, AnsweredRight, Lent, CheckedBy, check_refusal}
use Rattle.plan_check.specs.ShortAnswers.{ShortAnswer, none_up_to, AnsweredUpTo, CheckedUpTo}
use Rattle.guarantee.specs.ShortCheckPromises.{AsFull, ShortAsFull, FailedAsFull, ShortDetermined, GoalUpTo, NoneExactly, NoneRuns, NoneServed, FarEnough}
use Rattle.guarantee.proofs.CheckMeans.{none_means}
use Rattle.guarantee.proofs.CheckDecides.{RightOnce, answered_once, same_checks}
use Rattle.guarantee.proofs.RunsAfterCheck.{run_ends}
use Rattle.guarantee.proofs.CabinetServed.{goal_served}

-- ---- right answers on tables

module _ (t : Tables) (wf : WellFormed t) where
  -- The line in the buffer has as many lamps as the answer says.
  line_size : {f : FailedAnswer} {line line' : List ℕ} → FailedRight t f line line' → length (take f.lamps line') ≡ f.lamps
  line_size {f} {line} {line'} d = length-take-le f.lamps line' d.within

  -- Two failures that are right for the same line buffer are equal, and leave it equal.
  failed_once :
      (f g : FailedAnswer) (line line' line'' : List ℕ) → FailedRight t f line line' → FailedRight t g line line'' →
      (f ≡ g) × (line' ≡ line'')
  unfolding AnsweredRight
  failed_once f g line line' line'' d d' =
      let (same, same_line) = answered_once t wf (Err (error.Failed f)) (Err (error.Failed g)) line line' line'' d d' in
      (cc, same_line)

  module _ (longest : ℕ) where
    -- The full check's failure has more lamps exactly when none is right.
    none_beyond :
        (f : FailedAnswer) (line line' : List ℕ) → FailedRight t f line line' → (longest < f.lamps) ↔ NoneUpTo t longest
    none_beyond f line line' d =
        subst (λ (n : ℕ). (longest < n) ↔ NoneUpTo t longest) (line_size d)
        (beyond_exactly t wf longest (failed f.kind f.start (failed_line f line')) d.right)

    module _ (before after after' : Lent) where
      -- A right answer of the short check is what the full check's makes it.
      as_full :
          (r : CheckAnswer ℕ) → AnsweredRight t r before.line after.line →
          (r' : ShortAnswer) → AnsweredUpTo t longest r' before.line after'.line → AsFull longest r before after r' after'
      unfolding AnsweredRight AnsweredUpTo Right
      as_full (Ok count) (accepts, same) (Ok n) right = (ap Ok (ap none_up_to right.bound), right.unchanged)
      as_full (Ok count) (accepts, same) (Err (error.Failed g)) right =
          absurd (correct_never_fails t wf accepts.correct g.kind g.start _ right.failed_right.right.fails)
      as_full (Err (error.Failed f)) d (Ok n) right = (
        λ short_line. absurd (let far = (none_beyond f before.line after.line d).1 right.none in omega arith),
        λ far. (ap Ok (ap none_up_to right.bound), right.unchanged),
      )
      as_full (Err (error.Failed f)) d (Err (error.Failed g)) right =
          let (same, same_line) = failed_once f g before.line after.line after'.line d right.failed_right in (
            λ short_line. (cc, sym same_line),
            λ far. absurd (omega (arith, right.up_to, ap (λ (h : FailedAnswer). h.lamps) same)),
          )
      as_full (Err (error.Refused because)) d r' right = absurd d
      as_full r d (Err (error.Refused because)) right = absurd right

      -- What the full check's answer makes it is a right answer of the short check.
      from_full :
          (r : CheckAnswer ℕ) → AnsweredRight t r before.line after.line →
          (r' : ShortAnswer) → AsFull longest r before after r' after' → AnsweredUpTo t longest r' before.line after'.line
      unfolding AnsweredRight AnsweredUpTo Right
      from_full (Ok count) (accepts, same) r' (is, unchanged) =
          rw is
          (record {
            bound = refl;
            none = λ kind start line few. correct_never_fails t wf accepts.correct kind start line;
            unchanged = unchanged;
          })
      from_full (Err (error.Failed f)) d r' (near, far) = go (dec_lt longest f.lamps)
        where
          go : Dec (longest < f.lamps) → AnsweredUpTo t longest r' before.line after'.line
          go (yes h) =
              let (is, unchanged) = far h in
              rw is (record { bound = refl; none = (none_beyond f before.line after.line d).0 h; unchanged = unchanged })
          go (no h) =
              let (is, same_line) = near (omega arith) in
              rw (is, same_line) (record { failed_right = d; up_to = omega arith })
      from_full (Err (error.Refused because)) d r' h = absurd d

    -- Two right answers of the short check for the same line buffer are equal, and leave it equal.
    short_once : RightOnce (AnsweredUpTo t longest)
    unfolding AnsweredUpTo Right
    short_once (Ok n) (Ok n') line line' line'' a b =
        (ap Ok (ap none_up_to (a.bound ∙ sym b.bound)), a.unchanged ∙ sym b.unchanged)
    short_once (Ok n) (Err (error.Failed g)) line line' line'' a b =
        absurd (let far = (none_beyond g line line'' b.failed_right).1 a.none in omega (arith, b.up_to))
    short_once (Err (error.Failed f)) (Ok n) line line' line'' a b =
        absurd (let far = (none_beyond f line line' a.failed_right).1 b.none in omega (arith, a.up_to))
    short_once (Err (error.Failed f)) (Err (error.Failed g)) line line' line'' a b =
        let (same, same_line) = failed_once f g line line' line'' a.failed_right b.failed_right in
        (cc, same_line)
    short_once (Err (error.Refused because)) r' line line' line'' a b = absurd a
    short_once r (Err (error.Refused because)) line line' line'' a b = absurd b

    -- No line of up to that many lamps fails exactly when the execution reaches the goal on each of them.
    none_goal : NoneUpTo t longest ↔ GoalUpTo t longest
    none_goal = (
      λ none_fails start line beginning few.
          ⊎_elim (λ goal. goal) (λ (kind, d). absurd (none_fails kind start line few d)) (goal_or_fails t wf start line beginning),
      λ good kind start line few d. goal_not_fails t wf kind start line (good start line d.beginning few) d,
    )

-- ---- the operations' answers

pub short_as_full : ShortAsFull
short_as_full s longest r before after checked r' after' = by (check_refusal s before) refl checked
  where
    by :
        (o : Option Refusal) → check_refusal s before ≡ o → CheckedBy (AnsweredRight (tables_of s)) o r before after →
        CheckedBy (AnsweredUpTo (tables_of s) longest) o r' before after' ↔ AsFull longest r before after r' after'
    by None e right =
        let wf = well_formed s (head s) (opened_unrefused s _ e) in
        (as_full (tables_of s) wf longest before after after' r right r', from_full (tables_of s) wf longest before after after' r right r')
    by (Some because) e (is, same) = rw is (λ h. h, λ h. h)

pub failed_as_full : FailedAsFull
unfolding AnsweredRight AnsweredUpTo
failed_as_full s longest f before after = by (check_refusal s before)
  where
    by :
        (o : Option Refusal) →
        CheckedBy (AnsweredUpTo (tables_of s) longest) o (Err (error.Failed f)) before after
        ↔ (CheckedBy (AnsweredRight (tables_of s)) o (Err (error.Failed f)) before after × (f.lamps ≤ longest))
    by None = (λ right. (right.failed_right, right.up_to), λ (right, up_to). record { failed_right = right; up_to = up_to })
    by (Some because) = (λ (is, same). absurd cc, λ ((is, same), up_to). absurd cc)

pub short_determined : ShortDetermined
short_determined s longest =
    same_checks s (AnsweredUpTo (tables_of s) longest) (λ opened. short_once (tables_of s) (well_formed s (head s) opened) longest)

-- ---- none

pub none_exactly : NoneExactly
unfolding AnsweredUpTo Right
none_exactly s longest r before after not_refused checked = go r (rw not_refused at checked)
  where
    wf : WellFormed (tables_of s)
    wf = well_formed s (head s) (opened_unrefused s _ not_refused)

    go :
        (r : ShortAnswer) → AnsweredUpTo (tables_of s) longest r before.line after.line →
        (r ≡ Ok (none_up_to longest)) ↔ GoalUpTo (tables_of s) longest
    go (Ok n) right = (λ is. (none_goal (tables_of s) wf longest).0 right.none, λ good. ap Ok (ap none_up_to right.bound))
    go (Err (error.Failed f)) right = (
      λ is. absurd cc,
      λ good.
          let none_fails = (none_goal (tables_of s) wf longest).1 good in
          let d = right.failed_right in
          absurd (none_fails f.kind f.start _ (omega (arith, right.up_to, line_size (tables_of s) wf d)) d.right.fails),
    )
    go (Err (error.Refused because)) right = absurd right

-- The execution reaches the goal on each line of up to that many lamps.
goal_up_to :
    (s : List ℕ) (longest n : ℕ) (before after : Lent) → CheckedUpTo s longest (Ok (none_up_to n)) before after →
    Opened s (head s) × GoalUpTo (tables_of s) longest
goal_up_to s longest n before after checked =
    let (opened, none_fails) = none_means s before after longest n checked in
    (opened, (none_goal (tables_of s) (well_formed s (head s) opened) longest).0 none_fails)

pub none_runs : NoneRuns
none_runs s longest n before after checked small start line beginning few =
    let (opened, good) = goal_up_to s longest n before after checked in
    run_ends (record { opened = opened; beginning = beginning; few = omega arith }) Goal (good start line beginning few)

pub none_served : NoneServed
unfolding Leads Ends
none_served s longest n before after checked small start line beginning few =
    let (opened, good) = goal_up_to s longest n before after checked in
    let (ls, q, last, execution, (is_final_lem, goal)) = good start line beginning few in
    goal_served s opened start line beginning ls last (rw is_final_lem at execution) goal

pub none_far_enough : FarEnough
none_far_enough s longest n before after checked far =
    let (opened, none_fails) = none_means s before after longest n checked in
    far_enough (tables_of s) (well_formed s (head s) opened) longest far none_fails
