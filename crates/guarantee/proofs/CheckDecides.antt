-- The check decides: it accepts exactly the correct plans, the lines that fail are exactly those whose execution misses the goal, and its
-- answer and the line buffer depend only on what is handed in.
use Rattle.std.proofs.Common.{◌≡◌, refl, sym, ap, ap₂, ◌∙◌, ⊎_elim, List, [], ◌++◌, ℕ, length, take, drop, take-append-drop, length-take-le}
use Rattle.std.proofs.Common.{Option, None, Some, Ok, Err}
use Rattle.lamp_line.specs.declared.Refusal.{Refusal}
use Rattle.lamp_line.specs.Tables.{Tables, Line, line_of}
use Rattle.lamp_line.specs.inner.WellFormed.{WellFormed}
use Rattle.lamp_line.specs.Check.{Verdict, accepted, failed, Right}
use Rattle.check_laws.proofs.RunLeads.{goal_or_fails}
use Rattle.check_laws.proofs.OneVerdict.{goal_not_fails, correct_never_fails, right_once}
use Rattle.job_layout.specs.Layout.{head}
use Rattle.job_layout.specs.JobTables.{tables_of}
use Rattle.job_file.specs.Reading.{Opened}
use Rattle.job_file.proofs.Opening.{opened_unrefused}
use Rattle.job_tables.proofs.Ranges.{well_formed}
use Rattle.line_finding.specs.declared.Failure.{Failure as FailedAnswer}
use Rattle.plan_check.specs.declared.CheckError.TheVariants as error
use Rattle.plan_check.specs.CheckAnswers.{failed_line, CheckAnswer, AnsweredRight, Lent, CheckedBy, check_refusal}
use Rattle.guarantee.specs.CheckPromises.{AcceptedExactly, FailsExactly, SameChecks, CheckDetermined}

-- ---- exactly when

pub fails_exactly : FailsExactly
fails_exactly s j opened start line beginning = (
  λ (kind, d) g. goal_not_fails (tables_of s) wf kind start line g d,
  λ not_goal. ⊎_elim (λ g. absurd (not_goal g)) (λ d. d) (goal_or_fails (tables_of s) wf start line beginning),
)
  where
    wf : WellFormed (tables_of s)
    wf = well_formed s j opened

pub accepted_exactly : AcceptedExactly
unfolding AnsweredRight Right
accepted_exactly s (Ok count) before after not_refused checked =
    let right = rw not_refused at checked in
    (λ _. right.0.correct, λ _. (count, refl))
accepted_exactly s (Err (error.Failed f)) before after not_refused checked =
    let right = rw not_refused at checked in
    let wf = well_formed s (head s) (opened_unrefused s _ not_refused) in (
      λ h. absurd cc,
      λ correct. absurd (correct_never_fails (tables_of s) wf correct f.kind f.start _ right.right.fails),
    )
accepted_exactly s (Err (error.Refused because)) before after not_refused checked = absurd (rw not_refused at checked)

-- ---- determined

-- Lists with equal fronts and equal rests are equal.
same_parts : (n n' : ℕ) (l l' : List ℕ) → n ≡ n' → take n l ≡ take n' l' → drop n l ≡ drop n' l' → l ≡ l'
same_parts n n' l l' e front rest = sym (take-append-drop n l) ∙ ap₂ (λ (a b : List ℕ). a ++ b) front rest ∙ take-append-drop n' l'

-- Failures with equal parts are equal.
same_failure : (f g : FailedAnswer) → f.kind ≡ g.kind → f.start ≡ g.start → f.lamps ≡ g.lamps → f.end ≡ g.end → f ≡ g
same_failure f g kind start lamps end =
    let same : ◌≡◌ {A = FailedAnswer}
    (record { kind = f.kind; start = f.start; lamps = f.lamps; end = f.end })
    (record { kind = g.kind; start = g.start; lamps = g.lamps; end = g.end }) = cc in
    same

-- A verdict's failing line.
abbrev failing_line : Verdict → Line
failing_line (accepted n) = line_of 0 []
failing_line (failed kind start line) = line

-- Two right answers for the same line buffer are equal, and leave it equal.
abbrev pub RightOnce : {A : Type 0} → (CheckAnswer A → List ℕ → List ℕ → Type 0) → Type 0
RightOnce {A} IsRight =
    (r r' : CheckAnswer A) (line line' line'' : List ℕ) → IsRight r line line' → IsRight r' line line'' → (r ≡ r') × (line' ≡ line'')

module _ (t : Tables) (wf : WellFormed t) where
  pub answered_once : RightOnce (AnsweredRight t)
  unfolding AnsweredRight
  answered_once (Ok m) (Ok n) line line' line'' (right, same) (right', same') =
      let e = right_once t wf (accepted m) (accepted n) right right' in
      (cc, same ∙ sym same')
  answered_once (Ok m) (Err (error.Failed f)) line line' line'' (right, same) d =
      let e = right_once t wf (accepted m) (failed f.kind f.start (failed_line f line'')) right d.right in
      absurd cc
  answered_once (Err (error.Failed f)) (Ok n) line line' line'' d (right, same) =
      let e = right_once t wf (failed f.kind f.start (failed_line f line')) (accepted n) d.right right in
      absurd cc
  answered_once (Err (error.Failed f)) (Err (error.Failed g)) line line' line'' d d' =
      let e =
      right_once t wf (failed f.kind f.start (failed_line f line')) (failed g.kind g.start (failed_line g line''))
      d.right d'.right in
      let same_kind : f.kind ≡ g.kind = cc in
      let same_start : f.start ≡ g.start = cc in
      let front : take f.lamps line' ≡ take g.lamps line'' = ap (λ (v : Verdict). (failing_line v).lamps) e in
      let same_end : f.end ≡ g.end = ap (λ (v : Verdict). (failing_line v).end) e in
      let same_lamps : f.lamps ≡ g.lamps =
      sym (length-take-le f.lamps line' d.within) ∙ ap length front ∙ length-take-le g.lamps line'' d'.within in
      let rest : drop f.lamps line' ≡ drop g.lamps line'' =
      d.others ∙ ap (λ (n : ℕ). drop n line) same_lamps ∙ sym d'.others in
      let same = same_failure f g same_kind same_start same_lamps same_end in
      (cc, same_parts f.lamps g.lamps line' line'' same_lamps front rest)
  answered_once (Err (error.Refused because)) r' line line' line'' d d' = absurd d
  answered_once r (Err (error.Refused because)) line line' line'' d d' = absurd d'

-- Two checks that are handed the same give the same answer and leave the same line buffer, if right answers for a file that is not refused do.
pub same_checks :
    {A : Type 0} (s : List ℕ) (IsRight : CheckAnswer A → List ℕ → List ℕ → Type 0) → (Opened s (head s) → RightOnce IsRight) →
    (r r' : CheckAnswer A) (before after after' : Lent) → CheckedBy IsRight (check_refusal s before) r before after →
    CheckedBy IsRight (check_refusal s before) r' before after' → SameChecks r r' after after'
same_checks s IsRight once r r' before after after' = by (check_refusal s before) refl
  where
    by :
        (o : Option Refusal) → check_refusal s before ≡ o → CheckedBy IsRight o r before after →
        CheckedBy IsRight o r' before after' → SameChecks r r' after after'
    by (Some because) e (is, same) (is', same') =
        record { same_answer = is ∙ sym is'; same_line = ap (λ (l : Lent). l.line) (same ∙ sym same') }
    by None e right right' =
        let same = once (opened_unrefused s _ e) r r' before.line after.line after'.line right right' in
        record { same_answer = same.0; same_line = same.1 }

pub check_determined : CheckDetermined
check_determined s =
    same_checks s (AnsweredRight (tables_of s)) (λ opened. answered_once (tables_of s) (well_formed s (head s) opened))
