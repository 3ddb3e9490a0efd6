-- Request (b) of 02: what the answers of the short check mean, and how they go with those of the full check.
use Rattle.std.specs.Prelude.{◌≡◌, ◌↔◌, List, ℕ, ◌+◌, ◌*◌, ◌≤◌, ◌<◌, length, None, Ok, Err}
use Rattle.plans.specs.Execution.{Correct}
use Rattle.lamp_line.specs.declared.WorldState.{WorldState}
use Rattle.lamp_line.specs.declared.Ending.TheVariants.{Goal}
use Rattle.lamp_line.specs.Tables.{Tables, Line, Beginning, lamp_problem, plan_of}
use Rattle.lamp_line.specs.Endings.{Leads}
use Rattle.lamp_line.specs.Check.{situation}
use Rattle.job_layout.specs.JobTables.{tables_of}
use Rattle.line_finding.specs.declared.Failure.{Failure as FailedAnswer}
use Rattle.plan_check.specs.declared.CheckError.TheVariants as error
use Rattle.plan_check.specs.CheckAnswers.{CheckAnswer, Lent, check_refusal, Checked}
use Rattle.plan_check.specs.ShortAnswers.{ShortAnswer, none_up_to, CheckedUpTo}
use Rattle.guarantee.specs.CheckPromises.{SameChecks, RunEnds}
use Rattle.guarantee.specs.CabinetPromises.{Served}

-- ---- the full check and the short one

-- What the short check answers and leaves, where the full check is handed the same, answers r and leaves `after`: the same failure if its
-- line has at most that many lamps, otherwise none, with the line buffer as it was.
abbrev pub AsFull : ℕ → CheckAnswer ℕ → Lent → Lent → ShortAnswer → Lent → Type 0
AsFull longest (Ok count) before after r' after' = (r' ≡ Ok (none_up_to longest)) × (after'.line ≡ before.line)
AsFull longest (Err (error.Failed f)) before after r' after' =
    (f.lamps ≤ longest → (r' ≡ Err (error.Failed f)) × (after'.line ≡ after.line))
    × (longest < f.lamps → (r' ≡ Ok (none_up_to longest)) × (after'.line ≡ before.line))
AsFull longest (Err (error.Refused because)) before after r' after' = (r' ≡ Err (error.Refused because)) × (after' ≡ before)

-- That, and nothing else, meets the contract of the short check.
abbrev pub ShortAsFull : Type 0
ShortAsFull =
    (s : List ℕ) (longest : ℕ) (r : CheckAnswer ℕ) (before after : Lent) → Checked s r before after →
    (r' : ShortAnswer) (after' : Lent) → CheckedUpTo s longest r' before after' ↔ AsFull longest r before after r' after'

-- A failure that the short check answers is one that the full check may answer, so what is promised of such a failure holds for it.
abbrev pub FailedAsFull : Type 0
FailedAsFull =
    (s : List ℕ) (longest : ℕ) (f : FailedAnswer) (before after : Lent) →
    CheckedUpTo s longest (Err (error.Failed f)) before after ↔ (Checked s (Err (error.Failed f)) before after × (f.lamps ≤ longest))

-- Two short checks that are handed the same give the same answer and leave the same line buffer.
abbrev pub ShortDetermined : Type 0
ShortDetermined =
    (s : List ℕ) (longest : ℕ) (r r' : ShortAnswer) (before after after' : Lent) →
    CheckedUpTo s longest r before after → CheckedUpTo s longest r' before after' → SameChecks r r' after after'

-- ---- none

-- On every line of up to this many lamps, from every marked start, the execution ends in state S with the goal true.
abbrev pub GoalUpTo : Tables → ℕ → Type 0
GoalUpTo t longest =
    (start : WorldState) (line : Line) → Beginning t start line → length line.lamps ≤ longest →
    Leads (lamp_problem t) (plan_of t) Goal t.first (situation start line)

-- Unless it is refused, a short check answers none exactly then.
abbrev pub NoneExactly : Type 0
NoneExactly =
    (s : List ℕ) (longest : ℕ) (r : ShortAnswer) (before after : Lent) →
    check_refusal s before ≡ None → CheckedUpTo s longest r before after →
    (r ≡ Ok (none_up_to longest)) ↔ GoalUpTo (tables_of s) longest

-- A statement about every marked start and every line of the job with at most as many lamps as the bound, after a short check has answered
-- none; an operation can hold such a line.
abbrev AfterNone : (List ℕ → WorldState → Line → Type 0) → Type 0
AfterNone Says =
    (s : List ℕ) (longest n : ℕ) (before after : Lent) → CheckedUpTo s longest (Ok (none_up_to n)) before after → longest ≤ 65535 →
    (start : WorldState) (line : Line) → Beginning (tables_of s) start line → length line.lamps ≤ longest → Says s start line

-- Every run along such a line ends in Goal.
abbrev pub NoneRuns : Type 0
NoneRuns = AfterNone (λ s start line. RunEnds s start line Goal)

-- Every cabinet on such a line is served as after the full check has accepted.
abbrev pub NoneServed : Type 0
NoneServed = AfterNone Served

-- None does not make the plan correct, unless the bound is large: S·W + 1 lamps are enough.
abbrev pub FarEnough : Type 0
FarEnough =
    (s : List ℕ) (longest n : ℕ) (before after : Lent) → CheckedUpTo s longest (Ok (none_up_to n)) before after →
    (tables_of s).states * (tables_of s).worlds + 1 ≤ longest → Correct (lamp_problem (tables_of s)) (plan_of (tables_of s))
