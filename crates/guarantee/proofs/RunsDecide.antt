-- Demand 2 for the run: its answers are those of the execution, for every line and every limit.
use Rattle.std.proofs.Common.{◌≡◌, refl, sym, ◌∙◌, ◌↔◌, Bool, true, false, cond, List, length, ℕ, ◌+◌, ◌*◌, ◌≤◌, ◌<◌, Ok, arith}
use Rattle.std.proofs.Common.{leb, leb-true, leb-false, le-leb}
use borrow.Author.Tests.{lt-leb}
use Rattle.plans.proofs.Executions.{same_length_same_execution}
use Rattle.lamp_line.specs.declared.WorldState.{WorldState}
use Rattle.lamp_line.specs.declared.FailureKind.TheVariants.{Circles}
use Rattle.lamp_line.specs.declared.Ending.{Ending}
use Rattle.lamp_line.specs.declared.Ending.TheVariants.{Failure}
use Rattle.lamp_line.specs.Tables.{Line, lamp_theory, plan_of}
use Rattle.lamp_line.specs.Refusals.{Answer}
use Rattle.lamp_line.specs.Run.{Run, ran, run, limited, within, stopped}
use Rattle.lamp_line.specs.Executions.{Comes}
use Rattle.lamp_line.proofs.Products.{product_le}
use Rattle.run_laws.proofs.RunIsExecution.{run_is_execution, circles_forever}
use Rattle.run_laws.proofs.Runs.{run_is_bounded}
use Rattle.run_laws.proofs.Steps.{steps_determined}
use Rattle.run_laws.proofs.WalkIsExecution.{walk_is_execution}
use Rattle.job_layout.specs.Layout.{head}
use Rattle.job_layout.specs.JobTables.{tables_of}
use Rattle.job_tables.proofs.Ranges.{states_are, worlds_are, well_formed}
use Rattle.lamp_walk.proofs.WalkLoop.{few_steps}
use Rattle.line_run.specs.declared.Ran.{Ran}
use Rattle.line_run.specs.declared.Ran.TheVariants.{Ended, Stopped}
use Rattle.line_run.specs.RunAnswers.{run_answer_of, run_answer}
use Rattle.line_refusals.proofs.LineLaws.{line_not_wrong}
use Rattle.line_run.proofs.RunRefusals.{run_by_refusals}
use Rattle.guarantee.specs.RunPromises.{RunEndsExactly, RunStopsExactly, RunCirclesExactly, RunIsBounded, Deterministic, WalkIsExecution}
use Rattle.line_refusals.proofs.Unrefused.{UnrefusedLine, unrefused_line}

-- ---- the limit: an ending is within it, and Stopped means that the ending is beyond it

ends_within :
    {r : Answer Ran} (limit k k' : ℕ) (x x' : Ending) (b : Bool) → leb k limit ≡ b →
    r ≡ Ok (run_answer_of (cond b (within x k) (stopped limit))) → r ≡ Ok (Ended x' k') → (ran x k ≡ ran x' k') × (k' ≤ limit)
ends_within limit k k' x x' true e is h = let same : k ≡ k' = cc in (cc, omega (arith, leb-true k limit e))
ends_within limit k k' x x' false e is h = absurd cc

stops_beyond :
    {r : Answer Ran} (limit k n : ℕ) (x : Ending) (b : Bool) → leb k limit ≡ b →
    r ≡ Ok (run_answer_of (cond b (within x k) (stopped limit))) → r ≡ Ok (Stopped n) → (n ≡ limit) × (limit < k)
stops_beyond limit k n x true e is h = absurd cc
stops_beyond limit k n x false e is h = (cc, leb-false k limit e)

-- ---- a run that is not refused

module _ {s : List ℕ} {start : WorldState} {line : Line} (unrefused : UnrefusedLine s start line) where
  abbrev defined : Run
  defined = run (tables_of s) start line

  -- Its answer is what the definition gives within the limit.
  pub answers : (limit : ℕ) → run_answer s start line limit ≡ Ok (run_answer_of (limited limit defined))
  answers limit =
      run_by_refusals s start line limit unrefused.opened
      ∙ rw (
        unrefused.beginning.marked,
        line_not_wrong (tables_of s) line unrefused.few unrefused.beginning.fits,
      )

  -- The definition has the ending and the steps of the execution.
  pub comes : (x : Ending) (k : ℕ) → (defined ≡ ran x k) ↔ Comes (tables_of s) x k start line
  comes =
      run_is_execution (tables_of s) (well_formed s (head s) unrefused.opened) start line unrefused.beginning

  -- An answer with an ending is the definition's.
  pub ended_so :
      (limit : ℕ) (x : Ending) (k : ℕ) → run_answer s start line limit ≡ Ok (Ended x k) → (defined ≡ ran x k) × (k ≤ limit)
  ended_so limit x k h = by defined refl
    where
      by : (r : Run) → defined ≡ r → (defined ≡ ran x k) × (k ≤ limit)
      by (ran x' k') e =
          let ended = ends_within limit k' k x' x (leb k' limit) refl (answers limit ∙ rw e) h in
          (e ∙ ended.0, ended.1)

  -- If the definition ends within the limit, the answer is that ending.
  pub ends_so : (limit : ℕ) (x : Ending) (k : ℕ) → defined ≡ ran x k → k ≤ limit → run_answer s start line limit ≡ Ok (Ended x k)
  ends_so limit x k e k≤ = answers limit ∙ rw (e, le-leb k limit k≤)

  -- The definition's steps are few enough for a 32-bit limit.
  pub few_counted : (x : Ending) (k : ℕ) → defined ≡ ran x k → k ≤ 4294967295
  few_counted x k e =
      omega (
        arith,
        run_is_bounded (tables_of s) start line x k e,
        product_le 65536 4096 (length line.lamps + 1) ((tables_of s).states * (tables_of s).worlds)
            (omega (arith, unrefused.few)) (few_steps s (head s) unrefused.opened),
      )

  stopped_so :
      (limit n : ℕ) → run_answer s start line limit ≡ Ok (Stopped n) →
      (n ≡ limit) × ((x : Ending) (k : ℕ) → Comes (tables_of s) x k start line → limit < k)
  stopped_so limit n h = by defined refl
    where
      by :
          (r : Run) → defined ≡ r →
          (n ≡ limit) × ((x : Ending) (k : ℕ) → Comes (tables_of s) x k start line → limit < k)
      by (ran x' k') e =
          let stops = stops_beyond limit k' n x' (leb k' limit) refl (answers limit ∙ rw e) h in (
            stops.0,
            λ x k c. let same : ran x k ≡ ran x' k' = sym ((comes x k).1 c) ∙ e in
                let same_count : k ≡ k' = cc in omega (arith, stops.1),
          )

  stops_so :
      (limit n : ℕ) → n ≡ limit → ((x : Ending) (k : ℕ) → Comes (tables_of s) x k start line → limit < k) →
      run_answer s start line limit ≡ Ok (Stopped n)
  stops_so limit n is_limit beyond = by defined refl
    where
      by : (r : Run) → defined ≡ r → run_answer s start line limit ≡ Ok (Stopped n)
      by (ran x' k') e =
          answers limit ∙ rw (e, lt-leb k' limit (beyond x' k' ((comes x' k').0 e)), is_limit)

-- ---- the promises

pub run_ends_exactly : RunEndsExactly
run_ends_exactly s start line not_refused limit x k =
    let unrefused = unrefused_line s start line not_refused in (
      λ h. let (e, k≤) = ended_so unrefused limit x k h in ((comes unrefused x k).0 e, k≤),
      λ (c, k≤). ends_so unrefused limit x k ((comes unrefused x k).1 c) k≤,
    )

pub run_stops_exactly : RunStopsExactly
run_stops_exactly s start line not_refused limit n =
    let unrefused = unrefused_line s start line not_refused in
    (stopped_so unrefused limit n, λ (is_limit, beyond). stops_so unrefused limit n is_limit beyond)

pub run_circles_exactly : RunCirclesExactly
run_circles_exactly s start line not_refused =
    let unrefused = unrefused_line s start line not_refused in
    let decides =
    circles_forever (tables_of s) (well_formed s (head s) unrefused.opened) start line unrefused.beginning in (
      λ (k, h). decides.0 (k, (ended_so unrefused 4294967295 (Failure Circles) k h).0),
      λ forever. let (k, e) = decides.1 forever in
          (k, ends_so unrefused 4294967295 (Failure Circles) k e (few_counted unrefused (Failure Circles) k e)),
    )

pub run_bounded : RunIsBounded
run_bounded s start line not_refused limit x k h =
    let unrefused = unrefused_line s start line not_refused in
    run_is_bounded (tables_of s) start line x k (ended_so unrefused limit x k h).0

pub deterministic : Deterministic
deterministic s j opened q q₁ q₂ at at₁ at₂ ls ms =
    same_length_same_execution (lamp_theory (tables_of s)) (plan_of (tables_of s)) (steps_determined (tables_of s) (well_formed s j opened))

pub walk_decides : WalkIsExecution
walk_decides s j opened line p state≤ world< =
    walk_is_execution (tables_of s) (well_formed s j opened) line p
    (record { state_range = rw (← states_are s j opened) state≤; world_range = rw (← worlds_are s j opened) world< })
