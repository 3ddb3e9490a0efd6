-- One entry: it needs the plan's action, a candidate after it, and a branch for its result; with all of them it leads on.
use Rattle.std.proofs.Common.{◌≡◌, sym, ap, subst, ◌∙◌, ◌≢◌, Bool, true, false, not, List, ℕ, ◌≤◌, ◌<◌, None, arith, eqb-true, eq-eqb, eqb}
use mathlib.Core.Bool.{false≢true, and-eq-true_iff}
use borrow.Author.Tests.{not-true, not-false}
use Rattle.plans.specs.Plan.{Action}
use Rattle.plans.specs.Execution.{Label}
use Rattle.lamp_line.specs.declared.ProgramState.{ProgramState}
use Rattle.lamp_line.specs.Tables.{Tables, program_state, final}
use Rattle.lamp_line.specs.Run.{is_final}
use Rattle.job_layout.specs.declared.Job.{Job}
use Rattle.job_layout.specs.JobTables.{tables_of}
use Rattle.job_file.specs.Reading.{Opened}
use Rattle.job_tables.proofs.Ranges.{states_are}
use Rattle.log_laws.specs.inner.Candidates.{NextCandidates, Stuck}
use Rattle.log_candidates.specs.declared.LogEntry.{LogEntry}
use Rattle.log_candidates.specs.inner.WorldSets.{label_of, Holds, HoldJust, NoneLeft}
use Rattle.log_replay.specs.inner.Acting.{acts_so, Followed}

-- ---- the plan's action

-- The test says that the plan has not ended and that the action is its.
acting : (t : Tables) (q : ProgramState) (a : Action) → acts_so t q a ≡ true → (q ≢ final t) × (a ≡ t.action q)
acting t q a e =
    let (live, acts) = (and-eq-true_iff (not (is_final t q)) (eqb a (t.action q))).0 e in (
      λ ended. false≢true (sym (not-true (is_final t q) live) ∙ eq-eqb _ _ (ap (λ (p : ProgramState). p.0) ended)),
      eqb-true _ _ acts,
    )

-- ---- an entry, test by test

-- An entry that cannot be made has no branch.
stuck_so :
    {t : Tables} {j : Job} {q : ProgramState} {l : Label} {before after : List ℕ} → Stuck t q (Holds j before) l →
    Followed t j q l None before after
stuck_so stuck = record { stuck = λ is. stuck; goes_on = λ q' is. cc }

module _ (s : List ℕ) {j : Job} (opened : Opened s j) (q : ProgramState) (entry : LogEntry) where
  module _ {does : Bool} (tested : does ≡ acts_so (tables_of s) q entry.action) (acting_so : not does ≡ false) where
    in_plan : (q ≢ final (tables_of s)) × (entry.action ≡ (tables_of s).action q)
    in_plan = acting (tables_of s) q entry.action (sym tested ∙ not-false does acting_so)

    -- So the plan has a row for the program state.
    pub state_below : q.0 ≤ j.states → q.0 < j.states
    state_below q≤ =
        let differs : ¬ (q.0 ≡ (tables_of s).states) = λ e. in_plan.0 (ap program_state e) in
        omega (arith, states_are s j opened)

    -- The candidates after the entry.
    module _
        {before after : List ℕ} (next : HoldJust j (NextCandidates (tables_of s) (Holds j before) (label_of entry)) after)
        {no_more : Bool} (left : NoneLeft j after no_more)
      where
        -- There is none.
        pub stuck_nowhere : no_more ≡ true → Followed (tables_of s) j q (label_of entry) None before after
        stuck_nowhere nowhere =
            stuck_so (λ q' w c by.
            subst (λ (b : Bool). NoneLeft j after b) nowhere left w c ((next.holds w c).1 by.next))
