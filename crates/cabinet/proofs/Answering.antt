-- A call's answer, test by test: a refused file is answered with its refusal, and for a file that is not refused the machine's own refusals
-- decide, in their order.
use Rattle.std.proofs.Common.{◌≡◌, ap, ◌∙◌, true, false, cond, List, [], ◌∷◌, ℕ, ◌-◌, ◌≤◌, ◌<◌, None, Some, Ok, Err, arith, eq-eqb, ne_eqb}
use Rattle.std.specs.Result.{MatchResult, IsErrAnd}
use borrow.Author.Tests.{lt-ltb, le-ltb}
use Rattle.plans.specs.Plan.{Result}
use Rattle.lamp_line.specs.declared.ProgramState.{ProgramState}
use Rattle.lamp_line.specs.declared.Cabinet.{Cabinet}
use Rattle.lamp_line.specs.declared.Refusal.{Refusal}
use Rattle.lamp_line.specs.declared.Refusal.TheVariants as refused
use Rattle.lamp_line.specs.Refusals.{◌when◌, refusal, Answer, or_refused, answer_by}
use Rattle.lamp_line.proofs.Answering.{by_no_refusal}
use Rattle.job_layout.specs.declared.Job.{Job}
use Rattle.job_layout.specs.JobTables.{tables_of}
use Rattle.job_file.specs.Reading.{reading_of, Opened}
use Rattle.job_file.proofs.Opening.{file_refused, file_opened, first_of_refused, first_of_opened}
use Rattle.cabinet.specs.declared.ReportError.{ReportError}
use Rattle.cabinet.specs.CabinetAnswers.{ReportAnswer, keeping, first_machine, is_above, has_ended, is_moving, followed, begin_answer, action_answer, state_answer}

-- A report's answer, from the state to which it leads, where a refusal is given the old state.
pub reported :
    (m : Cabinet) (answer : Answer Cabinet) {r : ReportAnswer} {Made : Refusal → ReportError → Type 0} →
    MatchResult answer (λ next. r ≡ Ok next) (λ because. IsErrAnd r (Made because)) →
    ((because : Refusal) (error : ReportError) → Made because error → error ≡ record { refusal = because; state = m }) →
    r ≡ keeping m answer
reported m (Ok next) is made = is
reported m (Err because) {r = Ok next} is made = absurd is
reported m (Err because) {r = Err error} is made = ap Err (made because error is)

-- ---- a refused file

module _ (s : List ℕ) {because : Refusal} (e : reading_of s ≡ Err because) where
  -- Begin gives its refusal.
  pub begin_file_refused : (count : ℕ) → Err because ≡ begin_answer s count
  unfolding begin_answer
  begin_file_refused count = file_refused s [] _ because e

  -- A call for the action gives its refusal.
  pub action_file_refused : (m : Cabinet) → Err because ≡ action_answer s m
  unfolding action_answer
  action_file_refused m = file_refused s _ _ because e

  -- So does a report.
  pub state_file_refused : (m : Cabinet) (r : Result) → Err because ≡ state_answer s m r
  unfolding state_answer
  state_file_refused m r = rw (first_of_refused s _ e)

-- ---- a file that is not refused

module _ (s : List ℕ) {j : Job} (opened : Opened s j) where
  -- Begin answers the machine in its first state.
  pub begin_opened : (count : ℕ) → begin_answer s count ≡ Ok (first_machine (tables_of s) count)
  unfolding begin_answer
  begin_opened count = file_opened s [] _ j opened ∙ by_no_refusal _

  module _ (m : Cabinet) where
    not_above : m.state.0 ≤ (tables_of s).states → is_above (tables_of s) m ≡ false
    not_above = le-ltb (tables_of s).states m.state.0

    not_ended : m.state.0 < (tables_of s).states → has_ended (tables_of s) m ≡ false
    not_ended h = ne_eqb m.state.0 (tables_of s).states (λ e. omega arith)

    -- ---- the action

    -- The refusals of the action, without those of the file.
    pub action_refusals :
        action_answer s m
        ≡ answer_by ((refused.State when is_above (tables_of s) m) ∷ [])
        (cond (has_ended (tables_of s) m) None (Some ((tables_of s).action m.state)))
    unfolding action_answer
    action_refusals = file_opened s _ _ j opened

    -- Above state S it is refused.
    pub action_above : (tables_of s).states < m.state.0 → action_answer s m ≡ Err refused.State
    unfolding answer_by refusal
    action_above h = action_refusals ∙ rw (lt-ltb (tables_of s).states m.state.0 h)

    -- In state S there is none.
    pub action_ended : m.state.0 ≡ (tables_of s).states → action_answer s m ≡ Ok None
    unfolding answer_by refusal
    action_ended e = action_refusals ∙ rw (not_above (omega arith), eq-eqb m.state.0 (tables_of s).states e)

    -- Below state S it is that of the state.
    pub action_acts : m.state.0 < (tables_of s).states → action_answer s m ≡ Ok (Some ((tables_of s).action m.state))
    unfolding answer_by refusal
    action_acts h = action_refusals ∙ rw (not_above (omega arith), not_ended h)

    -- ---- a report

    module _ (r : Result) where
      -- The refusals of a report, without those of the file.
      pub state_refusals :
          state_answer s m r
          ≡ or_refused
          (refusal ((refused.State when is_above (tables_of s) m) ∷ (refused.AfterEnd when has_ended (tables_of s) m) ∷ []))
          (followed (tables_of s) m ((tables_of s).target m.state r))
      unfolding state_answer
      state_refusals = rw (first_of_opened s _ opened)

      -- Above state S it is refused with 16.
      pub state_above : (tables_of s).states < m.state.0 → state_answer s m r ≡ Err refused.State
      unfolding answer_by refusal
      state_above h = state_refusals ∙ rw (lt-ltb (tables_of s).states m.state.0 h)

      -- In state S it is refused with 17.
      pub state_ended : m.state.0 ≡ (tables_of s).states → state_answer s m r ≡ Err refused.AfterEnd
      unfolding answer_by refusal
      state_ended e = state_refusals ∙ rw (not_above (omega arith), eq-eqb m.state.0 (tables_of s).states e)

      module _ (below : m.state.0 < (tables_of s).states) where
        -- Below state S the branch decides.
        state_followed : state_answer s m r ≡ followed (tables_of s) m ((tables_of s).target m.state r)
        unfolding answer_by refusal
        state_followed = state_refusals ∙ rw (not_above (omega arith), not_ended below)

        -- With no branch it is refused with 18.
        pub state_no_branch : (tables_of s).target m.state r ≡ None → state_answer s m r ≡ Err refused.NoTarget
        state_no_branch e = state_followed ∙ rw e

        module _ {q : ProgramState} (branch : (tables_of s).target m.state r ≡ Some q) where
          -- Where the action does not move on it is taken, with as many lamps left.
          pub state_stays :
              is_moving (tables_of s) m ≡ false → state_answer s m r ≡ Ok (record { state = q; lamps = m.lamps })
          unfolding answer_by refusal
          state_stays stays = state_followed ∙ rw (branch, stays)

          module _ (moves : is_moving (tables_of s) m ≡ true) where
            -- Where the action moves on and no lamp is left it is refused with 19.
            pub state_no_lamp : m.lamps ≡ 0 → state_answer s m r ≡ Err refused.NoLampLeft
            unfolding answer_by refusal
            state_no_lamp e = state_followed ∙ rw (branch, moves, eq-eqb m.lamps 0 e)

            -- Where the action moves on and a lamp is left it is taken, with one lamp fewer.
            pub state_passes :
                0 < m.lamps → state_answer s m r ≡ Ok (record { state = q; lamps = m.lamps - 1 })
            unfolding answer_by refusal
            state_passes h = state_followed ∙ rw (branch, moves, ne_eqb m.lamps 0 (λ e. omega arith))
