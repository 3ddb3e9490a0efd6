-- The cabinet beside the execution. It is in the execution's program state and has as many lamps left as the line. Asked for an action, it
-- names that of the execution's next step; handed that step's result, it moves as the execution does.
use mathlib.Core.Path.{◌≡◌, refl, ap, ◌∙◌}
use mathlib.Core.Bool.{Bool, true, false}
use mathlib.Core.List.{List, [], ◌∷◌, ◌++◌, map, map-append}
use Prim.Native.Nat.{ℕ, ◌-◌, ◌<◌}
use Rattle.std.specs.Prelude.{Some, Ok}
use native.Mathlib.Omega.{arith}
use lib.ListN.{length}
use Rattle.plans.specs.Execution.{Label, action_of, result_of, Step, T*, here, join, step}
use Rattle.lamp_line.specs.declared.ProgramState.{ProgramState}
use Rattle.lamp_line.specs.declared.WorldState.{WorldState}
use Rattle.lamp_line.specs.declared.Cabinet.{Cabinet}
use Rattle.lamp_line.specs.Tables.{Tables, Line, Situation, program_state, moves_on, kinds_of_ends, lamp_theory, plan_of}
use Rattle.lamp_line.specs.inner.WellFormed.{WellFormed}
use Rattle.lamp_line.specs.Run.{pair}
use Rattle.lamp_line.specs.Check.{situation}
use Rattle.lamp_line.specs.Tables.{Beginning}
use Rattle.run_laws.specs.inner.Pairs.{InRange}
use Rattle.run_laws.proofs.Steps.{execution_in_range, end_kept, step_passes}
use Rattle.job_layout.specs.declared.Job.{Job}
use Rattle.job_layout.specs.JobTables.{tables_of}
use Rattle.job_file.specs.Reading.{Opened}
use Rattle.job_tables.proofs.Ranges.{well_formed}
use Rattle.cabinet.specs.CabinetAnswers.{keeping, moved_to, action_answer, state_answer, report_answer}
use Rattle.cabinet.specs.Calls.{Call, report_call, returned, handed_on, left_by, TakenReport}
use Rattle.cabinet.proofs.Answering.{action_acts, state_passes, state_stays}

-- The cabinet beside an execution that has reached the program state q and the situation s.
abbrev pub machine_at : ProgramState → Situation → Cabinet
machine_at q s = record { state = q; lamps = length s.rest.lamps }

-- What executions of the job reach: the pair is one of the tables, and the line's end is one that the job has.
pub record WithinJob (t : Tables) (q : ProgramState) (s : Situation) : Type 0 where
  pub in_range : InRange t (pair q s.world)
  pub end_range : s.rest.end < kinds_of_ends t.ends

-- One list of calls after another goes on from the state that the first one leaves.
left_append :
    (bytes : List ℕ) (m : Cabinet) (calls more : List Call) →
    left_by bytes m (calls ++ more) ≡ left_by bytes (left_by bytes m calls) more
unfolding left_by
left_append bytes m [] more = refl
left_append bytes m (call ∷ calls) more = left_append bytes (handed_on bytes m call) calls more

module _ (t : Tables) (wf : WellFormed t) where
  -- An execution from a marked start along a line of the job begins so.
  pub begins_within : {start : WorldState} {line : Line} → Beginning t start line → WithinJob t t.first (situation start line)
  begins_within {start = start} of =
      record {
        in_range = record { state_range = wf.formed.first_range; world_range = wf.formed.start_range start of.marked };
        end_range = of.fits.ended;
      }

  -- Its steps keep it so.
  pub stays_within :
      {ls : List Label} {q q' : ProgramState} {s s' : Situation} → T* (lamp_theory t) (plan_of t) ls q s q' s' →
      WithinJob t q s → WithinJob t q' s'
  stays_within a p =
      record { in_range = execution_in_range t wf a p.in_range; end_range = rw (end_kept t a) p.end_range }

module _ (bytes : List ℕ) {j : Job} (opened : Opened bytes j) where
  -- ---- one step

  module _
      {l : Label} {q q' : ProgramState} {s s' : Situation}
      (x : Step (lamp_theory (tables_of bytes)) (plan_of (tables_of bytes)) q s l q' s') (p : WithinJob (tables_of bytes) q s)
    where
      wf : WellFormed (tables_of bytes)
      wf = well_formed bytes j opened

      not_final : q.0 < (tables_of bytes).states
      not_final =
          let h = p.in_range.state_range in
          let differs : ¬ (q.0 ≡ (tables_of bytes).states) = λ e. x.live (ap program_state e) in
          omega arith

      -- Asked before a step for its action, the cabinet names the step's.
      pub step_asked : action_answer bytes (machine_at q s) ≡ Ok (Some (action_of l))
      step_asked = rw x.acts (action_acts bytes opened (machine_at q s) not_final)

      -- The machine moves as the execution does.
      moves_along : moved_to (tables_of bytes) (machine_at q s) q' ≡ machine_at q' s'
      moves_along = by (moves_on (tables_of bytes) ((tables_of bytes).action q)) refl
        where
          by :
              (b : Bool) → moves_on (tables_of bytes) ((tables_of bytes).action q) ≡ b →
              moved_to (tables_of bytes) (machine_at q s) q' ≡ machine_at q' s'
          by true e =
              let one_fewer = step_passes (tables_of bytes) wf x (rw x.acts e) p.end_range in
              let same : length s.rest.lamps - 1 ≡ length s'.rest.lamps = omega arith in
              rw (e, same)
          by false e =
              let same : s'.rest ≡ s.rest = rw e at x.does.1 in
              rw (e, same)

      leads : state_answer bytes (machine_at q s) (result_of l) ≡ Ok (moved_to (tables_of bytes) (machine_at q s) q')
      leads = by (moves_on (tables_of bytes) ((tables_of bytes).action q)) refl
        where
          by :
              (b : Bool) → moves_on (tables_of bytes) ((tables_of bytes).action q) ≡ b →
              state_answer bytes (machine_at q s) (result_of l) ≡ Ok (moved_to (tables_of bytes) (machine_at q s) q')
          by true e =
              let one_fewer = step_passes (tables_of bytes) wf x (rw x.acts e) p.end_range in
              state_passes bytes opened (machine_at q s) (result_of l) not_final x.branch e (omega arith) ∙ rw e
          by false e = state_stays bytes opened (machine_at q s) (result_of l) not_final x.branch e ∙ rw e

      takes : report_answer bytes (machine_at q s) (result_of l) ≡ Ok (moved_to (tables_of bytes) (machine_at q s) q')
      unfolding report_answer
      takes = ap (keeping (machine_at q s)) leads

      -- The step's result is taken.
      pub step_taken : TakenReport bytes (machine_at q s) (result_of l)
      step_taken = record { target = q'; branch = x.branch; answers = takes }

      -- After the report of the step's result, the next call is handed the machine that moved with the execution.
      pub step_handed_on : handed_on bytes (machine_at q s) (report_call (result_of l)) ≡ machine_at q' s'
      step_handed_on = ap returned takes ∙ moves_along

  -- ---- an execution

  -- When the results of an execution are reported to it, the cabinet moves as the execution does.
  pub execution_reported :
      {ls : List Label} {q q' : ProgramState} {s s' : Situation} →
      T* (lamp_theory (tables_of bytes)) (plan_of (tables_of bytes)) ls q s q' s' → WithinJob (tables_of bytes) q s →
      left_by bytes (machine_at q s) (map (λ l. report_call (result_of l)) ls) ≡ machine_at q' s'
  unfolding left_by
  execution_reported here p = refl
  execution_reported (join {m = ls} {n = ms} a b) p =
      rw (map-append (λ l. report_call (result_of l)) ls ms, left_append, execution_reported a p)
      (execution_reported b (stays_within (tables_of bytes) (well_formed bytes j opened) a p))
  execution_reported (step x) p = step_handed_on x p
