-- Along an execution that reaches state S, every list of calls that reports its results is answered as owed and leaves the cabinet in
-- state S. It holds at the execution's end, and before a step if it holds after that step; so it holds along the whole execution.
use mathlib.Core.Path.{◌≡◌, refl}
use mathlib.Core.List.{List, [], ◌∷◌, ◌++◌, append-nil, append_assoc}
use Prim.Native.Nat.{ℕ}
use Rattle.std.specs.Prelude.{None, Some, Ok}
use Rattle.plans.specs.Plan.{Result}
use Rattle.plans.specs.Execution.{Label, did, action_of, result_of, T*, here, join, step}
use Rattle.lamp_line.specs.declared.ProgramState.{ProgramState}
use Rattle.lamp_line.specs.declared.Cabinet.{Cabinet}
use Rattle.lamp_line.specs.Tables.{Situation, final, lamp_theory, plan_of}
use Rattle.job_layout.specs.declared.Job.{Job}
use Rattle.job_layout.specs.JobTables.{tables_of}
use Rattle.job_file.specs.Reading.{Opened}
use Rattle.job_tables.proofs.Ranges.{well_formed}
use Rattle.cabinet.specs.CabinetAnswers.{action_answer}
use Rattle.cabinet.specs.Calls.{Call, action_call, report_call, handed_on, left_by, RefusedReport, TakenReport, Reports, all_reported, asked, besides, reported, Owed}
use Rattle.cabinet.proofs.Answering.{action_ended}
use Rattle.cabinet.proofs.Following.{machine_at, WithinJob, stays_within, step_asked, step_taken, step_handed_on}

module _ (bytes : List ℕ) where
  -- Calls from the state m on, while the steps ls are still to come: they are answered as owed, and leave the state n.
  pub record Answered {m : Cabinet} {ls : List Label} {calls : List Call} (n : Cabinet) (reports : Reports bytes m ls calls) : Type 0 where
    pub owed : Owed bytes reports
    pub leaves : left_by bytes m calls ≡ n

  -- Every list of calls that reports the results of these steps is answered so.
  abbrev pub Serves : Cabinet → List Label → Cabinet → Type 0
  Serves m ls n = (calls : List Call) (reports : Reports bytes m ls calls) → Answered n reports

  -- A refused report changes nothing.
  answered_besides :
      {m n : Cabinet} {r : Result} {ls : List Label} {calls : List Call} {more : Reports bytes m ls calls} →
      (refused : RefusedReport bytes m r) → Answered n more → Answered n (besides refused more)
  unfolding left_by Owed
  answered_besides refused k = record { owed = k.owed; leaves = rw refused.answers k.leaves }

  -- An execution with no step left is served by a cabinet that answers that there is none.
  serves_no_step : (m : Cabinet) → action_answer bytes m ≡ Ok None → Serves m [] m
  unfolding left_by Owed
  serves_no_step m e [] all_reported = record { owed = tt; leaves = refl }
  serves_no_step m e (action_call ∷ calls) (asked more) =
      let k = serves_no_step m e calls more in
      record { owed = (e, k.owed); leaves = k.leaves }
  serves_no_step m e (report_call r ∷ calls) (besides refused more) = answered_besides refused (serves_no_step m e calls more)

  -- If the steps after a step are served, so are all of them, provided the cabinet names the step's action and takes its result.
  serves_step :
      (l : Label) {ls : List Label} {m m' n : Cabinet} →
      action_answer bytes m ≡ Ok (Some (action_of l)) → TakenReport bytes m (result_of l) →
      handed_on bytes m (report_call (result_of l)) ≡ m' → Serves m' ls n → Serves m (l ∷ ls) n
  unfolding left_by Owed
  serves_step (did a r) {ls = ls} {m = m} {m' = m'} {n = n} e taken on later [] reports = elim reports [ ]
  serves_step (did a r) e taken on later (action_call ∷ calls) (asked more) =
      let k = serves_step (did a r) e taken on later calls more in
      record { owed = (e, k.owed); leaves = k.leaves }
  serves_step (did a r) e taken on later (report_call r' ∷ calls) (besides refused more) =
      answered_besides refused (serves_step (did a r) e taken on later calls more)
  serves_step (did a r) {ls} {m} {m'} {n} e taken on later (report_call r' ∷ calls) (reported more) =
      let after : Serves (handed_on bytes m (report_call r)) ls n = rw on later in
      let k = after calls more in
      record { owed = (taken, k.owed); leaves = k.leaves }

  module _ {j : Job} (opened : Opened bytes j) where
    -- An execution that is followed by steps that are served.
    serves_before :
        {ls : List Label} {q q' : ProgramState} {s s' : Situation} →
        T* (lamp_theory (tables_of bytes)) (plan_of (tables_of bytes)) ls q s q' s' → WithinJob (tables_of bytes) q s →
        (ms : List Label) {n : Cabinet} → Serves (machine_at q' s') ms n → Serves (machine_at q s) (ls ++ ms) n
    serves_before here p ms later = later
    serves_before (join {m = ls} {n = ns} a b) p ms later =
        rw (append_assoc ls ns ms)
        (serves_before a p (ns ++ ms)
        (serves_before b (stays_within (tables_of bytes) (well_formed bytes j opened) a p) ms later))
    serves_before (step {l = l} x) p ms later =
        serves_step l (step_asked bytes opened x p) (step_taken bytes opened x p) (step_handed_on bytes opened x p) later

    -- An execution that reaches state S is served.
    pub serves_execution :
        {ls : List Label} {q : ProgramState} {s s' : Situation} →
        T* (lamp_theory (tables_of bytes)) (plan_of (tables_of bytes)) ls q s (final (tables_of bytes)) s' →
        WithinJob (tables_of bytes) q s → Serves (machine_at q s) ls (machine_at (final (tables_of bytes)) s')
    serves_execution {s' = s'} a p =
        let at_end = serves_no_step (machine_at (final (tables_of bytes)) s')
        (action_ended bytes opened (machine_at (final (tables_of bytes)) s') refl) in
        rw append-nil at (serves_before a p [] at_end)
