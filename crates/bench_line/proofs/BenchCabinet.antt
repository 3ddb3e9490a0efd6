-- The cabinet's operations on bench line G, each answer computed: the case of 01, the order of the refusals, and the state that a whole list
-- of calls along the line of one sound lamp leaves.
use Rattle.std.proofs.Common.{◌≡◌, refl, List, [], ◌∷◌, ℕ, None, Some, Ok, Err}
use Rattle.lamp_line.specs.declared.Cabinet.{Cabinet}
use Rattle.lamp_line.specs.declared.Refusal.{Refusal}
use Rattle.lamp_line.specs.declared.Refusal.TheVariants as refused
use Rattle.lamp_line.specs.Tables.{program_state, kinds_of_ends, columns}
use Rattle.lamp_line.specs.Refusals.{refusal, answer_by, some_below}
use Rattle.lamp_line.specs.Lists.{blocks}
use Rattle.job_layout.specs.FileRefusals.{ranges_wrong, number_wrong, place_wrong, length_wrong}
use Rattle.cabinet.specs.declared.ReportError.{ReportError}
use Rattle.cabinet.specs.CabinetAnswers.{begin_answer, action_answer, state_answer, report_answer}
use Rattle.cabinet.specs.Calls.{Call, action_call, report_call, left_by}
use Rattle.bench_line.specs.BenchJobs.{plan_bytes, bench_job, G}

abbrev at : ℕ → ℕ → Cabinet
at state lamps = record { state = program_state state; lamps = lamps }

abbrev kept : Refusal → Cabinet → ReportError
kept because state = record { refusal = because; state = state }

-- Calls along the line of one sound lamp, with refused reports among them.
abbrev calls : List Call
calls =
    action_call ∷ report_call 2 ∷ report_call 1 ∷ action_call ∷ report_call 0 ∷ report_call 1 ∷ report_call 0 ∷ action_call
    ∷ report_call 0 ∷ action_call ∷ report_call 0 ∷ []

-- `at q n` is the machine in state q with n lamps left, and `kept because m` is the refusal of a report in state m.
pub record BenchCabinet : Type 0 where
  pub begun : begin_answer G 2 ≡ Ok (at 0 2)
  pub left_after_three : left_by G (at 0 2) (report_call 1 ∷ report_call 0 ∷ report_call 0 ∷ []) ≡ at 0 1
  pub asked_then : action_answer G (at 0 1) ≡ Ok (Some 0)
  pub no_such_result : report_answer G (at 0 1) 2 ≡ Err (kept refused.NoTarget (at 0 1))
  pub no_lamp_left : report_answer G (at 3 0) 0 ≡ Err (kept refused.NoLampLeft (at 3 0))
  pub no_branch_first : report_answer G (at 3 0) 1 ≡ Err (kept refused.NoTarget (at 3 0))
  pub after_the_end : report_answer G (at 4 5) 9 ≡ Err (kept refused.AfterEnd (at 4 5))
  pub above_the_final : report_answer G (at 5 0) 0 ≡ Err (kept refused.State (at 5 0))
  pub whole_list : left_by G (at 0 1) calls ≡ at 4 0
  pub ended_then : action_answer G (at 4 0) ≡ Ok None

pub bench_cabinet : BenchCabinet
unfolding blocks plan_bytes bench_job G kinds_of_ends columns refusal answer_by some_below ranges_wrong number_wrong place_wrong length_wrong begin_answer action_answer state_answer report_answer left_by
bench_cabinet =
    record {
      begun = refl;
      left_after_three = refl;
      asked_then = refl;
      no_such_result = refl;
      no_lamp_left = refl;
      no_branch_first = refl;
      after_the_end = refl;
      above_the_final = refl;
      whole_list = refl;
      ended_then = refl;
    }
