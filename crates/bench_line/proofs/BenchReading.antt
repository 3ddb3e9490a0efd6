-- The refusals of files, computed for bench line G and for files that differ from it in a byte or two. Where several refusals apply, the
-- lowest number wins.
use Rattle.std.proofs.Common.{◌≡◌, refl, List, ℕ, Option, None, Some, set, take}
use Rattle.lamp_line.specs.declared.Refusal.{Refusal}
use Rattle.lamp_line.specs.declared.Refusal.TheVariants.{FileSize, HeadNumber, PartPlace, Mark, Cell, LegalAtEnd, StartMark, GoalCell, PlanAction, PlanTarget}
use Rattle.lamp_line.specs.Tables.{kinds_of_ends, columns}
use Rattle.lamp_line.specs.Refusals.{refusal, some_below}
use Rattle.lamp_line.specs.Lists.{blocks}
use Rattle.job_layout.specs.FileRefusals.{ranges_wrong, number_wrong, place_wrong, length_wrong}
use Rattle.job_file.specs.Reading.{file_refusals}
use Rattle.bench_line.specs.BenchJobs.{plan_bytes, bench_job, G}

abbrev refused : List ℕ → Option Refusal
refused file = refusal (file_refusals file)

-- Each case is named after what is changed in bench line G.
pub record BenchReading : Type 0 where
  pub not_refused : refused G ≡ None
  pub short : refused (take 27 G) ≡ Some FileSize
  pub sixteen_kinds : refused (set G 2 16) ≡ Some HeadNumber
  pub second_offset : refused (set G 12 31) ≡ Some PartPlace
  pub first_at_27 : refused (set G 8 27) ≡ Some PartPlace
  pub mark_of_two : refused (set G 28 2) ≡ Some Mark
  pub next_of_three : refused (set G 32 3) ≡ Some Cell
  pub next_beside_255 : refused (set G 50 1) ≡ Some Cell
  pub peek_moves_on : refused (set G 28 1) ≡ Some LegalAtEnd
  pub six_before_seven : refused (set (set G 28 1) 103 9) ≡ Some Cell
  pub no_start : refused (set G 104 0) ≡ Some StartMark
  pub goal_of_two : refused (set G 107 2) ≡ Some GoalCell
  pub action_of_four : refused (set G 125 4) ≡ Some PlanAction
  pub target_of_five : refused (set G 117 5) ≡ Some PlanTarget
  pub ten_before_eleven : refused (set (set G 117 5) 125 4) ≡ Some PlanAction

pub bench_reading : BenchReading
unfolding blocks plan_bytes bench_job G kinds_of_ends columns refusal some_below ranges_wrong number_wrong place_wrong length_wrong
bench_reading =
    record {
      not_refused = refl;
      short = refl;
      sixteen_kinds = refl;
      second_offset = refl;
      first_at_27 = refl;
      mark_of_two = refl;
      next_of_three = refl;
      next_beside_255 = refl;
      peek_moves_on = refl;
      six_before_seven = refl;
      no_start = refl;
      goal_of_two = refl;
      action_of_four = refl;
      target_of_five = refl;
      ten_before_eleven = refl;
    }
