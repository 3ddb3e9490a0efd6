-- The starred cases of bench line G: the runs are computed, and so is the search as it is defined, whose verdict is right.
use Rattle.std.proofs.Common.{◌≡◌, refl, subst, List, ℕ}
use Rattle.lamp_line.specs.Tables.{columns, kinds_of_ends, lamp_column}
use Rattle.lamp_line.specs.Refusals.{refusal, answer_by, some_below}
use Rattle.lamp_line.specs.Run.{act, walk, along, own_steps}
use Rattle.lamp_line.specs.Check.{Verdict, Right}
use Rattle.run_laws.specs.inner.Pairs.{pair_number, pair_of}
use Rattle.search_laws.specs.inner.Entries.{end_from}
use Rattle.check_laws.specs.inner.Fates.{fate, ends_from}
use Rattle.check_laws.specs.inner.Search.{met, tried, lowest_from, members_from, kinds_from, groups_from, verdict_of}
use Rattle.check_laws.proofs.VerdictRight.{verdict_right}
use Rattle.job_layout.specs.Layout.{head}
use Rattle.job_layout.specs.JobTables.{tables_of}
use Rattle.lamp_line.specs.Lists.{blocks}
use Rattle.job_layout.specs.FileRefusals.{ranges_wrong, number_wrong, place_wrong, length_wrong}
use Rattle.job_file.specs.Reading.{reading_of, Opened}
use Rattle.job_tables.proofs.Ranges.{well_formed}
use Rattle.bench_line.specs.BenchJobs.{plan_bytes, bench_job, G, G_unflagged, G_circling, G_no_branch, G_final, G_test_first, G_five}
use Rattle.bench_line.specs.BenchPromises.{Judged, BenchLine}

-- For a file that is not refused, the verdict of the search's definition is right.
judged_by_search : (s : List ℕ) (v : Verdict) → Opened s (head s) → verdict_of (tables_of s) ≡ v → Judged s v
judged_by_search s v opened e =
    record {
      opened = opened;
      right = subst (Right (tables_of s)) e (verdict_right (tables_of s) (well_formed s (head s) opened));
    }

pub bench_line : BenchLine
unfolding blocks plan_bytes bench_job G G_unflagged G_circling G_no_branch G_final G_test_first G_five columns kinds_of_ends lamp_column refusal answer_by some_below ranges_wrong number_wrong place_wrong length_wrong reading_of act walk along own_steps pair_number pair_of fate ends_from met tried end_from lowest_from members_from kinds_from groups_from verdict_of
bench_line =
    record {
      empty_line = refl;
      sound_lamp = refl;
      limit_of_3 = refl;
      faulty_lamp = refl;
      both_lamps = refl;
      accepted_one = judged_by_search G _ refl refl;
      unflagged = record { judged = judged_by_search G_unflagged _ refl refl; runs = refl };
      circling = record { judged = judged_by_search G_circling _ refl refl; runs = refl };
      no_branch = record { judged = judged_by_search G_no_branch _ refl refl; runs = refl };
      final_first = record { judged = judged_by_search G_final _ refl refl; runs = refl };
      final_at_end = refl;
      test_first = record { judged = judged_by_search G_test_first _ refl refl; runs = refl };
      five_states = record { judged = judged_by_search G_five _ refl refl; runs = refl };
    }
