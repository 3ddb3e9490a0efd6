-- What the run answers, refusal by refusal.
use Rattle.std.proofs.Common.{◌≡◌, sym, ap, ◌∙◌, Bool, true, false, cond, not, List, ℕ, Ok, Err}
use Rattle.lamp_line.specs.declared.WorldState.{WorldState}
use Rattle.lamp_line.specs.declared.Refusal.{Refusal}
use Rattle.lamp_line.specs.declared.Refusal.TheVariants as refused
use Rattle.lamp_line.specs.Tables.{Line}
use Rattle.lamp_line.specs.Refusals.{Answer}
use Rattle.lamp_line.specs.Run.{run, limited}
use Rattle.lamp_line.proofs.Answering.{by_refusal, by_no_refusal}
use Rattle.job_layout.specs.declared.Job.{Job}
use Rattle.job_layout.specs.JobTables.{tables_of}
use Rattle.job_file.specs.Reading.{reading_of, Opened}
use Rattle.line_refusals.specs.LineRefusals.{line_wrong}
use Rattle.line_refusals.proofs.LineLaws.{unmarked_is}
use Rattle.job_file.proofs.Opening.{file_refused, file_opened}
use Rattle.job_tables.proofs.Ranges.{kinds_are, ends_are, well_formed}
use Rattle.line_run.specs.declared.Ran.{Ran}
use Rattle.line_run.specs.RunAnswers.{run_answer_of, run_answer}

abbrev refused_if : Bool → Refusal → Answer Ran → Answer Ran
refused_if applies because otherwise = cond applies (Err because) otherwise

-- The answer, given what the code has read.
module _ (s : List ℕ) (start : WorldState) (line : Line) (limit : ℕ) where
  -- A refused file is refused as the reader refuses it.
  pub run_file_refused : (because : Refusal) → reading_of s ≡ Err because → Err because ≡ run_answer s start line limit
  unfolding run_answer
  run_file_refused because told = file_refused s _ _ because told

  module _ {j : Job} (opened : Opened s j) where
    -- If the file is not refused, the two refusals of the run decide.
    pub run_by_refusals :
        run_answer s start line limit
        ≡ refused_if (not ((tables_of s).start start)) refused.Start
        (refused_if (line_wrong j.ends j.kinds line) refused.Line
        (Ok (run_answer_of (limited limit (run (tables_of s) start line)))))
    unfolding run_answer
    run_by_refusals =
        rw (kinds_are s j opened, ends_are s j opened)
        (file_opened s _ _ j opened ∙ (by_refusal _ _ _ _ ∙ rw (by_refusal, by_no_refusal, unmarked_is _ (well_formed s j opened) start)))

    module _ {marked : Bool} (is_marked : marked ≡ (tables_of s).start start) where
      -- The start is not marked.
      pub run_start_refused : not marked ≡ true → Err refused.Start ≡ run_answer s start line limit
      run_start_refused unmarked = sym (run_by_refusals ∙ rw (sym is_marked, unmarked))

      module _ {wrong : Bool} (start_right : not marked ≡ false) (is_wrong : wrong ≡ line_wrong j.ends j.kinds line) where
        -- The line is wrong.
        pub run_line_refused : wrong ≡ true → Err refused.Line ≡ run_answer s start line limit
        run_line_refused line_wrong_lem = sym (run_by_refusals ∙ rw (sym is_marked, start_right, sym is_wrong, line_wrong_lem))

        -- Neither of the two applies: the run is answered.
        pub run_answered :
            {r : Ran} → wrong ≡ false → r ≡ run_answer_of (limited limit (run (tables_of s) start line)) →
            Ok r ≡ run_answer s start line limit
        run_answered line_right ran = ap Ok ran ∙ sym (run_by_refusals ∙ rw (sym is_marked, start_right, sym is_wrong, line_right))
