-- What the one-lamp walk answers, refusal by refusal.
use Rattle.std.proofs.Common.{◌≡◌, refl, sym, ap, ◌∙◌, Bool, cond, List, ℕ, ◌≤◌, ◌<◌, leb, ltb, Ok, Err, le-leb, lt-ltb, le-ltb}
use Rattle.std.proofs.lemmas.Bool.{lt-leb}
use Rattle.lamp_line.specs.declared.Pair.{Pair}
use Rattle.lamp_line.specs.declared.Refusal.{Refusal}
use Rattle.lamp_line.specs.declared.Refusal.TheVariants as refused
use Rattle.lamp_line.specs.Refusals.{Answer}
use Rattle.lamp_line.specs.Run.{lamp_walk}
use Rattle.lamp_line.proofs.Answering.{by_refusal, by_no_refusal}
use Rattle.job_layout.specs.declared.Job.{Job}
use Rattle.job_layout.specs.Layout.{job_columns}
use Rattle.job_layout.specs.JobTables.{tables_of}
use Rattle.job_file.specs.Reading.{reading_of, Opened}
use Rattle.job_file.proofs.Opening.{file_refused, file_opened}
use Rattle.job_file.proofs.WellFormed.{sound}
use Rattle.lamp_walk.specs.declared.Walked.{Walked}
use Rattle.lamp_walk.specs.declared.Walked.TheVariants as walked
use Rattle.lamp_walk.specs.WalkAnswers.{walk_answer_of, walk_answer}
use Rattle.lamp_walk.specs.inner.Walking.{walk_of}

-- What the code answers is the walk that it stands for.
answer_of_walk : (v : Walked) → v ≡ walk_answer_of (walk_of v)
answer_of_walk (walked.Ended x k) = refl
answer_of_walk (walked.Arrived p k) = refl

module _ (s : List ℕ) (p : Pair) (c : ℕ) where
  -- A refused file is refused as the reader refuses it.
  pub walk_file_refused : (because : Refusal) → reading_of s ≡ Err because → Err because ≡ walk_answer s p c
  unfolding walk_answer
  walk_file_refused because told = file_refused s _ _ because told

  -- If the file is not refused, the three refusals of the walk decide.
  module _ {j : Job} (opened : Opened s j) where
    abbrev refused_if : Bool → Refusal → Answer Walked → Answer Walked
    refused_if applies because otherwise = cond applies (Err because) otherwise

    walk_by_refusals :
        walk_answer s p c
        ≡ refused_if (leb j.worlds p.world.0) refused.Start
        (refused_if (leb (job_columns j) c) refused.Line
        (refused_if (ltb j.states p.state.0) refused.State
        (Ok (walk_answer_of (lamp_walk (tables_of s) p c)))))
    unfolding walk_answer
    walk_by_refusals =
        rw (sound s j opened).is_head
        (file_opened s _ _ j opened ∙ (by_refusal _ _ _ _ ∙ rw (by_refusal, by_refusal, by_no_refusal)))

    -- The world state is not below W.
    pub walk_world_refused : j.worlds ≤ p.world.0 → Err refused.Start ≡ walk_answer s p c
    walk_world_refused w≥ = sym (walk_by_refusals ∙ rw (le-leb _ _ w≥))

    module _ {n : ℕ} (w< : p.world.0 < j.worlds) (count : n ≡ job_columns j) where
      -- The column is not below the number n of columns.
      pub walk_column_refused : n ≤ c → Err refused.Line ≡ walk_answer s p c
      walk_column_refused c≥ = sym (walk_by_refusals ∙ rw (lt-leb _ _ w<, sym count, le-leb _ _ c≥))

      -- The program state is above S.
      pub walk_state_refused : c < n → j.states < p.state.0 → Err refused.State ≡ walk_answer s p c
      walk_state_refused c< q> = sym (walk_by_refusals ∙ rw (lt-leb _ _ w<, sym count, lt-leb _ _ c<, lt-ltb _ _ q>))

      -- None of the three applies: the walk is answered.
      pub walk_answered : (v : Walked) → c < n → p.state.0 ≤ j.states → walk_of v ≡ lamp_walk (tables_of s) p c → Ok v ≡ walk_answer s p c
      walk_answered v c< q≤ walks =
          ap Ok (answer_of_walk v ∙ ap walk_answer_of walks)
          ∙ sym (walk_by_refusals ∙ rw (lt-leb _ _ w<, sym count, lt-leb _ _ c<, le-ltb _ _ q≤))
