-- The loop of the run: k steps are counted up to this lamp, the pair is in range, the lamps left are of the job's kinds, and the
-- rest of the whole run is the run from here.
use Rattle.std.proofs.Common.{◌≡◌, sym, ap, ◌∙◌, true, List, [], ◌∷◌, ℕ, ◌+◌, ◌-◌, ◌≤◌, ◌<◌, length, get_or, take, drop, take_all, length-drop, arith}
use Rattle.lamp_line.specs.declared.WorldState.{WorldState}
use Rattle.lamp_line.specs.declared.Ending.{Ending}
use Rattle.lamp_line.specs.Tables.{line_of, lamp_column, columns, column_of, column, Kinds, Fits}
use Rattle.job_layout.specs.Layout.{job_columns}
use Rattle.lamp_line.specs.declared.Pair.{Pair}
use Rattle.lamp_line.specs.Run.{pair, arrived, ran, lamp_walk, along, run, limited}
use Rattle.lamp_line.proofs.Columns.{lamp_column_in}
use Rattle.run_laws.specs.inner.Pairs.{InRange}
use Rattle.run_laws.proofs.Columns.{column_is_below}
use Rattle.run_laws.proofs.Walks.{arrived_in_range, arrived_at_lamp}
use Rattle.run_laws.proofs.LoopLaws.{RunOwes, run_owes_start, run_owes_passes, run_owes_ends, run_owes_stopped}
use Rattle.job_layout.specs.declared.Job.{Job}
use Rattle.job_layout.specs.JobTables.{tables_by, tables_of}
use Rattle.job_file.specs.Reading.{Opened}
use Rattle.line_run.specs.RunAnswers.{run_answer_of}
use Rattle.job_file.proofs.WellFormed.{tables_are, well_formed_by}
use Rattle.job_tables.proofs.Ranges.{worlds_are, ends_are, first_is, well_formed}
use Rattle.lamp_walk.specs.declared.Walked.{Walked}
use Rattle.lamp_walk.specs.declared.Walked.TheVariants as walked
use Rattle.lamp_walk.specs.inner.Walking.{walk_of}
use Rattle.line_run.specs.declared.Ran.{Ran}
use Rattle.line_run.specs.declared.Ran.TheVariants as answer

-- ---- the rest of a line

-- The lamps after the first are of these kinds too.
kinds_after : (kinds : ℕ) (lamps : List ℕ) → Kinds kinds lamps → Kinds kinds (drop 1 lamps)
unfolding Kinds
kinds_after kinds [] k = tt
kinds_after kinds (kind ∷ lamps) k = k.2

-- The part of the line that the code goes on with is the lamps after the first.
part_after_lem : (lamps : List ℕ) → take (length lamps - 1) (drop 1 lamps) ≡ drop 1 lamps
part_after_lem lamps = take_all (length lamps - 1) (drop 1 lamps) (omega (arith, length-drop 1 lamps))

-- The part of the line after a lamp is shorter than the line.
pub rest_shorter : (lamps : List ℕ) → 0 < length lamps → length (take (length lamps - 1) (drop 1 lamps)) < length lamps
rest_shorter lamps some = rw (part_after_lem lamps) (omega (arith, length-drop 1 lamps))

-- A lamp's column is one of the columns, of which there are few.
pub lamp_column_small :
    (ends kinds : ℕ) (lamps : List ℕ) → 1 ≤ length lamps → Kinds kinds lamps → columns ends kinds ≤ 16 →
    lamp_column ends (get_or lamps 0 0) ≤ 255
unfolding Kinds
lamp_column_small ends kinds [] some k few = absurd (omega arith)
lamp_column_small ends kinds (kind ∷ lamps) some k few = omega (arith, lamp_column_in ends kinds kind k.1)

-- ---- the loop

-- The loop for the run from p₀ along the line with lamps₀ and this end has counted k steps and is at p, with the lamps `rest` left.
pub record Running
    (s : List ℕ) (j : Job) (limit end : ℕ) (lamps₀ : List ℕ) (p₀ : Pair) (k : ℕ) (rest : List ℕ) (p : Pair) : Type 0 where
  pub within : k ≤ limit
  pub in_range : InRange (tables_by s j) p
  pub fits : Fits (tables_by s j) (line_of end rest)
  pub owes : RunOwes (tables_of s) end lamps₀ p₀ k rest p

module _ {s : List ℕ} {j : Job} {limit end : ℕ} {lamps₀ : List ℕ} {start : WorldState} (opened : Opened s j) where
  -- The loop begins at the first program state.
  pub running_start : (tables_of s).start start ≡ true → Fits (tables_by s j) (line_of end lamps₀) →
      Running s j limit end lamps₀ (pair j.first start) 0 lamps₀ (pair j.first start)
  running_start marked fits =
      record {
        within = omega arith;
        in_range =
            record {
              state_range = (well_formed_by s j opened).formed.first_range;
              world_range = rw (worlds_are s j opened) ((well_formed s j opened).formed.start_range start marked);
            };
        fits = fits;
        owes = run_owes_start (tables_of s) end lamps₀ (pair j.first start);
      }

  module _
      {k : ℕ} {rest : List ℕ} {p : Pair} (running : Running s j limit end lamps₀ (pair j.first start) k rest p) where
    -- The run that the loop is for.
    whole_run : along (tables_of s) end lamps₀ (pair j.first start) ≡ run (tables_of s) start (line_of end lamps₀)
    whole_run = ap (λ q. along (tables_of s) end lamps₀ (pair q start)) (first_is s j opened)

    -- The column at which the line goes on is one of the job's.
    pub running_column_in : {c : ℕ} → c ≡ column_of j.ends end rest → c < job_columns j
    running_column_in is = rw is (column_is_below (tables_by s j) running.fits)

    -- The walk at the present lamp, or at the line's end.
    module _ (v : Walked) {c : ℕ} (is : c ≡ column_of j.ends end rest) (walks : walk_of v ≡ lamp_walk (tables_of s) p c) where
      is_column : c ≡ column (tables_of s) (line_of end rest)
      is_column = is ∙ ap (λ (n : ℕ). column_of n end rest) (ends_are s j opened)

      -- It ends the run.
      pub running_ends :
          {x : Ending} {n : ℕ} {r : Ran} → v ≡ walked.Ended x n → r ≡ run_answer_of (limited limit (ran x (k + n))) →
          r ≡ run_answer_of (limited limit (run (tables_of s) start (line_of end lamps₀)))
      running_ends {x} {n} told e =
          e
          ∙ ap (λ r. run_answer_of (limited limit r))
          (run_owes_ends (tables_of s) end lamps₀ _ k rest p running.owes x n
          (ap walk_of (sym told) ∙ walks ∙ ap (lamp_walk (tables_of s) p) is_column) ∙ whole_run)

      -- It passes the lamp.
      module _ {p' : Pair} {n : ℕ} (told : v ≡ walked.Arrived p' n) where
        arrives : arrived p' n ≡ lamp_walk (tables_of s) p c
        arrives = ap walk_of (sym told) ∙ walks

        at_column : arrived p' n ≡ lamp_walk (tables_of s) p (column (tables_of s) (line_of end rest))
        at_column = arrives ∙ ap (lamp_walk (tables_of s) p) is_column

        -- There is a lamp to pass.
        pub running_at_lamp : 0 < length rest
        running_at_lamp =
            arrived_at_lamp (tables_of s) (well_formed s j opened) _ p p' (line_of end rest) n
            (rw (ends_are s j opened) at running.fits.ended) at_column

        owes_on : RunOwes (tables_of s) end lamps₀ (pair j.first start) (k + n) (drop 1 rest) p'
        owes_on = run_owes_passes (tables_of s) end lamps₀ _ k rest p running.owes running_at_lamp p' n at_column

        -- The loop goes on after the lamp.
        pub running_passes :
            k + n ≤ limit →
            Running s j limit end lamps₀ (pair j.first start) (k + n) (take (length rest - 1) (drop 1 rest)) p'
        running_passes within =
            rw (part_after_lem rest)
            (record {
              within = within;
              in_range =
                  rw (tables_are s j opened) (arrived_in_range (tables_of s) (well_formed s j opened) _ p p' c n arrives);
              fits = record { of_kinds = kinds_after j.kinds rest running.fits.of_kinds; ended = running.fits.ended };
              owes = owes_on;
            })

        -- More steps are counted than the limit allows: the answer is Stopped.
        pub running_stopped :
            limit < k + n → answer.Stopped limit ≡ run_answer_of (limited limit (run (tables_of s) start (line_of end lamps₀)))
        running_stopped beyond =
            ap run_answer_of
            (run_owes_stopped (tables_of s) end lamps₀ _ (k + n) (drop 1 rest) p' owes_on limit beyond
            ∙ ap (limited limit) whole_run)
