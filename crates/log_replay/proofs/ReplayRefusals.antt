-- What the tests of the replay say: whether the plan acts so, whether an entry is wrong, and which refusal applies.
use Rattle.std.proofs.Common.{◌≡◌, refl, sym, ap, subst, ◌∙◌, ◌≢◌, Bool, true, false, not, ◌||◌, List, [], ◌∷◌, Option, None, Some, Err, ℕ, ◌+◌, ◌*◌, ◌/◌, ◌<◌, arith, length, get_or, eq-eqb, ne_eqb, eqb, leb}
use Rattle.std.specs.List.{list_any}
use Rattle.std.specs.Simd.{first_chunks}
use Rattle.plans.specs.Plan.{Action}
use Rattle.lamp_line.specs.declared.ProgramState.{ProgramState}
use Rattle.lamp_line.specs.declared.Refusal.{Refusal}
use Rattle.lamp_line.specs.declared.Refusal.TheVariants as refused
use Rattle.lamp_line.specs.Refusals.{◌when◌, refusal, some_below}
use Rattle.lamp_line.proofs.Scan.{any_by_place}
use Rattle.job_layout.specs.declared.Job.{Job}
use Rattle.job_layout.specs.JobTables.{tables_of}
use Rattle.job_file.specs.Reading.{reading_of, Opened}
use Rattle.job_file.proofs.Opening.{first_of_refused, first_of_opened}
use Rattle.job_tables.proofs.Ranges.{states_are, actions_are, results_are}
use Rattle.log_replay.specs.declared.ReplayError.TheVariants.{Refused}
use Rattle.log_replay.specs.Logs.{entry_count}
use Rattle.log_replay.specs.ReplayAnswers.{log_size_wrong, entry_wrong, entries_wrong, replay_refusals, ReplayAnswer, ReplayedRight, ReplayedBy, Replayed}
use Rattle.log_replay.specs.inner.Acting.{acts_so}
use Rattle.lamp_line.proofs.PairsOfBytes.{count_of_pairs, byte_of_pair}

-- ---- the plan's action

module _ (s : List ℕ) {j : Job} (opened : Opened s j) (q : ProgramState) where
  -- The plan has ended.
  pub ended_acts_not : (a : Action) → q.0 ≡ j.states → not (eqb q.0 j.states) ≡ acts_so (tables_of s) q a
  ended_acts_not a ended = rw (eq-eqb _ _ ended, eq-eqb _ _ (ended ∙ states_are s j opened))

  -- It has not: the action decides.
  pub action_decides : (a : Action) {b : Action} → q.0 ≢ j.states → b ≡ (tables_of s).action q → eqb a b ≡ acts_so (tables_of s) q a
  action_decides a live is =
      rw (ne_eqb q.0 (tables_of s).states (λ ended. live (ended ∙ sym (states_are s j opened))), is)

-- ---- wrong entries

module _ (actions results : ℕ) where
  -- The test of an entry's two bytes.
  abbrev pub pair_wrong : List ℕ → Bool
  pair_wrong entry = leb actions (get_or entry 0 0) || leb results (get_or entry 1 0)

  -- Some pair of bytes is wrong exactly when some entry is.
  pub any_pair_wrong : (log : List ℕ) → list_any pair_wrong (first_chunks 2 (length log / 2) log) ≡ entries_wrong actions results log
  any_pair_wrong log =
      let count : length (first_chunks 2 (entry_count log) log) ≡ entry_count log = count_of_pairs (entry_count log) log in
      any_by_place pair_wrong (entry_wrong actions results log) (first_chunks 2 (entry_count log) log) []
      (λ i i<.
      let i<count : i < entry_count log = omega (arith, count) in
      let e : 2 * i + 0 ≡ 2 * i = omega arith in
      rw (byte_of_pair log (entry_count log) i 0 i<count (omega arith), e, byte_of_pair log (entry_count log) i 1 i<count (omega arith)))
      ∙ ap (λ (n : ℕ). some_below n (entry_wrong actions results log)) count

-- ---- the refusals

module _ (s log : List ℕ) where
  -- The first refusal that applies is this one.
  refused_so : {because : Refusal} → refusal (replay_refusals s log) ≡ Some because → Replayed s log (Err (Refused because))
  refused_so {because} e = subst (λ (o : Option Refusal). ReplayedBy o (tables_of s) log (Err (Refused because))) (sym e) refl

  -- A refused file is refused with the reader's refusal.
  pub replay_file_refused : {because : Refusal} → reading_of s ≡ Err because → Replayed s log (Err (Refused because))
  replay_file_refused refused = refused_so (first_of_refused s _ refused)

  module _ {j : Job} (opened : Opened s j) where
    -- If the file is not refused, the two refusals of the replay decide.
    pub replay_by_refusals :
        refusal (replay_refusals s log)
        ≡ refusal
        ((refused.LogSize when log_size_wrong log) ∷ (refused.LogEntry when entries_wrong j.actions j.results log) ∷ [])
    replay_by_refusals = rw (actions_are s j opened, results_are s j opened) (first_of_opened s _ opened)

    module _ {size : Bool} (is_size : size ≡ log_size_wrong log) where
      -- The log has a wrong size.
      pub replay_size_refused : size ≡ true → Replayed s log (Err (Refused refused.LogSize))
      unfolding refusal
      replay_size_refused wrong = refused_so (replay_by_refusals ∙ rw (sym is_size, wrong))

      module _ {entries : Bool} (size_right : size ≡ false) (is_entries : entries ≡ entries_wrong j.actions j.results log) where
        -- Some entry is wrong.
        pub replay_entries_refused : entries ≡ true → Replayed s log (Err (Refused refused.LogEntry))
        unfolding refusal
        replay_entries_refused wrong = refused_so (replay_by_refusals ∙ rw (sym is_size, size_right, sym is_entries, wrong))

        -- Neither refusal applies: a right answer is what the contract asks for.
        pub replay_answered : (r : ReplayAnswer) → entries ≡ false → ReplayedRight (tables_of s) log r → Replayed s log r
        unfolding refusal
        replay_answered r none_wrong right =
            let none_applies : refusal (replay_refusals s log) ≡ None =
            replay_by_refusals ∙ rw (sym is_size, size_right, sym is_entries, none_wrong) in
            subst (λ (o : Option Refusal). ReplayedBy o (tables_of s) log r) (sym none_applies) right
