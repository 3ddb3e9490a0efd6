-- The loop of the replay: the first i entries are possible, q is the program state to which they lead, and the words hold the
-- candidates. An entry that cannot be made is the first with which the log is impossible.
use Rattle.std.proofs.Common.{◌≡◌, sym, ap, subst, ◌∙◌, Option, None, Some, Ok, Err, false, ◌||◌, List, [], ℕ, suc, ◌+◌, ◌≤◌, ◌<◌, add-one, arith, length, get_or, leb-false, leb}
use Rattle.std.specs.Simd.{first_chunks}
use Rattle.plans.specs.Execution.{Label, action_of, result_of}
use Rattle.lamp_line.specs.declared.ProgramState.{ProgramState}
use Rattle.lamp_line.specs.Replay.{Possible}
use Rattle.lamp_line.proofs.Scan.{none_at}
use Rattle.head_refusals.proofs.HeadLaws.{neither}
use Rattle.job_layout.specs.declared.Job.{Job}
use Rattle.job_layout.specs.JobTables.{tables_of}
use Rattle.job_file.specs.Reading.{Opened}
use Rattle.job_tables.proofs.Ranges.{laid_out, states_are, first_is, well_formed}
use Rattle.log_laws.specs.inner.Candidates.{FirstCandidates, Follows}
use Rattle.log_laws.proofs.Following.{follows_possible, stuck_impossible, follows_start, follows_next}
use Rattle.log_laws.proofs.Logs.{beginning_possible}
use Rattle.log_candidates.specs.declared.LogEntry.{LogEntry}
use Rattle.log_replay.specs.declared.ReplayError.TheVariants.{ImpossibleAt}
use Rattle.log_replay.specs.Logs.{log_entry, first_entries, entry_count}
use Rattle.log_replay.specs.ReplayAnswers.{entry_wrong, entries_wrong, ReplayedRight}
use Rattle.log_candidates.specs.inner.WorldSets.{label_of, EntryInJob, Holds, WorldsIn, HoldJust}
use Rattle.log_candidates.proofs.Holding.{first_worlds, next_worlds}
use Rattle.log_replay.specs.inner.Acting.{Followed}
use Rattle.lamp_line.proofs.PairsOfBytes.{count_of_pairs}
use Rattle.log_replay.proofs.LogEntries.{entry_of_pair, length_entries, entries_begin, take_entries}

-- The loop is before entry i.
pub record Replaying (s : List ℕ) (j : Job) (log : List ℕ) (i : ℕ) (q : ProgramState) (sets : List ℕ) : Type 0 where
  pub opened : Opened s j
  pub entries_right : entries_wrong j.actions j.results log ≡ false
  pub within : i ≤ entry_count log
  pub state_range : q.0 ≤ j.states
  pub worlds : WorldsIn j sets
  pub follows : Follows (tables_of s) (first_entries log i) q (Holds j sets)

-- The loop begins.
pub replaying_start :
    {s : List ℕ} {j : Job} {log sets : List ℕ} → Opened s j → entries_wrong j.actions j.results log ≡ false →
    HoldJust j (FirstCandidates (tables_of s)) sets → Replaying s j log 0 j.first sets
unfolding first_entries
replaying_start {s} {j} {sets = sets} opened entries_right first =
    record {
      opened = opened;
      entries_right = entries_right;
      within = omega arith;
      state_range = (laid_out s j opened).first_range;
      worlds = first_worlds s opened first;
      follows = subst (λ (q : ProgramState). Follows (tables_of s) [] q (Holds j sets)) (sym (first_is s j opened))
          (follows_start (tables_of s) (well_formed s j opened) first.holds);
    }

-- It goes over the pairs of the log's bytes.
module _
    {s : List ℕ} {j : Job} {log sets : List ℕ} {i : ℕ} {q : ProgramState} (now : Replaying s j log i q sets)
    {pairs : List (List ℕ)} (are_pairs : pairs ≡ first_chunks 2 (entry_count log) log)
  where
    -- It is through: the log is possible.
    pub replaying_end : length pairs ≤ i → ReplayedRight (tables_of s) log (Ok tt)
    unfolding ReplayedRight
    replaying_end end =
        let same : i ≡ entry_count log = omega (arith, now.within, ap length are_pairs, count_of_pairs (entry_count log) log) in
        subst (λ (n : ℕ). Possible (tables_of s) (first_entries log n)) same (follows_possible (tables_of s) now.follows)

    -- Entry i is read.
    module _ (below : i < length pairs) {entry : LogEntry} (of_pair : label_of entry ≡ log_entry (get_or pairs i []) 0) where
      more : i < entry_count log
      more = omega (arith, ap length are_pairs, count_of_pairs (entry_count log) log)

      read : label_of entry ≡ log_entry log i
      read = of_pair ∙ rw are_pairs (entry_of_pair log (entry_count log) i more)

      -- It is not wrong.
      pub entry_in_range : EntryInJob j entry
      entry_in_range =
          let right = none_at (entry_wrong j.actions j.results log) (entry_count log) now.entries_right i more in
          let tests = neither (leb j.actions entry.action) (leb j.results entry.result)
          (ap (λ (l : Label). leb j.actions (action_of l) || leb j.results (result_of l)) read ∙ right) in
          record { action_range = leb-false _ _ tests.0; result_range = leb-false _ _ tests.1 }

      module _
          {target : Option ProgramState} {after : List ℕ} (followed : Followed (tables_of s) j q (label_of entry) target sets after)
        where
          -- It cannot be made: this is the first entry with which the log is impossible.
          pub replaying_stuck : target ≡ None → ReplayedRight (tables_of s) log (Err (ImpossibleAt i))
          unfolding ReplayedRight first_entries
          replaying_stuck is =
              let stuck = stuck_impossible (tables_of s) now.follows (followed.stuck is) in
              record {
                is_entry = rw (length_entries log (entry_count log)) more;
                impossible = λ possible. stuck (rw (take_entries log (suc i) (entry_count log) more, ← read) at possible);
                possible_before = λ k k<.
                    let (rest, same) = entries_begin log (suc k) i k< in
                    rw (take_entries log (suc k) (entry_count log) (omega arith))
                    (beginning_possible (tables_of s) (first_entries log (suc k)) rest
                    (rw same at (follows_possible (tables_of s) now.follows)));
              }

          -- The loop goes on in the program state to which it leads.
          pub replaying_more : {to : ProgramState} → target ≡ Some to → Replaying s j log (i + 1) to after
          unfolding first_entries
          replaying_more {to} is =
              let on = followed.goes_on to is in
              let wf = well_formed s j now.opened in
              record {
                opened = now.opened;
                entries_right = now.entries_right;
                within = omega (arith, more);
                state_range = rw (states_are s j now.opened) (wf.formed.target_range q to entry.result on.branch).1;
                worlds = next_worlds s now.opened (record { holds = on.next });
                follows = rw (add-one i, ← read) (follows_next (tables_of s) wf now.follows on);
              }
