-- The loop of the walk, which leaves links: its invariant, what it answers, and that each turn leaves one unknown entry fewer. A
-- link that it meets is its own, so it circles.
use mathlib.Core.Path.{◌≡◌, refl, sym, ap, ◌∙◌}
use mathlib.Core.Logic.{◌≢◌, inl, inr}
use mathlib.Core.List.{List}
use Prim.Native.Nat.{ℕ, ◌+◌, ◌*◌, ◌≤◌, ◌<◌}
use native.Mathlib.Omega.{arith}
use borrow.Author.Tests.{eq-eqb, ne_eqb}
use lib.Dec.{eqb}
use mir.Syntax.{w64}
use mir.Val.{Fits}
use lib.ListN.{length, get_or, set, length-set}
use Rattle.lamp_line.specs.declared.FailureKind.TheVariants.{Circles}
use Rattle.lamp_line.specs.declared.Ending.{Ending}
use Rattle.lamp_line.specs.declared.Ending.TheVariants.{Failure}
use Rattle.lamp_line.specs.Tables.{Tables}
use Rattle.job_layout.specs.Layout.{job_columns}
use Rattle.lamp_line.specs.declared.Pair.{Pair}
use Rattle.lamp_line.specs.Run.{ends, ended, judged, act, lamp_walk}
use Rattle.run_laws.specs.inner.Pairs.{InRange, pair_number}
use Rattle.run_laws.proofs.Actions.{act_final}
use Rattle.job_layout.specs.declared.Job.{Job}
use Rattle.job_layout.specs.JobTables.{tables_by, tables_of}
use Rattle.job_file.specs.Reading.{Opened}
use Rattle.job_file.proofs.WellFormed.{tables_are, well_formed_by}
use Rattle.lamp_walk.specs.declared.Acted.{Acted}
use Rattle.lamp_walk.specs.declared.Acted.TheVariants as move
use Rattle.lamp_walk.specs.inner.Walking.{move_of}
use Rattle.fate_laws.specs.inner.Series.{series}
use Rattle.fate_laws.proofs.Series.{series_more}
use Rattle.fate_laws.proofs.StepFates.{ends_fate, passes_fate, circle_fate}
use Rattle.lamp_fates.specs.inner.Memory.{pair_code, fate_entry, entry_place, remembered, Memory}
use Rattle.lamp_fates.specs.inner.Links.{Asked, After, Stands, Linked, WalkedTo}
use Rattle.lamp_fates.proofs.BlankMemory.{entries_most}
use Rattle.lamp_fates.proofs.Entries.{fate_below}
use Rattle.lamp_fates.proofs.LinkLaws.{within, told, same_fate, link_left}
use Rattle.lamp_fates.proofs.Places.{place_below, place_in}
use Rattle.run_laws.proofs.Pairs.{pairs_few, pair_number_in}
use Rattle.lamp_fates.proofs.Tally.{tally, tally_falls}

-- The walk from the first pair is at p, and has left links at all pairs before it. Its tables are those by the job that the reader
-- answered for the file.
pub record LeavingLinks (s : List ℕ) (j : Job) (first : Pair) (column : ℕ) (memory₀ memory : List ℕ) (p : Pair) : Type 0 where
  pub opened : Opened s j
  pub same_length : length memory ≡ length memory₀
  pub asked : Asked (tables_by s j) first column
  pub in_range : InRange (tables_by s j) p
  pub actions : ℕ
  pub after : After (tables_by s j) first column actions p
  pub links : Linked (tables_by s j) first column 0 actions memory

-- How many entries are unknown.
abbrev pub unknown : List ℕ → ℕ
unknown memory = tally (λ v. eqb v 0) memory

module _ {s : List ℕ} {j : Job} {first : Pair} {column : ℕ} where
  -- The walk begins.
  pub leaving_starts :
      {memory : List ℕ} → Opened s j → Memory (tables_by s j) memory → InRange (tables_by s j) first → column < job_columns j →
      LeavingLinks s j first column memory memory first
  leaving_starts opened known in_range column_in =
      record {
        opened = opened;
        same_length = refl;
        asked = record { well_formed = well_formed_by s j opened; in_range = in_range; column_in = column_in };
        in_range = in_range;
        actions = 0;
        after = unfold series in refl;
        links =
            record {
              room = known.room;
              link = λ i p h k. absurd (omega arith);
              once = λ i j p h k l. absurd (omega arith);
              others = λ p at in_range at_in. inl (known.unknown_or_right p at in_range at_in);
            };
      }

  module _ {memory₀ memory : List ℕ} {p : Pair} (walk : LeavingLinks s j first column memory₀ memory p) where
    abbrev t : Tables
    t = tables_by s j

    asked : Asked t first column
    asked = walk.asked

    -- The walk has found the fate.
    walked : {r : ℕ} → r ≡ fate_entry (lamp_walk t first column) → WalkedTo t first column r memory
    walked right = record { asked = asked; is_fate = right; actions = walk.actions; links = walk.links }

    -- ---- the action that was made

    module _ (step : Acted) (acts : move_of step ≡ act (tables_of s) p column) where
      -- It is the next action of the walk, in the tables of the walk.
      leads_on : {found : Acted} → step ≡ found → series t column (walk.actions + 1) first ≡ move_of found
      leads_on {found} is =
          series_more t column walk.actions first p (move_of found) walk.after
          (rw (tables_are s j walk.opened) (sym acts ∙ ap move_of is))

      -- It ends the run.
      pub walked_ends : {r : ℕ} {x : Ending} → step ≡ move.Ends x → r ≡ fate_entry (ended x 0) → WalkedTo t first column r memory
      walked_ends {x = x} is e =
          walked (e ∙ told asked (ends_fate t asked.well_formed column asked.column_in (walk.actions + 1) first x asked.in_range (leads_on is)))

      module _ {q : Pair} where
        -- It passes the lamp.
        pub walked_passes : {n : ℕ} → step ≡ move.Passes q → n ≡ pair_code q → WalkedTo t first column (16 + n) memory
        walked_passes is e =
            walked (ap (◌+◌ 16) e
            ∙ told asked
            (passes_fate t asked.well_formed column asked.column_in (walk.actions + 1) first q asked.in_range (leads_on is)))

        -- It stays.
        module _ (is : step ≡ move.Stays q) where
          -- The pair that it leads to is one of the tables.
          next_within : InRange t q
          next_within = within asked (walk.actions + 1) (leads_on is)

          -- So its world state is one of the job's.
          pub next_world_within : q.world.0 < j.worlds
          next_world_within = next_within.world_range

          -- It has a small number, so that a link can name it.
          pub next_small : {number : ℕ} → number ≡ pair_number j.worlds q → number < 4160
          next_small e = omega (arith, e, pair_number_in t q next_within, pairs_few asked.well_formed)

          -- It leads to the final state: the goal decides.
          pub walked_final :
              {r : ℕ} {x : Ending} → q.state.0 ≡ j.states → x ≡ judged (tables_of s) q.world column → r ≡ fate_entry (ended x 0) →
              WalkedTo t first column r memory
          walked_final {x = x} final judges e =
              let goal : judged (tables_of s) q.world column ≡ judged t q.world column =
              ap (λ (u : Tables). judged u q.world column) (sym (tables_are s j walk.opened)) in
              let end =
              series_more t column (walk.actions + 1) first q (ends (judged t q.world column)) (leads_on is)
              (act_final t q column (eq-eqb _ _ final)) in
              walked (e ∙ ap (λ (y : Ending). fate_entry (ended y 0)) (judges ∙ goal)
              ∙ told asked (ends_fate t asked.well_formed column asked.column_in (walk.actions + 1 + 1) first _ asked.in_range end))

    -- ---- the entry of the pair

    -- What is known of it.
    standing : Stands t first column 0 walk.actions p column (remembered t memory p column)
    standing = walk.links.others p column walk.in_range asked.column_in

    module _ {place : ℕ} (at : place ≡ entry_place t p column) where
      -- Its place is within the memory.
      pub leaving_place : place < length memory
      leaving_place = rw at (place_in t p column walk.in_range asked.column_in memory walk.links.room)

      -- Its offset in bytes fits 64 bits.
      pub leaving_fits : Fits w64 (place * 2)
      leaving_fits =
          omega (arith, at, place_below t p column walk.in_range asked.column_in, entries_most asked.well_formed)

      -- The entry is known, and it is no link: it is that of the fate.
      pub walked_known :
          get_or memory place 0 ≢ 0 → get_or memory place 0 < 8192 → WalkedTo t first column (get_or memory place 0) memory
      walked_known some small = walked (rw at (by standing (rw at at some) (rw at at small)))
        where
          by :
              Stands t first column 0 walk.actions p column (remembered t memory p column) →
              remembered t memory p column ≢ 0 → remembered t memory p column < 8192 →
              remembered t memory p column ≡ fate_entry (lamp_walk t first column)
          by (inl (inl none)) some small = absurd (some none)
          by (inl (inr right)) some small = right ∙ same_fate asked walk.actions walk.after
          by (inr way) some small =
              absurd (omega (arith, (walk.links.link way.actions p way.not_earlier way.before way.after).names))

      -- The entry is a link: the walk circles.
      pub walked_circles :
          {r : ℕ} → 8192 ≤ get_or memory place 0 → r ≡ fate_entry (ended (Failure Circles) 0) → WalkedTo t first column r memory
      walked_circles link e = walked (e ∙ by standing (rw at at link))
        where
          by :
              Stands t first column 0 walk.actions p column (remembered t memory p column) →
              8192 ≤ remembered t memory p column → fate_entry (ended (Failure Circles) 0) ≡ fate_entry (lamp_walk t first column)
          by (inl (inl none)) link = absurd (omega arith)
          by (inl (inr right)) link = absurd (omega (arith, fate_below t asked.well_formed p column))
          by (inr way) link =
              told asked
              (circle_fate t asked.well_formed column asked.column_in way.actions walk.actions first p asked.in_range
              way.before way.after walk.after)

      -- The entry is unknown, and a link is left.
      module _ (none : get_or memory place 0 ≡ 0) (n : ℕ) where
        -- One unknown entry fewer is left.
        pub unknown_falls : unknown (set memory place (8192 + n)) < unknown memory
        unknown_falls =
            tally_falls (λ v. eqb v 0) memory place (8192 + n) leaving_place (eq-eqb _ _ none) (ne_eqb (8192 + n) 0 (λ e. omega arith))

        -- The action stays, and the link names the pair that it leads to: the walk goes on there.
        pub leaving_on :
            (step : Acted) {q : Pair} → move_of step ≡ act (tables_of s) p column → step ≡ move.Stays q → n ≡ pair_number j.worlds q →
            LeavingLinks s j first column memory₀ (set memory place (8192 + n)) q
        leaving_on step acts is e =
            let next = leads_on step acts is in
            record {
              opened = walk.opened;
              same_length = length-set memory place (8192 + n) ∙ walk.same_length;
              asked = asked;
              in_range = within asked (walk.actions + 1) next;
              actions = walk.actions + 1;
              after = next;
              links = rw (at, e) (link_left asked walk.links walk.after (rw at at none) next);
            }
