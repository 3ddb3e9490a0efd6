-- A new pair is put in the list: list and bits have room for it, its word holds it, and the search goes on with the list that has it.
use mathlib.Core.Path.{◌≡◌, refl, sym, ap, ◌∙◌}
use mathlib.Core.Bool.{Bool, true, false}
use mathlib.Core.List.{List}
use Prim.Native.Nat.{ℕ, zero, suc, ◌+◌, ◌*◌, ◌<◌}
use native.Mathlib.Decide.{ℕ_discrete}
use native.Mathlib.Omega.{arith}
use lib.Dec.{eqb}
use lib.ListN.{length, get_or, set, length-set}
use lib.Seq.{get_or-set_same, get_or-set_other}
use Rattle.lamp_line.specs.declared.Pair.{Pair}
use Rattle.lamp_line.specs.Tables.{Tables, kinds_of_ends, columns}
use Rattle.lamp_line.specs.inner.WellFormed.{WellFormed}
use Rattle.run_laws.specs.inner.Pairs.{InRange, pair_number, pairs}
use Rattle.run_laws.proofs.Pairs.{pairs_few, pair_number_in}
use Rattle.job_layout.specs.declared.Job.{Job}
use Rattle.job_layout.specs.JobTables.{tables_by}
use Rattle.pair_bits.specs.Sum.{bit_at}
use Rattle.pair_bits.specs.inner.Bits.{OnlySet}
use Rattle.pair_bits.proofs.Sums.{sum_set}
use Rattle.search_laws.specs.inner.Entries.{entry, grown}
use Rattle.check_laws.specs.inner.Search.{met, line_start, line_lamps, line_entry}
use Rattle.check_laws.proofs.MetPairs.{met_new, met_other}
use Rattle.working_list.specs.declared.Placed.{Placed}
use Rattle.std.specs.Prelude.{Option, Some, Ok}
use Rattle.working_list.specs.inner.Placing.{packed, unpacked, Packable, MemberOf}
use Rattle.working_list.specs.inner.Listing.{table, Listed}
use Rattle.line_trial.specs.inner.Trials.{Tried, HasMember, EndsNew, TriesLine}
use Rattle.line_trial.specs.inner.Turning.{adds, grows, was_new, Turned}
use Rattle.working_list.proofs.EntryLaws.{unpacked_packed, entries_stored}
use Rattle.working_list.proofs.ListLaws.{table_length, room_left}
use Rattle.job_file.specs.Reading.{Opened}
use Rattle.job_file.proofs.WellFormed.{well_formed_by}
use Rattle.line_trial.proofs.LineTried.{tries_new}

-- The line that is tried from a member reaches its end with a new pair.
pub record NewPair (t : Tables) (list words : List ℕ) (n member kind : ℕ) (p : Pair) : Type 0 where
  pub well_formed : WellFormed t
  pub listed : Listed t list words n
  pub here : HasMember t n member kind
  pub comes : EndsNew t (table t list n) member kind words p

-- `try_line` has answered so.
pub new_pair :
    (s : List ℕ) {j : Job} {list words : List ℕ} {n member kind : ℕ} {p : Pair} {r : Tried} {o : Option Pair} {memory' : List ℕ} →
    Opened s j → Listed (tables_by s j) list words n → HasMember (tables_by s j) n member kind →
    TriesLine (tables_by s j) (table (tables_by s j) list n) member kind words r memory' → r ≡ Ok o → o ≡ Some p →
    NewPair (tables_by s j) list words n member kind p
new_pair s {j} opened listed here tries was is =
    record { well_formed = well_formed_by s j opened; listed = listed; here = here; comes = tries_new tries (was ∙ ap Ok is) }

module _
    {t : Tables} {list words : List ℕ} {n member kind : ℕ} {p : Pair} (new : NewPair t list words n member kind p) where
  abbrev y : ℕ
  y = pair_number t.worlds p

  y_bound : y < pairs t
  y_bound = pair_number_in t p new.comes.range

  some_left : n < pairs t
  some_left = room_left new.listed y y_bound new.comes.unmarked

  -- The list holds fewer than 65 times 64 pairs.
  pub few_pairs : n < 4160
  few_pairs = omega (arith, some_left, pairs_few new.well_formed)

  -- The list has room for the pair.
  pub list_has_room : n < length list
  list_has_room = omega (arith, some_left, new.listed.list_room)

  -- The pair's bit lies within the words.
  pub bit_has_room : y < length words * 64
  bit_has_room = omega (arith, y_bound, new.listed.bits_room)

  -- The member is one for a list that holds the pairs so far.
  member_of : MemberOf n member kind
  member_of =
      record {
        a_start = λ none. omega (arith, new.here.a_start none, new.well_formed.formed.worlds_range.1);
        a_place = new.here.a_place;
      }

  member_small : member < 8192
  member_small = go kind refl
    where
      go : (k : ℕ) → kind ≡ k → member < 8192
      go zero e = omega (arith, member_of.a_start e)
      go (suc k) e = omega (arith, member_of.a_place (omega arith), few_pairs)

  -- What is put in the list: the list held `before` pairs before the line was tried.
  module _ (before : ℕ) where
    abbrev placed : Placed
    placed = record { pair = p; member = member; kind = kind; opens = eqb n before }

    -- The pair, its member and its kind fit in a word.
    pub packable : Packable placed
    unfolding columns kinds_of_ends
    packable =
        record {
          state_fits = omega (arith, new.comes.range.state_range, new.well_formed.formed.states_range);
          world_fits = omega (arith, new.comes.range.world_range, new.well_formed.formed.worlds_range.1);
          member_fits = member_small;
          kind_fits = omega (arith, new.here.kind_range, new.well_formed.formed.columns_range);
        }

    abbrev list' : List ℕ
    list' = set list n (packed placed)

    -- There is one entry more.
    table_grown : table t list' (n + 1) ≡ grown (table t list n) (line_entry before (table t list n) member kind y)
    table_grown =
        let E = table t list n in
        entries_stored t.worlds list n placed list_has_room packable
        ∙ ap (λ (m : ℕ). grown E (entry y (line_start E member kind) (line_lamps E member kind) (eqb m before)))
        (sym (table_length new.listed))

    at_new : unpacked (get_or list' n 0) ≡ placed
    at_new = ap unpacked (get_or-set_same list n (packed placed) 0 list_has_room) ∙ unpacked_packed placed packable

    -- What holds of the words before and of the new one holds of all.
    all_words :
        (P : ℕ → Placed → Type 0) → ((i : ℕ) → i < n → P i (unpacked (get_or list i 0))) → P n placed →
        (i : ℕ) → i < n + 1 → P i (unpacked (get_or list' i 0))
    all_words P old last i l = go (ℕ_discrete i n)
      where
        go : Dec (i ≡ n) → P i (unpacked (get_or list' i 0))
        go (yes e) = rw (e, at_new) last
        go (no d) = rw (get_or-set_other list n i (packed placed) 0 d) (old i (omega arith))

    module _ {words' : List ℕ} (only : OnlySet words words' y) where
      bits_match : (x : ℕ) → x < pairs t → bit_at words' x ≡ met (table t list' (n + 1)) x
      bits_match x l = rw table_grown (go (ℕ_discrete x y))
        where
          go : Dec (x ≡ y) → bit_at words' x ≡ met (grown (table t list n) (line_entry before (table t list n) member kind y)) x
          go (yes e) = ap (bit_at words') e ∙ only.now_set ∙ sym (met_new (table t list n) _ x e)
          go (no d) = only.others x d ∙ new.listed.bits x l ∙ sym (met_other (table t list n) _ x d)

      listed_placed : Listed t list' words' (n + 1)
      listed_placed =
          record {
            bits = bits_match;
            counted = sum_set new.listed.counted y_bound new.comes.unmarked only;
            ranges = all_words (λ i r. InRange t r.pair) new.listed.ranges new.comes.range;
            chained = all_words (λ i r. MemberOf i r.member r.kind) new.listed.chained member_of;
            list_room = omega (arith, new.listed.list_room, length-set list n (packed placed));
            bits_room = omega (arith, new.listed.bits_room, only.long);
          }

  -- While no member has failed, the search goes on with the list that has the pair's word after the others, and with the words in which
  -- its bit is set.
  pub pair_placed :
      (before : ℕ) {clean : Bool} {words' : List ℕ} {word bit : ℕ} → clean ≡ true → word ≡ packed (placed before) → bit ≡ y →
      OnlySet words words' bit → Turned t list n before member kind clean (Ok (n + 1)) (set list n word) words'
  pair_placed before {clean} {words'} none is_Is_word is_bit only_bit =
      let only : OnlySet words words' y = rw is_bit at only_bit in
      rw is_Is_word
      (record { so = (grows none (adds new.comes.found (table_grown before)), listed_placed before only, omega arith) })

  -- After a failure the list stays as it is.
  pub pair_passed : (before : ℕ) {clean : Bool} → clean ≡ false → Turned t list n before member kind clean (Ok n) list words
  pair_passed before some = record { so = (was_new some new.comes.found refl refl, new.listed, omega arith) }
