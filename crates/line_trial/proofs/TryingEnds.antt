-- The line that is tried with one kind of end: the pair with which it goes on, and what that pair's fate means for the search.
use mathlib.Core.Path.{◌≡◌, refl, sym, ap, ◌∙◌}
use mathlib.Core.Logic.{◌≢◌}
use mathlib.Core.Bool.{Bool, true, false, ◌&&◌, and-eq-true_iff}
use mathlib.Core.List.{List}
use Prim.Native.Nat.{ℕ, ◌+◌, ◌*◌, ◌≤◌, ◌<◌}
use native.Mathlib.Decide.{dec_lt, ℕ_discrete}
use native.Mathlib.Omega.{arith}
use borrow.Author.Tests.{eqb-true, eq-eqb}
use lib.Dec.{eqb}
use lib.ListN.{length}
use Rattle.lamp_line.specs.declared.FailureKind.{FailureKind}
use Rattle.lamp_line.specs.declared.Ending.TheVariants.{Goal, Failure}
use Rattle.lamp_line.specs.Tables.{Tables, kinds_of_ends}
use Rattle.lamp_line.specs.inner.WellFormed.{WellFormed}
use Rattle.lamp_line.specs.Endings.{kind_number}
use Rattle.lamp_line.specs.declared.Pair.{Pair}
use Rattle.lamp_line.specs.Run.{Walk, ended, arrived, lamp_walk}
use Rattle.lamp_line.proofs.Columns.{up_to_last_end, end_column_in}
use Rattle.run_laws.specs.inner.Pairs.{InRange, pair_number, pairs}
use Rattle.run_laws.proofs.Pairs.{pair_number_in}
use Rattle.run_laws.proofs.Walks.{arrived_in_range}
use Rattle.fate_laws.specs.inner.Fates.{uncounted}
use Rattle.pair_bits.specs.Sum.{bit_at}
use Rattle.job_layout.specs.declared.Job.{Job}
use Rattle.job_layout.specs.JobTables.{tables_by}
use Rattle.lamp_fates.specs.declared.Fate.{Fate}
use Rattle.lamp_fates.specs.declared.Fate.TheVariants.{Succeeds, Fails, Arrives}
use Rattle.lamp_fates.specs.inner.Memory.{walk_to, LookedUp}
use Rattle.search_laws.specs.inner.Entries.{Entry}
use Rattle.check_laws.specs.inner.Fates as fates
use Rattle.check_laws.specs.inner.Fates.{AtEnds, good, bad, fate_of, fate, at_ends}
use Rattle.check_laws.specs.inner.Search.{Trial, fails_at, quiet, met, visited, visit, at_lamp, tried}
use Rattle.check_laws.proofs.FateLaws.{fate_of_pair}
use Rattle.check_laws.proofs.Ends.{EndsSay, ends_say}
use Rattle.std.specs.Prelude.{None, Some, Ok, Err}
use Rattle.working_list.specs.inner.Listing.{table, Listed}
use Rattle.line_trial.specs.inner.Trials.{Ready, Going, going_at_lamp, going_at_end, Goes, TriedBelow, EndsSoFar, TriesEnd}
use Rattle.job_file.proofs.WellFormed.{well_formed_by}

-- ---- the job

-- The tables of a file that is not refused are well formed.
pub ready_tables : {s : List ℕ} {j : Job} {memory : List ℕ} → Ready s j memory → WellFormed (tables_by s j)
ready_tables {s} {j} ready = well_formed_by s j ready.opened

-- ---- fates by the numbers of pairs

-- A walk's fate does not depend on the steps that it counts.
uncounted_fate : (worlds : ℕ) (v : Walk) → fate_of worlds v ≡ fate_of worlds (uncounted v)
uncounted_fate worlds (ended Goal k) = refl
uncounted_fate worlds (ended (Failure failure) k) = refl
uncounted_fate worlds (arrived p k) = refl

-- If a walk without its steps arrives at a pair, so does the walk with them.
arrived_so : (v : Walk) (p : Pair) → arrived p 0 ≡ uncounted v → (k : ℕ) × (arrived p k ≡ v)
arrived_so (ended x k) p e = absurd (let z : ◌≡◌ {A = ℕ} 0 1 = cc in omega arith)
arrived_so (arrived p' k) p e = (k, cc)

module _ {t : Tables} {p : Pair} {column : ℕ} {r : Fate} {memory' : List ℕ} (looked : LookedUp t p column r memory') where
  -- The fate that was looked up is that of the pair's number.
  fate_found : InRange t p → fate t (pair_number t.worlds p) column ≡ fate_of t.worlds (walk_to r)
  fate_found range =
      fate_of_pair t p column range ∙ uncounted_fate t.worlds (lamp_walk t p column)
      ∙ ap (fate_of t.worlds) (sym looked.fate_is)

  -- The pair with which a walk arrives is one of the tables.
  arrives_in_range :
      WellFormed t → {next : Pair} → r ≡ Arrives next → InRange t next
  arrives_in_range wf {next} e =
      let (k, is) = arrived_so (lamp_walk t p column) next (sym (ap walk_to e) ∙ looked.fate_is) in
      arrived_in_range t wf (t.states * t.worlds) p next column k is

-- The fate is no failure; it is no pair with which the line goes on.
abbrev pub NotFailed : Fate → Type 0
NotFailed r = (x : FailureKind) → r ≢ Fails x

abbrev pub NotArrived : Fate → Type 0
NotArrived r = (p : Pair) → r ≢ Arrives p

-- What is not answered as a failure is none.
no_failure :
    (worlds : ℕ) (r : Fate) → NotFailed r →
    (failure : FailureKind) → fate_of worlds (walk_to r) ≢ fates.fails failure
no_failure worlds Succeeds h failure e = let z : ◌≡◌ {A = ℕ} 0 1 = cc in omega arith
no_failure worlds (Fails x) h failure e = h x refl
no_failure worlds (Arrives p) h failure e = let z : ◌≡◌ {A = ℕ} 0 1 = cc in omega arith

-- If it is also no pair with which the line goes on, it is success.
succeeds_then :
    (worlds : ℕ) (r : Fate) → NotFailed r → NotArrived r →
    fate_of worlds (walk_to r) ≡ fates.succeeds
succeeds_then worlds Succeeds h k = refl
succeeds_then worlds (Fails x) h k = absurd (h x refl)
succeeds_then worlds (Arrives p) h k = absurd (k p refl)

-- ---- the loop that tries a line with one end

-- The line goes on with a pair at a column.
pub record Trying
    (s : List ℕ) (j : Job) (memory list words : List ℕ) (n member kind end : ℕ) (p : Pair) (column : ℕ) : Type 0 where
  pub ready : Ready s j memory
  pub listed : Listed (tables_by s j) list words n
  pub is_end : end ≤ j.ends
  pub below : TriedBelow (tables_by s j) (table (tables_by s j) list n) member kind end
  pub goes : Goes (tables_by s j) (table (tables_by s j) list n) member kind end p column

module _
    {s : List ℕ} {j : Job} {memory list words : List ℕ} {n member kind end : ℕ} {p : Pair} {column : ℕ}
    (trying : Trying s j memory list words n member kind end p column) where
  abbrev t : Tables
  t = tables_by s j

  abbrev E : List Entry
  E = table t list n

  abbrev y : ℕ
  y = pair_number t.worlds p

  abbrev trial : Trial
  trial = tried t E member kind

  abbrev GoingOn : Type 0
  GoingOn = Going t E member kind end y column

  y_bound : y < pairs t
  y_bound = pair_number_in t p trying.goes.range

  bit_is : bit_at words y ≡ met E y
  bit_is = trying.listed.bits y y_bound

  -- The pair's bit lies within the words.
  pub bit_in_words : y < length words * 64
  bit_in_words = omega (arith, y_bound, trying.listed.bits_room)

  module _ {x : ℕ} {b : Bool} (is_number : x ≡ y) (is_met : b ≡ (eqb column 0 && bit_at words x)) where
    -- The line is at the lowest end, with a pair that was met: nothing is new.
    pub tries_met : b ≡ true → TriesEnd t E member kind end words (Ok None) memory
    tries_met yes_met = record { so = go trying.goes.going; remembers = trying.ready.remembers }
      where
        both : (eqb column 0 ≡ true) × (bit_at words x ≡ true)
        both = (and-eq-true_iff (eqb column 0) (bit_at words x)).0 (sym is_met ∙ yes_met)

        go : GoingOn → trial ≡ quiet
        go (going_at_lamp after f) = let lowest = eqb-true column 0 both.0 in absurd (omega arith)
        go (going_at_end is f) =
            f ∙ ap (λ (m : Bool). visited y m (at_ends t y)) (sym bit_is ∙ ap (bit_at words) (sym is_number) ∙ both.1)

    module _ (not_met : b ≡ false) {r : Fate} {memory' : List ℕ} (looked : LookedUp t p column r memory') where
      -- At its end, the pair is new: it was found so at the lowest end.
      new_here : column ≡ end → trial ≡ visit t E y → met E y ≡ false
      new_here is f = by (ℕ_discrete column 0)
        where
          known : (m : Bool) → met E y ≡ m → 0 < end → m ≡ false
          known false e later = refl
          known true e later = absurd (trying.below.some_new later (f ∙ ap (λ (m : Bool). visited y m (at_ends t y)) e))

          by : Dec (column ≡ 0) → met E y ≡ false
          by (yes lowest) =
              sym bit_is ∙ ap (bit_at words) (sym is_number)
              ∙ ap (λ (m : Bool). m && bit_at words x) (sym (eq-eqb column 0 lowest)) ∙ sym is_met ∙ not_met
          by (no later) = known (met E y) refl (omega arith)

      visits : column ≡ end → trial ≡ visit t E y → trial ≡ visited y false (at_ends t y)
      visits is f = f ∙ ap (λ (m : Bool). visited y m (at_ends t y)) (new_here is f)

      -- The pair's fate is a failure: the line fails with this end.
      pub tries_failing :
          {failure : FailureKind} → r ≡ Fails failure → TriesEnd t E member kind end words (Err (record { failure = failure; end = end })) memory'
      unfolding kinds_of_ends
      tries_failing {failure} e = record { so = go trying.goes.going; remembers = looked.memory }
        where
          fails : fate t y column ≡ fates.fails failure
          fails = fate_found looked trying.goes.range ∙ ap (λ (f : Fate). fate_of t.worlds (walk_to f)) e

          -- A failure at a lamp is one with the lowest end, which is tried first.
          lowest : Dec (end ≡ 0) → trial ≡ fails_at failure 0 → trial ≡ fails_at failure end
          lowest (yes is) f = rw is f
          lowest (no later) f = absurd (trying.below.none_fails failure 0 (omega arith) f)

          -- The lowest end at which the pair fails is this one.
          this_end : column ≡ end → (ends : AtEnds) → trial ≡ visited y false ends → EndsSay t y ends → trial ≡ fails_at failure end
          this_end is good f say =
              absurd (say column (kind_number failure) (omega (arith, trying.is_end)) (failure, fails, refl))
          this_end is (bad e' failure') f say = by (dec_lt e' end) (dec_lt end e')
            where
              by : Dec (e' < end) → Dec (end < e') → trial ≡ fails_at failure end
              by (yes lower) d = absurd (trying.below.none_fails failure' e' lower f)
              by (no l) (yes higher) =
                  absurd (say.lowest column (kind_number failure) (omega arith) (failure, fails, refl))
              by (no l) (no h) =
                  let same : e' ≡ end = omega arith in
                  let there : fate t y column ≡ fates.fails failure' = ap (fate t y) (is ∙ sym same) ∙ say.fate_is in
                  let both : fates.fails failure' ≡ fates.fails failure = sym there ∙ fails in
                  let same_failure : failure' ≡ failure = cc in
                  rw (← same, ← same_failure) f

          go : GoingOn → trial ≡ fails_at failure end
          go (going_at_lamp after f) = lowest (ℕ_discrete end 0) (f ∙ ap (at_lamp t E) fails)
          go (going_at_end is f) = this_end is (at_ends t y) (visits is f) (ends_say t y)

      -- Its fate is not a failure, and the line is at its end: the pair is new, and does not fail with this end.
      pub tries_ending :
          NotFailed r → column ≡ end → TriesEnd t E member kind end words (Ok (Some p)) memory'
      tries_ending no_fail here = record { so = go trying.goes.going; remembers = looked.memory }
        where
          succeeds : (failure : FailureKind) → fate t y end ≢ fates.fails failure
          succeeds failure e =
              no_failure t.worlds r no_fail failure (sym (fate_found looked trying.goes.range) ∙ ap (fate t y) here ∙ e)

          not_this :
              (ends : AtEnds) → trial ≡ visited y false ends → EndsSay t y ends → (failure : FailureKind) → trial ≢ fails_at failure end
          not_this good f say failure g = let z : ◌≡◌ {A = ℕ} 0 1 = cc in omega arith
          not_this (bad e failure') f say failure g =
              let same : e ≡ end = cc in
              succeeds failure' (ap (fate t y) (sym same) ∙ say.fate_is)

          not_old : (ends : AtEnds) → trial ≡ visited y false ends → trial ≢ quiet
          not_old good f g = let z : ◌≡◌ {A = ℕ} 0 1 = cc in omega arith
          not_old (bad e failure) f g = let z : ◌≡◌ {A = ℕ} 0 1 = cc in omega arith

          up_to_here : trial ≡ visited y false (at_ends t y) → TriedBelow t E member kind (end + 1)
          up_to_here f =
              record {
                none_fails = λ failure e below. by failure e below (ℕ_discrete e end);
                some_new = λ later. not_old (at_ends t y) f;
              }
            where
              by : (failure : FailureKind) (e : ℕ) → e < end + 1 → Dec (e ≡ end) → trial ≢ fails_at failure e
              by failure e below (yes same) = rw same (not_this (at_ends t y) f (ends_say t y) failure)
              by failure e below (no other) = trying.below.none_fails failure e (omega arith)

          go : GoingOn → EndsSoFar t E member kind end words p
          go (going_at_lamp after f) = absurd (omega (arith, trying.is_end))
          go (going_at_end is f) =
              record {
                range = trying.goes.range;
                unmarked = bit_is ∙ new_here is f;
                visits = visits is f;
                tried_below = up_to_here (visits is f);
              }

  module _ {r : Fate} {memory' : List ℕ} (looked : LookedUp t p column r memory') (lamp : column ≢ end) where
    -- The line is at its last lamp, and the plan ends there with the goal true: nothing is new.
    pub tries_succeeding :
        NotFailed r → NotArrived r →
        TriesEnd t E member kind end words (Ok None) memory'
    tries_succeeding h k = record { so = go trying.goes.going; remembers = looked.memory }
      where
        go : GoingOn → trial ≡ quiet
        go (going_at_lamp after f) = f ∙ ap (at_lamp t E) (fate_found looked trying.goes.range ∙ succeeds_then t.worlds r h k)
        go (going_at_end is f) = absurd (lamp is)

    -- The walk there arrives with a pair: the line goes on with that pair, at its end.
    pub tries_on :
        {next : Pair} → r ≡ Arrives next → Trying s j memory' list words n member kind end next end
    tries_on {next} e =
        record {
          ready = record { opened = trying.ready.opened; remembers = looked.memory };
          listed = trying.listed;
          is_end = trying.is_end;
          below = trying.below;
          goes = record {
            range = arrives_in_range looked (ready_tables trying.ready) e;
            column_range = end_column_in t.ends t.kinds end (up_to_last_end t.ends end trying.is_end);
            going = go trying.goes.going;
          };
        }
      where
        go : GoingOn → Going t E member kind end (pair_number t.worlds next) end
        go (going_at_lamp after f) =
            going_at_end refl
            (f ∙ ap (at_lamp t E) (fate_found looked trying.goes.range ∙ ap (λ (g : Fate). fate_of t.worlds (walk_to g)) e))
        go (going_at_end is f) = absurd (lamp is)
