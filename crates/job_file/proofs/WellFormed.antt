-- A file that is not refused is laid out as it must be, and its tables are well formed: the law `sound`, for all crates above.
use mathlib.Core.Path.{◌≡◌, refl, sym, ap, ◌∙◌, subst}
use mathlib.Core.Bool.{Bool, true, false, cond, ◌&&◌, ◌||◌, not, and-eq-true_iff}
use Rattle.std.specs.Prelude.{Some}
use mathlib.Core.List.{List, [], ◌∷◌}
use Prim.Native.Nat.{ℕ, ◌+◌, ◌*◌, ◌≤◌, ◌<◌}
use native.Mathlib.Omega.{arith}
use borrow.Author.Tests.{ltb-true, ltb-false, lt-ltb, leb-false, not-false}
use lib.Arith.{digits_lt}
use lib.Dec.{eqb, leb, ltb}
use lib.ListN.{length}
use Rattle.plans.specs.Plan.{Action, Result}
use Rattle.lamp_line.specs.declared.ProgramState.{ProgramState}
use Rattle.lamp_line.specs.declared.WorldState.{WorldState}
use Rattle.lamp_line.specs.Lists.{◌∈◌}
use Rattle.lamp_line.specs.Tables.{Outcome, outcome, world_state, moves_on, kinds_of_ends}
use Rattle.lamp_line.specs.inner.WellFormed.{WellFormed}
use Rattle.lamp_line.specs.Refusals.{some_below}
use Rattle.lamp_line.proofs.Members.{only_member}
use Rattle.lamp_line.proofs.Scan.{none_at, some_at}
use Rattle.job_layout.specs.declared.Job.{Job}
use Rattle.job_layout.specs.Layout.{job_columns, byte, head, mark_place, next_place, result_place, action_place, target_place}
use Rattle.job_layout.specs.JobTables.{outcomes, tables_by, tables_of}
use Rattle.job_layout.specs.inner.Laid.{Laid}
use Rattle.job_layout.specs.FileRefusals.{differs, not_bit, is_set, cell_wrong_in, cell_wrong_at, legal_at, legal_at_end, moves_on_at_end, action_wrong_at, target_wrong_at, row_wrong}
use Rattle.head_refusals.proofs.HeadLaws.{neither, laid}
use Rattle.job_file.specs.Reading.{Opened}
use Rattle.job_file.proofs.NoneApplies.{NoneApplies, none_applies}

-- ---- truth values

-- What holds of each side of a choice, where that side is taken, holds of the choice.
choice : {A : Type 0} (P : A → Type 0) (b : Bool) {x y : A} → (b ≡ true → P x) → (b ≡ false → P y) → P (cond b x y)
choice P true t f = t refl
choice P false t f = f refl

-- If a conjunction is false and its first side is true, its second side is false.
second : (a b : Bool) → (a && b) ≡ false → a ≡ true → b ≡ false
second true b e t = e
second false b e t = cc

-- If "a and not b" is false, and b is too, then a is false.
unless : (a b : Bool) → (a && not b) ≡ false → b ≡ false → a ≡ false
unless true b e f = sym (ap not f) ∙ e
unless false b e f = refl

-- ---- what a cell, a mark and a row hold in a file that is not refused

-- A cell that is not wrong: its next world state is below W, and its result is below R if it is not 255.
cell_next : (worlds results next result : ℕ) → cell_wrong_in worlds results next result ≡ false → next < worlds
cell_next worlds results next result e = leb-false _ _ (neither _ _ (neither _ _ e).0).0

cell_result : (worlds results next result : ℕ) → cell_wrong_in worlds results next result ≡ false → eqb result 255 ≡ false →
    result < results
cell_result worlds results next result e legal =
    let tests = neither (leb worlds next || leb results result && not (eqb result 255)) _ e in
    leb-false _ _ (unless (leb results result) (eqb result 255) (neither (leb worlds next) _ tests.0).1 legal)

-- A cell has at most one outcome.
at_most_one : (next result : ℕ) → length (outcomes next result) ≤ 1
at_most_one next result =
    choice (λ (l : List Outcome). length l ≤ 1) (eqb result 255) {x = []} {y = outcome (world_state next) result ∷ []}
    (λ e. omega arith) (λ e. omega arith)

-- What an outcome in the cell of a file's tables says of the cell's bytes.
pub record LegalCell (s : List ℕ) (j : Job) (a : Action) (w : WorldState) (c : ℕ) (w' : WorldState) (r : Result) : Type 0 where
  pub action_in : a < j.actions
  pub world_in : w.0 < j.worlds
  pub column_in : c < job_columns j
  pub legal : eqb (byte s (result_place j a w c)) 255 ≡ false
  pub next : w'.0 ≡ byte s (next_place j a w c)
  pub result : r ≡ byte s (result_place j a w c)

module _ (s : List ℕ) (j : Job) where
  legal_cell : (a : Action) (w w' : WorldState) (c : ℕ) (r : Result) → outcome w' r ∈ (tables_by s j).cell a w c →
      LegalCell s j a w c w' r
  unfolding ◌∈◌
  legal_cell a w w' c r =
      choice (λ l. outcome w' r ∈ l → LegalCell s j a w c w' r)
      (ltb a j.actions && ltb w.0 j.worlds && ltb c (job_columns j))
      (λ inside. choice (λ l. outcome w' r ∈ l → LegalCell s j a w c w' r) (eqb (byte s (result_place j a w c)) 255)
      (λ e m. absurd m)
      (λ e m. let is = only_member _ _ m in
      let tests = (and-eq-true_iff _ _).0 inside in
      let two = (and-eq-true_iff _ _).0 tests.0 in
      record {
        action_in = ltb-true _ _ two.0;
        world_in = ltb-true _ _ two.1;
        column_in = ltb-true _ _ tests.1;
        legal = e;
        next = cc;
        result = cc;
      }))
      (λ e m. absurd m)

  module _ (none_applies : NoneApplies s j) (laid : Laid s j) where
    mark_bit : (a : Action) → a < j.actions → byte s (mark_place j a) ≤ 1
    mark_bit a a< = ltb-false _ _ (none_at (not_bit s j.marks.offset) j.actions none_applies.marks a a<)

    cell_right : (a : Action) (w : WorldState) (c : ℕ) → a < j.actions → w.0 < j.worlds → c < job_columns j →
        cell_wrong_in j.worlds j.results (byte s (next_place j a w c)) (byte s (result_place j a w c)) ≡ false
    cell_right a w c a< w< c< =
        let row = digits_lt {q = a} {m = j.actions} {r = w.0} {c = j.worlds} a< w< in
        none_at (cell_wrong_at s j.cells.offset j.worlds j.results) (j.actions * j.worlds * job_columns j)
        none_applies.cells ((a * j.worlds + w.0) * job_columns j + c) (digits_lt row c<)

    -- An action that moves on has 255 for its result at each end.
    end_result : (a : Action) (w e : ℕ) → a < j.actions → w < j.worlds → e < kinds_of_ends j.ends → differs (byte s (mark_place j a)) 0 ≡ true →
        eqb (byte s (result_place j a (world_state w) e)) 255 ≡ true
    end_result a w e a< w< e< moves =
        let here = none_at (moves_on_at_end s j) j.actions none_applies.ends a a< in
        let nowhere = second _ _ here moves in
        let not_here = none_at (legal_at_end s j a) (kinds_of_ends j.ends) nowhere e e< in
        not-false _ (none_at (legal_at s j a e) j.worlds not_here w w<)

    target_right : (q : ProgramState) (r : Result) → q.0 < j.states → r < j.results →
        eqb (byte s (target_place j q r)) 255 ≡ false → byte s (target_place j q r) ≤ j.states
    target_right q r q< r< branched =
        let row = none_at (row_wrong s j) j.states none_applies.targets q.0 q< in
        let here = none_at (target_wrong_at s (action_place j q + 1) j.states) j.results row r r< in
        ltb-false _ _ (unless _ (eqb (byte s (target_place j q r)) 255) here branched)

    -- ---- the fields of WellFormed

    mark_range : (a : Action) → (tables_by s j).mark a ≤ 1
    mark_range a = choice (λ n. n ≤ 1) (ltb a j.actions) (λ e. mark_bit a (ltb-true _ _ e)) (λ e. omega arith)

    single : (a : Action) (w : WorldState) (c : ℕ) → length ((tables_by s j).cell a w c) ≤ 1
    single a w c =
        choice (λ (l : List Outcome). length l ≤ 1)
        (ltb a j.actions && ltb w.0 j.worlds && ltb c (job_columns j))
        (λ e. at_most_one (byte s (next_place j a w c)) (byte s (result_place j a w c)))
        (λ e. omega arith)

    next_range : (a : Action) (w w' : WorldState) (c : ℕ) (r : Result) → outcome w' r ∈ (tables_by s j).cell a w c →
        w'.0 < j.worlds
    next_range a w w' c r m =
        let cell = legal_cell a w w' c r m in
        rw cell.next (cell_next j.worlds j.results _ (byte s (result_place j a w c)) (cell_right a w c cell.action_in cell.world_in cell.column_in))

    result_range : (a : Action) (w w' : WorldState) (c : ℕ) (r : Result) → outcome w' r ∈ (tables_by s j).cell a w c →
        r < j.results
    result_range a w w' c r m =
        let cell = legal_cell a w w' c r m in
        rw cell.result
        (cell_result j.worlds j.results (byte s (next_place j a w c)) _ (cell_right a w c cell.action_in cell.world_in cell.column_in) cell.legal)

    -- An action that moves on has no outcome at an end.
    no_outcome : (a : Action) (w : WorldState) (c : ℕ) → a < j.actions → c < kinds_of_ends j.ends → differs (byte s (mark_place j a)) 0 ≡ true →
        (tables_by s j).cell a w c ≡ []
    no_outcome a w c a< c< moves =
        choice (λ l. l ≡ []) (ltb a j.actions && ltb w.0 j.worlds && ltb c (job_columns j))
        (λ e. let w< = ltb-true _ _ ((and-eq-true_iff (ltb a j.actions) _).0 ((and-eq-true_iff _ _).0 e).0).1 in
        rw (end_result a w.0 c a< w< c< moves))
        (λ e. refl)

    end_stays : (a : Action) (w : WorldState) (c : ℕ) → moves_on (tables_by s j) a ≡ true → c < kinds_of_ends j.ends →
        (tables_by s j).cell a w c ≡ []
    end_stays a w c moves c< =
        choice (λ n. differs n 0 ≡ true → (tables_by s j).cell a w c ≡ []) (ltb a j.actions)
        (λ e m. no_outcome a w c (ltb-true _ _ e) c< m)
        (λ e m. let z : false ≡ true = m in cc)
        moves

    some_start : (w : WorldState) × ((tables_by s j).start w ≡ true)
    some_start =
        let one_set =
        not-false _ (neither (some_below j.worlds (not_bit s j.starts.offset)) _ none_applies.starts).1 in
        let found = some_at (is_set s j.starts.offset) j.worlds one_set in
        (world_state found.0, rw (lt-ltb _ _ found.1) found.2)

    action_range : (q : ProgramState) → q.0 < j.states → (tables_by s j).action q < j.actions
    action_range q q< =
        rw (lt-ltb _ _ q<) (leb-false _ _ (none_at (action_wrong_at s j) j.states none_applies.actions q.0 q<))

    target_range : (q q' : ProgramState) (r : Result) → (tables_by s j).target q r ≡ Some q' →
        (r < j.results) × (q'.0 ≤ j.states)
    target_range q q' r =
        choice (λ o. o ≡ Some q' → (r < j.results) × (q'.0 ≤ j.states)) (ltb q.0 j.states && ltb r j.results)
        (λ inside. let tests = (and-eq-true_iff _ _).0 inside in
        let r< = ltb-true _ _ tests.1 in
        choice (λ o. o ≡ Some q' → (r < j.results) × (q'.0 ≤ j.states)) (eqb (byte s (target_place j q r)) 255)
        (λ e t. absurd (let z : ◌≡◌ {A = ℕ} 0 1 = cc in omega arith))
        (λ e t. let is : byte s (target_place j q r) ≡ q'.0 = cc in
        (r<, rw (sym is) (target_right q r (ltb-true _ _ tests.0) r< e))))
        (λ e t. absurd (let z : ◌≡◌ {A = ℕ} 0 1 = cc in omega arith))

    tables_well_formed : WellFormed (tables_by s j)
    tables_well_formed =
        record {
          formed = record {
            actions_range = laid.actions_range;
            worlds_range = laid.worlds_range;
            kinds_range = laid.kinds_range;
            results_range = laid.results_range;
            states_range = laid.states_range;
            first_range = laid.first_range;
            columns_range = laid.columns_range;
            mark_range = mark_range;
            next_range = next_range;
            result_range = result_range;
            end_stays = end_stays;
            start_range = λ w set. ltb-true _ _ ((and-eq-true_iff _ _).0 set).0;
            some_start = some_start;
            action_range = action_range;
            target_range = target_range;
          };
          single = single;
        }

-- ---- the law

-- What is known of a file s for which the reader answered the job j.
pub record Sound (s : List ℕ) (j : Job) : Type 0 where
  pub is_head : j ≡ head s
  pub laid : Laid s j
  pub well_formed : WellFormed (tables_of s)
  -- each cell's next world state is below W, whether the cell is legal or not
  pub next_below :
      (a : Action) (w : WorldState) (c : ℕ) → a < j.actions → w.0 < j.worlds → c < job_columns j →
      byte s (next_place j a w c) < j.worlds

-- This is known wherever the reader answered j.
pub sound : (s : List ℕ) (j : Job) → Opened s j → Sound s j
sound s j opened =
    let none = none_applies s j opened in
    let placed = laid s j none.numbers none.places none.lengths in
    record {
      is_head = none.is_head;
      laid = placed;
      well_formed = subst (λ (h : Job). WellFormed (tables_by s h)) none.is_head (tables_well_formed s j none placed);
      next_below = λ a w c a< w< c<.
          cell_next j.worlds j.results _ (byte s (result_place j a w c)) (cell_right s j none placed a w c a< w< c<);
    }

-- The tables by the job that the reader answered are those of the file.
pub tables_are : (s : List ℕ) (j : Job) → Opened s j → tables_by s j ≡ tables_of s
tables_are s j opened = ap (tables_by s) (sound s j opened).is_head

-- The tables by that job are well formed too.
pub well_formed_by : (s : List ℕ) (j : Job) → Opened s j → WellFormed (tables_by s j)
well_formed_by s j opened = rw (tables_are s j opened) (sound s j opened).well_formed
