-- The search in layers (02, (b)): the groups of a layer have lines of the same length, and those of a later layer longer ones. So where
-- the lines of up to m lamps were tried and none has failed, the verdict names no line of up to m lamps.
use mathlib.Core.Path.{◌≡◌, refl, sym, ap, subst}
use mathlib.Core.Logic.{◌⊎◌, inl, inr}
use mathlib.Core.Bool.{Bool, true, false, cond}
use mathlib.Core.List.{List, []}
use Prim.Native.Nat.{ℕ, zero, suc, ◌+◌, ◌-◌, ◌≤◌, ◌<◌}
use native.Mathlib.Decide.{ℕ_discrete}
use native.Mathlib.Omega.{arith}
use borrow.Author.Tests.{ltb-true, eq-eqb}
use lib.Dec.{ltb}
use lib.ListN.{length}
use Rattle.lamp_line.specs.declared.FailureKind.{FailureKind}
use Rattle.lamp_line.specs.Tables.{Tables}
use Rattle.lamp_line.specs.Check.{Verdict, accepted, failed}
use Rattle.search_laws.specs.inner.Entries.{Entry, path, opens, grown, end_from, group_end}
use Rattle.search_laws.proofs.Graph.{snoc_length}
use Rattle.search_laws.proofs.Grown.{below_or_last, grown_length, grown_all, still_at}
use Rattle.check_laws.specs.inner.Search.{Turn, answers, goes_on, and_then, conclusion, Beyond, line_lamps, line_entry, failing}
use Rattle.check_laws.specs.inner.Search.{Trial, fails_at, quiet, finds, tried, lowest_from, members_from, line_tried, kinds_from, groups_from}
use Rattle.check_laws.proofs.SearchParts.{Owes, and_then_lem}
use Rattle.check_laws.proofs.TriedLines.{empty_line_lamps, lamp_line_lamps}

-- ---- what holds along a line

-- A property P of the table is kept where a member of the line finds a pair, and gives Q where one fails. Then what comes of trying the
-- line has the one or the other.
module _
    (t : Tables) (before a b k : ℕ) (P : List Entry → Type 0) (Q : Verdict → Type 0)
    (grows : (E : List Entry) (i y : ℕ) → a ≤ i → i < b → P E → P (grown E (line_entry before E i k y)))
    (stops : (E : List Entry) (kind : FailureKind) (w end : ℕ) → a ≤ w → w < b → P E → Q (failing E k kind w end)) where
  lowest_all :
      (n : ℕ) (E : List Entry) (i : ℕ) (kind : FailureKind) (w end : ℕ) → a ≤ i → i + n ≤ b → a ≤ w → w < b → P E →
      Q (lowest_from t n E i k kind w end)
  unfolding lowest_from
  lowest_all zero E i kind w end from to w_from w_to holds = stops E kind w end w_from w_to holds
  lowest_all (suc n) E i kind w end from to w_from w_to holds =
      go (λ kind w end w_from w_to. lowest_all n E (i + 1) kind w end (omega arith) (omega arith) w_from w_to holds) (tried t E i k)
    where
      After : Type 0
      After = (kind : FailureKind) (w end : ℕ) → a ≤ w → w < b → Q (lowest_from t n E (i + 1) k kind w end)

      either :
          After → (kind' : FailureKind) (end' : ℕ) (lower : Bool) →
          Q (cond lower (lowest_from t n E (i + 1) k kind' i end') (lowest_from t n E (i + 1) k kind w end))
      either after kind' end' true = after kind' i end' from (omega arith)
      either after kind' end' false = after kind w end w_from w_to

      go :
          After → (r : Trial) →
          Q (elim r as (λ _. Verdict) [
            | fails_at kind' end' ↦
                cond (ltb end' end) (lowest_from t n E (i + 1) k kind' i end') (lowest_from t n E (i + 1) k kind w end)
            | quiet ↦ lowest_from t n E (i + 1) k kind w end
            | finds y ↦ lowest_from t n E (i + 1) k kind w end
          ])
      go after (fails_at kind' end') = either after kind' end' (ltb end' end)
      go after quiet = after kind w end w_from w_to
      go after (finds y) = after kind w end w_from w_to

  members_all : (n : ℕ) (E : List Entry) (i : ℕ) → a ≤ i → i + n ≤ b → P E → Owes Q P (members_from t n before E i k)
  unfolding members_from
  members_all zero E i from to holds = holds
  members_all (suc n) E i from to holds =
      go (λ E' holds'. members_all n E' (i + 1) (omega arith) (omega arith) holds') (tried t E i k)
    where
      go :
          ((E' : List Entry) → P E' → Owes Q P (members_from t n before E' (i + 1) k)) → (r : Trial) →
          Owes Q P (elim r as (λ _. Turn) [
            | fails_at kind end ↦ answers (lowest_from t n E (i + 1) k kind i end)
            | quiet ↦ members_from t n before E (i + 1) k
            | finds y ↦ members_from t n before (grown E (line_entry before E i k y)) (i + 1) k
          ])
      go after (fails_at kind end) = lowest_all n E (i + 1) kind i end (omega arith) (omega arith) from (omega arith) holds
      go after quiet = after E holds
      go after (finds y) = after (grown E (line_entry before E i k y)) (grows E i y from (omega arith) holds)

-- ---- the groups that are left

-- A group ends within the table.
end_within : (n : ℕ) (E : List Entry) (i : ℕ) → (i ≤ end_from n E i) × (end_from n E i ≤ i + n)
unfolding end_from
end_within zero E i = (omega arith, omega arith)
end_within (suc n) E i = go (end_within n E (i + 1)) (opens E i)
  where
    go :
        (i + 1 ≤ end_from n E (i + 1)) × (end_from n E (i + 1) ≤ i + 1 + n) → (o : Bool) →
        (i ≤ cond o i (end_from n E (i + 1))) × (cond o i (end_from n E (i + 1)) ≤ i + suc n)
    go (low, high) true = (omega arith, omega arith)
    go (low, high) false = (omega arith, omega arith)

-- It ends no later than an entry that opens another one.
end_no_later :
    (E : List Entry) (last : ℕ) → (last < length E → opens E last ≡ true) →
    (n i : ℕ) → i + n ≡ length E → i ≤ last → end_from n E i ≤ last
unfolding end_from
end_no_later E last opened zero i e le = le
end_no_later E last opened (suc n) i e le = go (end_no_later E last opened n (i + 1) (omega arith)) (ℕ_discrete i last)
  where
    by : (o : Bool) → (i + 1 ≤ last → end_from n E (i + 1) ≤ last) → i + 1 ≤ last → cond o i (end_from n E (i + 1)) ≤ last
    by true after l = le
    by false after l = after l

    go : (i + 1 ≤ last → end_from n E (i + 1) ≤ last) → Dec (i ≡ last) → cond (opens E i) i (end_from n E (i + 1)) ≤ last
    go after (yes is) = rw (is, opened (omega arith)) (omega arith)
    go after (no other) = by (opens E i) after (omega arith)

-- It comes after its first entry.
pub group_within : (E : List Entry) (a : ℕ) → a < length E → (a < group_end E a) × (group_end E a ≤ length E)
group_within E a l = let (low, high) = end_within (length E - (a + 1)) E (a + 1) in (omega arith, omega arith)

module _ (t : Tables) (m : ℕ) where
  -- The table has at least b entries, and those from a on have at least m lamps.
  abbrev Long : ℕ → ℕ → List Entry → Type 0
  Long a b E = (b ≤ length E) × ((i : ℕ) → a ≤ i → i < length E → m ≤ length (path E i))

  -- A group of these entries is tried with one more lamp: the lines have more than m lamps, and so have the entries that are found.
  line_long :
      (E : List Entry) (a b k : ℕ) → a ≤ b → 1 ≤ k → Long a b E → Owes (Beyond m) (Long a b) (line_tried t E a b k)
  line_long E a b k in_order lamp long =
      members_all t (length E) a b k (Long a b) (Beyond m) grows stops (b - a) E a (omega arith) (omega arith) long
    where
      longer : (E : List Entry) (i : ℕ) → a ≤ i → i < b → Long a b E → m < length (line_lamps E i k)
      longer E i from to (within, long) =
          omega (arith, long i from (omega arith), ap length (lamp_line_lamps E i k lamp), snoc_length (path E i) k)

      grows : (E' : List Entry) (i y : ℕ) → a ≤ i → i < b → Long a b E' → Long a b (grown E' (line_entry (length E) E' i k y))
      grows E' i y from to (within, long) =
          let z = line_entry (length E) E' i k y in
          let more = longer E' i from to (within, long) in (
            omega (arith, grown_length E' z),
            λ j x l. grown_all E' z (λ j v. a ≤ j → m ≤ length v.path) (λ j l x. long j x l) (λ x. omega arith) j l x,
          )

      stops : (E : List Entry) (kind : FailureKind) (w end : ℕ) → a ≤ w → w < b → Long a b E → Beyond m (failing E k kind w end)
      stops E kind w end from to long = longer E w from to long

  kinds_long :
      (n : ℕ) (E : List Entry) (a b k : ℕ) → a ≤ b → 1 ≤ k → Long a b E → Owes (Beyond m) (Long a b) (kinds_from t n E a b k)
  unfolding kinds_from
  kinds_long zero E a b k in_order lamp long = long
  kinds_long (suc n) E a b k in_order lamp long =
      and_then_lem (Beyond m) (Long a b) (Long a b) (line_tried t E a b k) (λ E'. kinds_from t n E' a b (k + 1))
      (line_long E a b k in_order lamp long) (λ E' long'. kinds_long n E' a b (k + 1) in_order (omega arith) long')

  groups_long : (n : ℕ) (E : List Entry) (a : ℕ) → Long a 0 E → Owes (Beyond m) (λ E'. Unit {0}) (groups_from t n E a)
  unfolding groups_from
  groups_long zero E a long = tt
  groups_long (suc n) E a (within, long) = go (λ E' b long'. groups_long n E' b long') (ltb a (length E)) refl
    where
      go :
          ((E' : List Entry) (b : ℕ) → Long b 0 E' → Owes (Beyond m) (λ E''. Unit {0}) (groups_from t n E' b)) →
          (some : Bool) → ltb a (length E) ≡ some →
          Owes (Beyond m) (λ E'. Unit {0}) (elim some as (λ _. Turn) [
            | false ↦ goes_on E
            | true ↦ and_then (kinds_from t t.kinds E a (group_end E a) 1) (λ E'. groups_from t n E' (group_end E a))
          ])
      go after false e = tt
      go after true e =
          let (low, high) = group_within E a (ltb-true a (length E) e) in
          and_then_lem (Beyond m) (Long a (group_end E a)) (λ E'. Unit {0}) (kinds_from t t.kinds E a (group_end E a) 1)
          (λ E'. groups_from t n E' (group_end E a))
          (kinds_long t.kinds E a (group_end E a) 1 (omega arith) (omega arith) (high, long))
          (λ E' (within', long'). after E' (group_end E a) (omega arith, λ i x l. long' i (omega arith) l))

  -- If the entries from a on have at least m lamps, their groups name no line of up to m lamps.
  rest_beyond :
      (n : ℕ) (E : List Entry) (a : ℕ) → ((i : ℕ) → a ≤ i → i < length E → m ≤ length (path E i)) →
      Beyond m (conclusion (groups_from t n E a))
  rest_beyond n E a long = go (groups_from t n E a) (groups_long n E a (omega arith, long))
    where
      go : (r : Turn) → Owes (Beyond m) (λ E'. Unit {0}) r → Beyond m (conclusion r)
      go (answers v) beyond = beyond
      go (goes_on E') none = tt

-- ---- the layer of a group

-- The entries from h to `last` are left to be tried in this layer. Their lines with one more lamp have this number of lamps, and so have
-- the entries from `last` on, which were found by such lines; the first of them opens a group.
pub record Layer (E : List Entry) (h last lamps : ℕ) : Type 0 where
  pub to_try : (i : ℕ) → h ≤ i → i < last → length (path E i) + 1 ≡ lamps
  pub found : (i : ℕ) → last ≤ i → i < length E → length (path E i) ≡ lamps
  pub opened : last < length E → opens E last ≡ true
  pub within : h ≤ last
  pub in_table : last ≤ length E

-- The empty line comes first: it has no lamps, and there is no entry before it.
pub first_layer : Layer [] 0 0 0
first_layer =
    record {
      to_try = λ i from l. absurd (omega arith);
      found = λ i from l. absurd (omega arith);
      opened = λ l. absurd (omega arith);
      within = omega arith;
      in_table = omega arith;
    }

-- A line that is tried in the layer has this member: it is the empty line, or the member is left to be tried.
pub record InLayer (h last lamps k i : ℕ) : Type 0 where
  pub empty : k ≡ 0 → lamps ≡ 0
  pub left : 1 ≤ k → (h ≤ i) × (i < last)

-- It has this number of lamps.
pub lamps_here :
    {E : List Entry} {h last lamps : ℕ} → Layer E h last lamps → {k i : ℕ} → InLayer h last lamps k i → length (line_lamps E i k) ≡ lamps
lamps_here {E} {h} {last} {lamps} layer {k} {i} here = go (below_or_last 0 k (omega arith))
  where
    go : (0 < k) ⊎ (0 ≡ k) → length (line_lamps E i k) ≡ lamps
    go (inr none) = omega (arith, ap length (empty_line_lamps E i k (sym none)), here.empty (sym none))
    go (inl lamp) =
        let (from, to) = here.left lamp in
        omega (arith, ap length (lamp_line_lamps E i k lamp), snoc_length (path E i) k, layer.to_try i from to)

-- The verdict names a line of this number of lamps, if it names one.
abbrev HasLamps : ℕ → Verdict → Type 0
HasLamps lamps (accepted count) = Unit {0}
HasLamps lamps (failed kind start line) = length line.lamps ≡ lamps

-- A line of the layer is tried from the members from a to b.
module _
    (t : Tables) {E : List Entry} {h last lamps a b k : ℕ} (layer : Layer E h last lamps) (in_order : a ≤ b)
    (here : (i : ℕ) → a ≤ i → i < b → InLayer h last lamps k i) where
  abbrev Holds : List Entry → Type 0
  Holds F = Layer F h last lamps × (length E ≤ length F)

  line_owes : Owes (HasLamps lamps) Holds (line_tried t E a b k)
  line_owes =
      members_all t (length E) a b k Holds (HasLamps lamps) grows (λ F kind w end from to (layered, more). lamps_here layered (here w from to))
      (b - a) E a (omega arith) (omega arith) (layer, omega arith)
    where
      grows : (F : List Entry) (i y : ℕ) → a ≤ i → i < b → Holds F → Holds (grown F (line_entry (length E) F i k y))
      grows F i y from to (layered, more) = (
        record {
          to_try = λ j x l.
              still_at F z j (omega (arith, layered.in_table)) (λ v. length v.path + 1 ≡ lamps) (layered.to_try j x l);
          found = λ j x l.
              grown_all F z (λ j v. last ≤ j → length v.path ≡ lamps) (λ j l x. layered.found j x l)
              (λ x. lamps_here layered (here i from to)) j l x;
          opened = λ l.
              grown_all F z (λ j v. j ≡ last → v.opens ≡ true)
              (λ j l x. rw x (layered.opened (omega arith)))
              (λ x. eq-eqb (length F) (length E) (omega (arith, layer.in_table))) last l refl;
          within = layered.within;
          in_table = omega (arith, layered.in_table, grown_length F z);
        },
        omega (arith, grown_length F z),
      )
        where
          z : Entry
          z = line_entry (length E) F i k y

  -- It does not fail: the layer stays.
  pub line_in_layer : {E' : List Entry} → line_tried t E a b k ≡ goes_on E' → Layer E' h last lamps
  line_in_layer e = (subst (Owes (HasLamps lamps) Holds) e line_owes).0

  -- It fails: it has the layer's number of lamps.
  pub line_length :
      (E' : List Entry) (w : ℕ) {kind : FailureKind} {end : ℕ} → line_tried t E a b k ≡ answers (failing E' k kind w end) →
      length (line_lamps E' w k) ≡ lamps
  line_length E' w e = subst (Owes (HasLamps lamps) Holds) e line_owes

module _ {E : List Entry} {h last lamps : ℕ} (layer : Layer E h last lamps) where
  -- A group of the layer ends within it.
  pub group_in_layer : h < last → group_end E h ≤ last
  group_in_layer l =
      end_no_later E last layer.opened (length E - (h + 1)) (h + 1) (omega (arith, layer.in_table)) (omega arith)

  -- The entries up to b were tried.
  pub next_in_layer : (b : ℕ) → h ≤ b → b ≤ last → Layer E b last lamps
  next_in_layer b low high =
      record {
        to_try = λ i from l. layer.to_try i (omega arith) l;
        found = layer.found;
        opened = layer.opened;
        within = high;
        in_table = layer.in_table;
      }

  -- All of them were tried.
  module _ (end : h ≡ last) where
    -- The entries that were found are the next layer, whose lines have one lamp more.
    pub next_layer : Layer E h (length E) (lamps + 1)
    next_layer =
        record {
          to_try = λ i from l. omega (arith, layer.found i (omega arith) l);
          found = λ i from l. absurd (omega arith);
          opened = λ l. absurd (omega arith);
          within = omega (arith, layer.in_table);
          in_table = omega arith;
        }

    -- Their groups name no line of so many lamps.
    pub layer_beyond : (t : Tables) (n : ℕ) → Beyond lamps (conclusion (groups_from t n E h))
    layer_beyond t n = rest_beyond t lamps n E h (λ i from l. omega (arith, layer.found i (omega arith) l))
