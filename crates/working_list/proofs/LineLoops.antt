-- The loop that goes from a member back to the start and writes the lamps of the line that is tried from that member, from the last to the
-- first.
use mathlib.Core.Path.{◌≡◌, sym, ap, ◌∙◌}
use mathlib.Core.List.{List, ◌++◌}
use Prim.Native.Nat.{ℕ, zero, suc, ◌+◌, ◌-◌, ◌≤◌, ◌<◌}
use native.Mathlib.Decide.{dec_lt}
use native.Mathlib.Numerals.{add-one}
use native.Mathlib.Omega.{arith}
use lib.ListN.{length, get_or, set, drop, length-set}
use lib.Seq.{drop-cons, get_or-set_same, drop-set-lt}
use Rattle.search_laws.specs.inner.Lists.{◌▸◌}
use Rattle.search_laws.specs.inner.Entries.{Entry}
use Rattle.search_laws.proofs.Graph.{snoc_append, snoc_length}
use Rattle.check_laws.specs.inner.Search.{line_start, line_lamps}
use Rattle.check_laws.proofs.TriedLines.{empty_line_lamps, lamp_line_start, lamp_line_lamps}
use Rattle.working_list.specs.declared.Placed.{Placed}
use Rattle.working_list.specs.inner.Placing.{unpacked, entries, MemberOf, Chained}
use Rattle.working_list.proofs.EntryLaws.{start_before, lamps_before}

-- A lamp is written just before those that are written already.
stored :
    (l line : List ℕ) (at x : ℕ) → at < length line → (l ▸ x) ++ drop (at + 1) line ≡ l ++ drop at (set line at x)
stored l line at x h =
    snoc_append l x (drop (at + 1) line)
    ∙ ap (λ (m : List ℕ). l ++ m)
    (sym (drop-cons (set line at x) at 0 (omega (arith, length-set line at x))
    ∙ rw (add-one at, get_or-set_same line at x 0 h, drop-set-lt (suc at) line at x (omega arith))))

-- ---- one lamp back

-- A member of a list is one of a longer list.
member_of_more : {n n' member kind : ℕ} → n ≤ n' → MemberOf n member kind → MemberOf n' member kind
member_of_more more m = record { a_start = m.a_start; a_place = λ lamp. let h = m.a_place lamp in omega arith }

-- A line with a last lamp, tried from a member of a list in which each pair was found from a start or from a pair before it.
record LampLine (list : List ℕ) (member kind : ℕ) : Type 0 where
  chained : Chained list
  lamp : 1 ≤ kind
  within : member < length list

-- It is the line by which the member's pair was found, and this lamp.
module _ {list : List ℕ} {member kind : ℕ} (tried : LampLine list member kind) where
  abbrev before : Placed
  before = unpacked (get_or list member 0)

  found_from : MemberOf member before.member before.kind
  found_from = tried.chained member tried.within

  module _ (worlds : ℕ) where
    abbrev E : List Entry
    E = entries worlds list

    start_back : line_start E member kind ≡ line_start E before.member before.kind
    start_back = lamp_line_start E member kind tried.lamp ∙ start_before worlds list member tried.within found_from

    lamps_back : line_lamps E member kind ≡ line_lamps E before.member before.kind ▸ kind
    lamps_back =
        lamp_line_lamps E member kind tried.lamp
        ∙ ap (λ (l : List ℕ). l ▸ kind) (lamps_before worlds list member tried.within found_from)

    longer : length (line_lamps E member kind) ≡ length (line_lamps E before.member before.kind) + 1
    longer = ap length lamps_back ∙ snoc_length (line_lamps E before.member before.kind) kind

-- Entries with the pairs numbered by one number of world states, and by another.
module _ (worlds worlds' : ℕ) (list : List ℕ) (chained : Chained list) where
  abbrev Same : ℕ → ℕ → Type 0
  Same member kind = line_lamps (entries worlds list) member kind ≡ line_lamps (entries worlds' list) member kind

  empty_same : (member kind : ℕ) → kind ≡ 0 → Same member kind
  empty_same member kind none =
      empty_line_lamps (entries worlds list) member kind none ∙ sym (empty_line_lamps (entries worlds' list) member kind none)

  same_below : (n : ℕ) → n ≤ length list → (member kind : ℕ) → MemberOf n member kind → Same member kind
  same_below zero few member kind m = empty_same member kind (no_place (dec_lt 0 kind))
    where
      no_place : Dec (0 < kind) → kind ≡ 0
      no_place (yes lamp) = let h = m.a_place lamp in omega arith
      no_place (no none) = omega arith
  same_below (suc n) few member kind m = go (same_below n (omega arith)) (dec_lt 0 kind)
    where
      go : ((member kind : ℕ) → MemberOf n member kind → Same member kind) → Dec (0 < kind) → Same member kind
      go sooner (no none) = empty_same member kind (omega arith)
      go sooner (yes lamp) =
          let here = m.a_place lamp in
          let line : LampLine list member kind = record { chained = chained; lamp = lamp; within = omega arith } in
          let p = before line in
          lamps_back line worlds
          ∙ ap (λ (l : List ℕ). l ▸ kind) (sooner p.member p.kind (member_of_more (omega arith) (found_from line)))
          ∙ sym (lamps_back line worlds')

  -- The lamps of a line do not depend on that number.
  pub same_lamps :
      {member kind : ℕ} → MemberOf (length list) member kind →
      line_lamps (entries worlds list) member kind ≡ line_lamps (entries worlds' list) member kind
  same_lamps {member} {kind} m = same_below (length list) (omega arith) member kind m

-- ---- writing

-- The line that is tried from the member with this kind is written from its end down to the place `at` of the buffer; what is left of it
-- is the line that is tried from the member `from` with the kind `lamp`.
pub record Writing (list line₀ : List ℕ) (member kind lamps : ℕ) (line : List ℕ) (from lamp at : ℕ) : Type 0 where
  pub chained : Chained list
  pub short : length list ≤ 4160
  pub member_of : MemberOf (length list) from lamp
  pub left : (worlds : ℕ) → at ≡ length (line_lamps (entries worlds list) from lamp)
  pub room : at ≤ length line
  pub same_length : length line ≡ length line₀
  pub same_start : (worlds : ℕ) → line_start (entries worlds list) from lamp ≡ line_start (entries worlds list) member kind
  -- What is still to be written, followed by the rest of the buffer, is the final content.
  pub owed :
      (worlds : ℕ) →
      line_lamps (entries worlds list) member kind ++ drop lamps line₀ ≡ line_lamps (entries worlds list) from lamp ++ drop at line

module _
    {list line₀ line : List ℕ} {member kind lamps from lamp at : ℕ} (writing : Writing list line₀ member kind lamps line from lamp at) where
  -- A lamp is still to be written.
  module _ (some : 0 < at) where
    some_lamp : 0 < lamp
    some_lamp = by (dec_lt 0 lamp)
      where
        by : Dec (0 < lamp) → 0 < lamp
        by (yes is) = is
        by (no none) = omega (arith, some, writing.left 0, ap length (empty_line_lamps (entries 0 list) from lamp (omega (arith, none))))

    -- The list has a word for the member.
    pub from_within : from < length list
    from_within = writing.member_of.a_place some_lamp

    here : LampLine list from lamp
    here = record { chained = writing.chained; lamp = some_lamp; within = from_within }

    -- It is written, and the line by which the member's pair was found is left.
    pub writes_on :
        {p : Placed} → p ≡ unpacked (get_or list from 0) →
        Writing list line₀ member kind lamps (set line (at - 1) lamp) p.member p.kind (at - 1)
    writes_on is =
        let q = before here in
        let back : at - 1 + 1 ≡ at = omega (arith, some) in
        rw is
        (record {
          chained = writing.chained;
          short = writing.short;
          member_of = member_of_more (omega (arith, from_within)) (found_from here);
          left = λ worlds. omega (arith, writing.left worlds, longer here worlds);
          room = omega (arith, writing.room, length-set line (at - 1) lamp);
          same_length = length-set line (at - 1) lamp ∙ writing.same_length;
          same_start = λ worlds. sym (start_back here worlds) ∙ writing.same_start worlds;
          owed = λ worlds.
              writing.owed worlds
              ∙ ap (λ (m : List ℕ). m ++ drop at line) (lamps_back here worlds)
              ∙ ap (λ (i : ℕ). (line_lamps (entries worlds list) q.member q.kind ▸ lamp) ++ drop i line) (sym back)
              ∙ stored (line_lamps (entries worlds list) q.member q.kind) line (at - 1) lamp
              (omega (arith, writing.room, some));
        })

  -- No lamp is still to be written.
  pub all_written : at ≤ 0 → lamp ≡ 0
  all_written none = by (dec_lt 0 lamp)
    where
      by : Dec (0 < lamp) → lamp ≡ 0
      by (yes some) =
          let last : LampLine list from lamp =
          record { chained = writing.chained; lamp = some; within = writing.member_of.a_place some } in
          absurd (omega (arith, none, writing.left 0, longer last 0))
      by (no is) = omega (arith, is)
