-- The answer of the check as a function of the tables (01, "The check", and 02, (f)), for the loops of the crate plan_search. It is a
-- search with a table of the pairs found so far, each with the start and the lamps by which it was found. One line after the other is
-- tried, from all its members: the empty line from the starts; then, for each group of entries with the same lamps and for each kind of
-- lamp, their line with this lamp from the entries of the group. Kind 0 stands for the empty line. The first line that fails is the
-- answer, with the lowest end at which it does, and the first member that fails there.
use Rattle.std.specs.Prelude.{Bool, true, false, cond, ◌||◌, List, [], ◌∷◌, ℕ, zero, suc, ◌+◌, ◌*◌, ◌-◌, ◌<◌, eqb, ltb, length}
use Rattle.lamp_line.specs.declared.FailureKind.{FailureKind}
use Rattle.lamp_line.specs.Tables.{Tables, world_state, lamp_column, line_of}
use Rattle.lamp_line.specs.Check.{Verdict, accepted, failed}
use Rattle.search_laws.specs.inner.Lists.{◌▸◌}
use Rattle.search_laws.specs.inner.Entries.{Entry, entry, node, start, path, grown, group_end}
use Rattle.check_laws.specs.inner.Fates.{NodeFate, succeeds, fails, arrives, AtEnds, good, bad, start_node, fate, at_ends}

-- ---- a line and its members

-- The start, and the lamps, of the line that is tried from a member: a start if the kind is 0, else an entry.
abbrev pub line_start : List Entry → ℕ → ℕ → ℕ
line_start E i zero = i
line_start E i (suc k) = start E i

abbrev pub line_lamps : List Entry → ℕ → ℕ → List ℕ
line_lamps E i zero = []
line_lamps E i (suc k) = path E i ▸ suc k

-- The entry of the pair y, if it is found by that line. The table had n entries before the line was tried; the first entry after them
-- opens a group.
abbrev pub line_entry : ℕ → List Entry → ℕ → ℕ → ℕ → Entry
line_entry n E i k y = entry y (line_start E i k) (line_lamps E i k) (eqb (length E) n)

-- ---- one line from one member

-- What comes of trying a line from a member: it fails, and this is the lowest end with which it does; nothing is new; or it reaches its
-- end with this pair, which is new, and fails with no end.
pub data Trial : Type 0 where
  fails_at : FailureKind → ℕ → Trial
  quiet : Trial
  finds : ℕ → Trial

-- The pair is in the table.
unfoldable pub met : List Entry → ℕ → Bool
met [] y = false
met (v ∷ E) y = eqb v.node y || met E y

-- The line has arrived at its end with the pair y. A pair that is in the table was tested before.
abbrev pub visited : ℕ → Bool → AtEnds → Trial
visited y true ends = quiet
visited y false good = finds y
visited y false (bad e kind) = fails_at kind e

module _ (t : Tables) (E : List Entry) where
  abbrev pub visit : ℕ → Trial
  visit y = visited y (met E y) (at_ends t y)

  -- The start s, if it is marked.
  abbrev pub at_start : ℕ → Bool → Trial
  at_start s false = quiet
  at_start s true = visit (start_node t s)

  -- An entry that has this fate at the last lamp. A failure at a lamp is one with the lowest end.
  abbrev pub at_lamp : NodeFate → Trial
  at_lamp succeeds = quiet
  at_lamp (fails kind) = fails_at kind 0
  at_lamp (arrives y) = visit y

  -- The line is tried from the member i with a last lamp of this kind, or empty.
  unfoldable pub tried : ℕ → ℕ → Trial
  tried s zero = at_start s (t.start (world_state s))
  tried i (suc k) = at_lamp (fate t (node E i) (lamp_column t.ends (suc k)))

-- ---- the lines one after the other

-- The result of a part of the search: the answer, or the table with which the search goes on.
pub data Turn : Type 0 where
  answers : Verdict → Turn
  goes_on : List Entry → Turn

-- The next part of the search, unless there is an answer.
abbrev pub and_then : Turn → (List Entry → Turn) → Turn
and_then (answers v) f = answers v
and_then (goes_on E) f = f E

-- If no failure was met, the plan is accepted, with the number of pairs found.
abbrev pub conclusion : Turn → Verdict
conclusion (answers v) = v
conclusion (goes_on E) = accepted (length E)

-- The verdict names no line of up to this many lamps.
abbrev pub Beyond : ℕ → Verdict → Type 0
Beyond longest (accepted count) = Unit {0}
Beyond longest (failed kind start line) = longest < length line.lamps

-- The answer that the line fails from the member w with this end.
abbrev pub failing : List Entry → ℕ → FailureKind → ℕ → ℕ → Verdict
failing E k kind w end = failed kind (world_state (line_start E w k)) (line_of end (line_lamps E w k))

module _ (t : Tables) where
  -- The line fails from the member w with this end. The n members from i on are tried as well: one that fails with a lower end is named
  -- instead.
  unfoldable pub lowest_from : ℕ → List Entry → ℕ → ℕ → FailureKind → ℕ → ℕ → Verdict
  lowest_from zero E i k kind w end = failing E k kind w end
  lowest_from (suc n) E i k kind w end =
      elim (tried t E i k) [
        | fails_at kind' end' ↦
            cond (ltb end' end) (lowest_from n E (i + 1) k kind' i end') (lowest_from n E (i + 1) k kind w end)
        | quiet ↦ lowest_from n E (i + 1) k kind w end
        | finds y ↦ lowest_from n E (i + 1) k kind w end
      ]

  -- The line is tried from the n members from i on. The table had `before` entries before the line was tried.
  unfoldable pub members_from : ℕ → ℕ → List Entry → ℕ → ℕ → Turn
  members_from zero before E i k = goes_on E
  members_from (suc n) before E i k =
      elim (tried t E i k) [
        | fails_at kind end ↦ answers (lowest_from n E (i + 1) k kind i end)
        | quiet ↦ members_from n before E (i + 1) k
        | finds y ↦ members_from n before (grown E (line_entry before E i k y)) (i + 1) k
      ]

  -- The line is tried from all its members, which are those from a to b.
  abbrev pub line_tried : List Entry → ℕ → ℕ → ℕ → Turn
  line_tried E a b k = members_from (b - a) (length E) E a k

  -- The group from a to b is tried with the n kinds from k on.
  unfoldable pub kinds_from : ℕ → List Entry → ℕ → ℕ → ℕ → Turn
  kinds_from zero E a b k = goes_on E
  kinds_from (suc n) E a b k = and_then (line_tried E a b k) (λ E'. kinds_from n E' a b (k + 1))

  -- The groups from the entry a on are tried, at most n of them.
  unfoldable pub groups_from : ℕ → List Entry → ℕ → Turn
  groups_from zero E a = goes_on E
  groups_from (suc n) E a =
      elim (ltb a (length E)) [
        | false ↦ goes_on E
        | true ↦ and_then (kinds_from t.kinds E a (group_end E a) 1) (λ E'. groups_from n E' (group_end E a))
      ]

  -- The answer of the search. There are (S + 1)·W pairs, so there are no more groups than that.
  unfoldable pub verdict_of : Verdict
  verdict_of = conclusion (and_then (line_tried [] 0 t.worlds 0) (λ E. groups_from ((t.states + 1) * t.worlds) E 0))
