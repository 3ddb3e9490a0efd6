-- For the functions and proofs of the search: the working list as the search's table of entries. Each word of the list holds a pair, the
-- member and the kind of lamp by which it was found, and whether it opens a group. An entry's start and lamps are read off the words
-- before it.
use Rattle.std.specs.Prelude.{◌≡◌, cond, List, [], ◌∷◌, ◌++◌, ℕ, ◌+◌, ◌*◌, ◌/◌, ◌%◌, ◌≤◌, ◌<◌, eqb, length, get_or, drop}
use Rattle.lamp_line.specs.declared.WorldState.{WorldState}
use Rattle.lamp_line.specs.Tables.{program_state, world_state}
use Rattle.lamp_line.specs.Run.{pair}
use Rattle.run_laws.specs.inner.Pairs.{pair_number}
use Rattle.search_laws.specs.inner.Entries.{Entry, entry, grown}
use Rattle.check_laws.specs.inner.Search.{line_start, line_lamps}
use Rattle.working_list.specs.declared.Placed.{Placed}

-- A placed pair as one word: 6 bits for its world, 7 for its state, 13 for the member, 4 for the kind, and one for `opens`.
unfoldable pub packed : Placed → ℕ
packed p = p.pair.world.0 + 64 * (p.pair.state.0 + 128 * (p.member + 8192 * (p.kind + 16 * cond p.opens 1 0)))

-- The placed pair of a word.
unfoldable pub unpacked : ℕ → Placed
unpacked word =
    record {
      pair = pair (program_state (word / 64 % 128)) (world_state (word % 64));
      member = word / 8192 % 8192;
      kind = word / 67108864 % 16;
      opens = eqb (word / 1073741824) 1;
    }

-- Its numbers fit in these bits.
pub record Packable (p : Placed) : Type 0 where
  pub state_fits : p.pair.state.0 < 128
  pub world_fits : p.pair.world.0 < 64
  pub member_fits : p.member < 8192
  pub kind_fits : p.kind < 16

-- The entry of a placed pair after the entries of E.
abbrev pub placed_entry : ℕ → List Entry → Placed → Entry
placed_entry worlds E p =
    entry (pair_number worlds p.pair) (line_start E p.member p.kind) (line_lamps E p.member p.kind) p.opens

-- The entries of the words, after those of E.
unfoldable pub entries_from : ℕ → List Entry → List ℕ → List Entry
entries_from worlds E [] = E
entries_from worlds E (w ∷ ws) = entries_from worlds (grown E (placed_entry worlds E (unpacked w))) ws

-- The entries of the words.
unfoldable pub entries : ℕ → List ℕ → List Entry
entries worlds ws = entries_from worlds [] ws

-- With n words in the list there is this member for a line whose last lamp has this kind: a start if the kind is 0, else the place of a
-- word.
pub record MemberOf (n member kind : ℕ) : Type 0 where
  pub a_start : kind ≡ 0 → member < 64
  pub a_place : 1 ≤ kind → member < n

-- Each pair was found from a start or from a pair before it.
abbrev pub Chained : List ℕ → Type 0
Chained ws = (i : ℕ) → i < length ws → MemberOf i (unpacked (get_or ws i 0)).member (unpacked (get_or ws i 0)).kind

-- The lamps of the line that is tried from a member with this kind are at the front of the buffer; the bytes after them are as before.
-- The line's start is answered.
pub record Written (E : List Entry) (member kind lamps : ℕ) (line : List ℕ) (r : WorldState) (line' : List ℕ) : Type 0 where
  pub start_is : r.0 ≡ line_start E member kind
  pub line_is : line' ≡ line_lamps E member kind ++ drop lamps line
