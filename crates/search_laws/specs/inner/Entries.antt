-- The table of the search, for its laws and for the search function of check_laws: the nodes found so far, in the order in which
-- they were found.
use Rattle.std.specs.Prelude.{Bool, true, cond, List, [], ◌∷◌, ◌++◌, ℕ, zero, suc, ◌+◌, ◌-◌, length, get_or}
use Rattle.search_laws.specs.inner.Lists.{◌▸◌}

-- A node, with the start and the lamps by which it was found. Entries that were found by the same lamps stand together, as a group;
-- `opens` says that the entry is the first of its group.
pub record Entry : Type 0 where
  pub node : ℕ
  pub start : ℕ
  pub path : List ℕ
  pub opens : Bool

-- An entry by its parts.
abbrev pub entry : ℕ → ℕ → List ℕ → Bool → Entry
entry x s p o = record { node = x; start = s; path = p; opens = o }

-- The entry at a place. A place after the last has no entry; the value given for it is never read.
abbrev pub entry_at : List Entry → ℕ → Entry
entry_at E i = get_or E i (entry 0 0 [] true)

-- The node, the start and the lamps of the entry at a place, and whether it opens a group.
abbrev pub node : List Entry → ℕ → ℕ
node E i = (entry_at E i).node

abbrev pub start : List Entry → ℕ → ℕ
start E i = (entry_at E i).start

abbrev pub path : List Entry → ℕ → List ℕ
path E i = (entry_at E i).path

abbrev pub opens : List Entry → ℕ → Bool
opens E i = (entry_at E i).opens

-- The table with one more entry, at its end.
abbrev pub grown : List Entry → Entry → List Entry
grown E z = E ++ (z ∷ [])

-- The entry of the node y, found from the entry i by passing a lamp of the kind c.
abbrev pub onward : List Entry → ℕ → ℕ → ℕ → Bool → Entry
onward E i c y o = entry y (start E i) (path E i ▸ c) o

-- Where the group ends to which the entries before i belong: at the first of the n entries from i on that opens another group, or after
-- them.
unfoldable pub end_from : ℕ → List Entry → ℕ → ℕ
end_from zero E i = i
end_from (suc n) E i = cond (opens E i) i (end_from n E (i + 1))

-- Where the group ends that begins with the entry a.
abbrev pub group_end : List Entry → ℕ → ℕ
group_end E a = end_from (length E - (a + 1)) E (a + 1)
