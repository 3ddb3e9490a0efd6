-- The invariant of the search. The search goes through the table by groups; a group is the entries that were found by the same lamps.
-- It tries the group with one kind of lamp after another, and with each kind one entry after another.
use mathlib.Core.Path.{◌≡◌}
use mathlib.Core.Logic.{◌≢◌, ◌⊎◌, inl, inr, ⊎_elim}
use mathlib.Core.List.{List}
use Prim.Native.Nat.{ℕ, ◌≤◌, ◌<◌}
use native.Mathlib.Decide.{dec_lt, ℕ_discrete}
use native.Mathlib.Omega.{arith}
use lib.ListN.{length}
use Rattle.lamp_line.specs.Lists.{◌≼◌}
use Rattle.search_laws.specs.inner.Lists.{◌▸◌, ◌≺◌}
use Rattle.search_laws.specs.inner.Graph.{Graph, Kind, Reach}
use Rattle.search_laws.specs.inner.Entries.{Entry, node, start, path}
use Rattle.search_laws.proofs.Table.{key_of, stem_of, key_on, stem_on, Covers}

-- The entry i was tried with the kind c. The group from a to b has been tried with the kinds below k, and with k up to the entry m;
-- so the entry is before the group, or it is in the group and c or i is early enough.
abbrev pub IsTried : ℕ → ℕ → ℕ → ℕ → ℕ → ℕ → Type 0
IsTried a b k m i c = (i < a) ⊎ ((i < b) × ((c < k) ⊎ ((c ≡ k) × (i < m))))

-- The whole group of the entry i was tried with the kind c.
abbrev pub GroupTried : ℕ → ℕ → ℕ → ℕ → ℕ → Type 0
GroupTried a b k i c = (i < a) ⊎ ((i < b) × (c < k))

-- It is decidable whether an entry was tried with a kind.
pub tried? : (a b k m i c : ℕ) → Dec (IsTried a b k m i c)
tried? a b k m i c = go (dec_lt i a) (dec_lt i b) (dec_lt c k) (ℕ_discrete c k) (dec_lt i m)
  where
    go : Dec (i < a) → Dec (i < b) → Dec (c < k) → Dec (c ≡ k) → Dec (i < m) → Dec (IsTried a b k m i c)
    go (yes x) y z u v = yes (inl x)
    go (no x) (no y) z u v = no (⊎_elim (λ w. x w) (λ w. y w.0))
    go (no x) (yes y) (yes z) u v = yes (inr (y, inl z))
    go (no x) (yes y) (no z) (no u) v = no (⊎_elim (λ w. x w) (λ w. ⊎_elim (λ r. z r) (λ r. u r.0) w.1))
    go (no x) (yes y) (no z) (yes u) (yes v) = yes (inr (y, inr (u, v)))
    go (no x) (yes y) (no z) (yes u) (no v) = no (⊎_elim (λ w. x w) (λ w. ⊎_elim (λ r. z r) (λ r. v r.1) w.1))

-- The group from a to b is being tried with the kind k, and its entry m is next. The entries from n on were found with this kind.
pub record Invariant (g : Graph) (E : List Entry) (a b k m n : ℕ) : Type 0 where
  -- Entries and kinds that were tried lead to known nodes.
  pub covers : Covers g E (IsTried a b k m)
  -- No entry fails at a kind of lamp with which its whole group was tried.
  pub lamps_good : (i c f : ℕ) → i < length E → Kind g.kinds c → GroupTried a b k i c → ¬ (g.Bad (node E i) c f)
  -- No entry fails at an end.
  pub ends_good : (i e f : ℕ) → i < length E → e < g.end_count → ¬ (g.BadEnd (node E i) e f)
  -- The start and the lamps of an entry lead to its node.
  pub real : (i : ℕ) → i < length E → Reach g (start E i) (path E i) (node E i)
  -- The entries are in the order of their keys.
  pub sorted : (i j : ℕ) → i < j → j < length E → key_of E i ≼ key_of E j
  -- The entries of the group have the same lamps, and those after it have later stems.
  pub one_line : (i : ℕ) → a ≤ i → i < b → path E i ≡ path E a
  pub later_stems : (i : ℕ) → b ≤ i → i < length E → stem_of E a ≺ stem_of E i
  -- The first n entries have earlier stems than the line that is tried; the others have its lamps.
  pub old_stems : (i : ℕ) → i < n → stem_of E i ≺ stem_on E a k
  pub new_lines : (i : ℕ) → n ≤ i → i < length E → path E i ≡ path E a ▸ k
  -- The others come no later than what the remaining entries of the group may lead to.
  pub new_early : (i j : ℕ) → n ≤ i → i < length E → m ≤ j → j < b → key_of E i ≼ key_on E j k
  -- No node is in the table twice.
  pub distinct : (i j : ℕ) → i < j → j < length E → node E i ≢ node E j
  -- The order of the places.
  pub a<b : a < b
  pub a≤m : a ≤ m
  pub b≤n : b ≤ n
  pub n≤length : n ≤ length E

-- The entries up to the end of the group are in the table.
pub group_in_table :
    {g : Graph} {E : List Entry} {a b k m n : ℕ} → Invariant g E a b k m n → (i : ℕ) → i < b → i < length E
group_in_table inv i l = omega (arith, inv.b≤n, inv.n≤length)
