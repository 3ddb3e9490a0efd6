-- The line that is tried from a member, by its kind: the empty line from a start, or an entry's line with one more lamp.
use mathlib.Core.Path.{◌≡◌, ap}
use mathlib.Core.List.{List, []}
use Prim.Native.Nat.{ℕ, suc, ◌-◌, ◌≤◌}
use native.Mathlib.Omega.{arith}
use Rattle.lamp_line.specs.Tables.{Tables, world_state, lamp_column}
use Rattle.search_laws.specs.inner.Lists.{◌▸◌}
use Rattle.search_laws.specs.inner.Entries.{Entry, node, start, path}
use Rattle.check_laws.specs.inner.Fates.{fate}
use Rattle.check_laws.specs.inner.Search.{line_start, line_lamps, at_start, at_lamp, tried}

-- With kind 0 the member is a start, and the line is empty.
module _ (E : List Entry) (s k : ℕ) (none : k ≡ 0) where
  -- It has no lamps.
  pub empty_line_lamps : line_lamps E s k ≡ []
  empty_line_lamps = ap (λ (k : ℕ). line_lamps E s k) none

  -- The start is tried, if it is marked.
  pub empty_line_tried : (t : Tables) → tried t E s k ≡ at_start t E s (t.start (world_state s))
  unfolding tried
  empty_line_tried t = ap (λ (k : ℕ). tried t E s k) none

-- With any other kind the member is an entry.
module _ (E : List Entry) (i k : ℕ) (lamp : 1 ≤ k) where
  from_1 : k ≡ suc (k - 1)
  from_1 = omega arith

  -- The line begins at the start of this entry.
  pub lamp_line_start : line_start E i k ≡ start E i
  lamp_line_start = ap (λ (k : ℕ). line_start E i k) from_1

  -- Its lamps are those of the entry, followed by one of this kind.
  pub lamp_line_lamps : line_lamps E i k ≡ path E i ▸ k
  lamp_line_lamps = rw from_1

  -- The entry is tried with a lamp of this kind.
  pub lamp_line_tried : (t : Tables) → tried t E i k ≡ at_lamp t E (fate t (node E i) (lamp_column t.ends k))
  unfolding tried
  lamp_line_tried t = rw from_1
