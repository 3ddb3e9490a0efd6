-- The graph that the laws of the search are about: numbered nodes, and edges that pass a lamp. Several edges may leave a node at
-- the same kind of lamp, and the node may fail there as well.
use Rattle.std.specs.Prelude.{◌≡◌, List, [], ◌∷◌, ℕ, ◌≤◌, ◌<◌}
use Rattle.lamp_line.specs.Tables.{Kinds}
use Rattle.search_laws.specs.inner.Lists.{◌▸◌}

-- A line leads through the graph from a start, lamp by lamp.
pub record Graph : Type 1 where
  -- Lamps have the kinds 1 to `kinds`, ends of lines the kinds below `end_count`.
  pub kinds : ℕ
  pub end_count : ℕ
  -- A start, and a node where it begins.
  pub Start : ℕ → ℕ → Type 0
  -- A node, a kind of lamp, and a node at the next lamp.
  pub To : ℕ → ℕ → ℕ → Type 0
  -- A node, a kind of lamp, and a kind of failure there.
  pub Bad : ℕ → ℕ → ℕ → Type 0
  -- A node, a kind of end, and a kind of failure there.
  pub BadEnd : ℕ → ℕ → ℕ → Type 0

-- The number c is a kind of lamp.
pub record Kind (kinds c : ℕ) : Type 0 where
  pub low : 1 ≤ c
  pub high : c ≤ kinds

module _ (g : Graph) where
  -- From the node, the line with these lamps and this end fails with this kind of failure.
  pub data FailsAlong : ℕ → List ℕ → ℕ → ℕ → Type 0 where
    bad_end : {x e f : ℕ} → g.BadEnd x e f → FailsAlong x [] e f
    bad_lamp : {x c e f : ℕ} {l : List ℕ} → g.Bad x c f → FailsAlong x (c ∷ l) e f
    goes_on : {x c y e f : ℕ} {l : List ℕ} → g.To x c y → FailsAlong y l e f → FailsAlong x (c ∷ l) e f

  -- From the start, past these lamps, the node is reached.
  pub data Reach : ℕ → List ℕ → ℕ → Type 0 where
    from_start : {s x : ℕ} → g.Start s x → Reach s [] x
    past_lamp : {s x c y : ℕ} {p : List ℕ} → Reach s p x → Kind g.kinds c → g.To x c y → Reach s (p ▸ c) y

  -- From the start, the line with these lamps and this end fails with this kind of failure.
  pub record FailsFrom (s : ℕ) (l : List ℕ) (e f : ℕ) : Type 0 where
    pub first : ℕ
    pub start : g.Start s first
    pub of_kinds : Kinds g.kinds l
    pub ended : e < g.end_count
    pub fails : FailsAlong first l e f

-- Each start has one node, which no other start has.
pub record OwnStarts (g : Graph) : Type 0 where
  pub start_one : (s x x' : ℕ) → g.Start s x → g.Start s x' → x ≡ x'
  pub start_own : (s s' x : ℕ) → g.Start s x → g.Start s' x → s ≡ s'

-- So it is, and at each kind of lamp a node has at most one edge or one failure, and not both.
pub record Plain (g : Graph) : Type 0 where
  pub starts : OwnStarts g
  pub to_one : (x c y y' : ℕ) → g.To x c y → g.To x c y' → y ≡ y'
  pub bad_one : (x c f f' : ℕ) → g.Bad x c f → g.Bad x c f' → f ≡ f'
  pub bad_to : (x c f y : ℕ) → g.Bad x c f → ¬ (g.To x c y)
