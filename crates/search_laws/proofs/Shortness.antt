-- A least failing line is short. If a line passes more lamps than there are nodes with edges, it meets one of these nodes twice,
-- and the lamps between can be left out. If a line fails at a lamp, it can be cut off after that lamp.
use mathlib.Core.Path.{◌≡◌, sym, subst}
use mathlib.Core.List.{List, [], ◌∷◌, ◌++◌}
use Prim.Native.Nat.{ℕ, zero, suc, ◌+◌, ◌≤◌, ◌<◌}
use native.Mathlib.Decide.{dec_lt}
use native.Mathlib.Omega.{arith}
use lib.ListN.{length, take, drop, length-append, length-take, length-drop}
use Rattle.lamp_line.specs.Tables.{Kinds}
use Rattle.plans.proofs.Pigeonhole.{Repeat, pigeonhole}
use Rattle.search_laws.proofs.Keys.{key_length}
use Rattle.search_laws.specs.inner.Graph.{Graph, FailsAlong, bad_end, bad_lamp, goes_on, FailsFrom}
use Rattle.search_laws.proofs.Graph.{Least}

-- ---- the kinds of a part of a line

kinds_take : (n i : ℕ) (l : List ℕ) → Kinds n l → Kinds n (take i l)
unfolding Kinds
kinds_take n zero l v = tt
kinds_take n (suc i) [] v = tt
kinds_take n (suc i) (c ∷ l) v = (v.0, v.1, kinds_take n i l v.2)

kinds_drop : (n i : ℕ) (l : List ℕ) → Kinds n l → Kinds n (drop i l)
unfolding Kinds
kinds_drop n zero l v = v
kinds_drop n (suc i) [] v = tt
kinds_drop n (suc i) (c ∷ l) v = kinds_drop n i l v.2

-- Two lists of kinds one after the other are a list of kinds.
pub kinds_append : (n : ℕ) (l m : List ℕ) → Kinds n l → Kinds n m → Kinds n (l ++ m)
unfolding Kinds
kinds_append n [] m v u = u
kinds_append n (c ∷ l) m v u = (v.0, v.1, kinds_append n l m v.2 u)

module _ (g : Graph) where
  -- ---- the nodes of a failing line

  -- How many lamps the line passes, and the node at each of them.
  passed : {x e f : ℕ} {l : List ℕ} → FailsAlong g x l e f → ℕ
  passed (bad_end b) = 0
  passed (bad_lamp b) = 0
  passed (goes_on t d) = suc (passed d)

  node_at : {x e f : ℕ} {l : List ℕ} → FailsAlong g x l e f → ℕ → ℕ
  node_at (bad_end {x = x} b) i = x
  node_at (bad_lamp {x = x} b) i = x
  node_at (goes_on {x = x} t d) zero = x
  node_at (goes_on {x = x} t d) (suc i) = node_at d i

  passed_bound : {x e f : ℕ} {l : List ℕ} (d : FailsAlong g x l e f) → passed d ≤ length l
  unfolding passed
  passed_bound (bad_end b) = omega arith
  passed_bound (bad_lamp b) = omega arith
  passed_bound (goes_on t d) = omega (arith, passed_bound d)

  -- The rest of the line fails from the node there.
  rest_fails : {x e f : ℕ} {l : List ℕ} (d : FailsAlong g x l e f) (i : ℕ) → i ≤ passed d → FailsAlong g (node_at d i) (drop i l) e f
  unfolding passed node_at
  rest_fails (bad_end b) zero h = bad_end b
  rest_fails (bad_end b) (suc i) h = absurd (omega arith)
  rest_fails (bad_lamp b) zero h = bad_lamp b
  rest_fails (bad_lamp b) (suc i) h = absurd (omega arith)
  rest_fails (goes_on t d) zero h = goes_on t d
  rest_fails (goes_on t d) (suc i) h = rest_fails d i (omega arith)

  -- Another rest that fails from there also makes a failing line.
  splice :
      {x e f : ℕ} {l : List ℕ} (d : FailsAlong g x l e f) (i : ℕ) (m : List ℕ) → i ≤ passed d →
      FailsAlong g (node_at d i) m e f → FailsAlong g x (take i l ++ m) e f
  unfolding passed node_at
  splice (bad_end b) zero m h r = r
  splice (bad_end b) (suc i) m h r = absurd (omega arith)
  splice (bad_lamp b) zero m h r = r
  splice (bad_lamp b) (suc i) m h r = absurd (omega arith)
  splice (goes_on t d) zero m h r = r
  splice (goes_on t d) (suc i) m h r = goes_on t (splice d i m (omega arith) r)

  -- The line up to the lamp at which it fails.
  cut : {x e f : ℕ} {l : List ℕ} (d : FailsAlong g x l e f) → FailsAlong g x (take (suc (passed d)) l) e f
  unfolding passed
  cut (bad_end b) = bad_end b
  cut (bad_lamp b) = bad_lamp b
  cut (goes_on t d) = goes_on t (cut d)

-- Nodes for which `In` holds and which have an edge have codes below M, each its own. Their edges lead to nodes for which `In`
-- holds.
pub record Coded (g : Graph) (In : ℕ → Type 0) (code : ℕ → ℕ) (M : ℕ) : Type 0 where
  pub to_in : (x c y : ℕ) → In x → g.To x c y → In y
  pub code_bound : (x c y : ℕ) → In x → g.To x c y → code x < M
  pub code_own : (x c y x' c' y' : ℕ) → In x → g.To x c y → In x' → g.To x' c' y' → code x ≡ code x' → x ≡ x'

module _ (g : Graph) (In : ℕ → Type 0) (code : ℕ → ℕ) (M : ℕ) (coded : Coded g In code M) where
  -- The node at a lamp that is passed has an edge there.
  left_at :
      {x e f : ℕ} {l : List ℕ} (d : FailsAlong g x l e f) → In x → (i : ℕ) → i < passed g d →
      (c : ℕ) × (y : ℕ) × In (node_at g d i) × g.To (node_at g d i) c y
  unfolding passed node_at
  left_at (bad_end b) x_in i h = absurd (omega arith)
  left_at (bad_lamp b) x_in i h = absurd (omega arith)
  left_at (goes_on {x = x} {c = c} {y = y} t d) x_in zero h = (c, y, x_in, t)
  left_at (goes_on {x = x} {c = c} {y = y} t d) x_in (suc i) h = left_at d (coded.to_in x c y x_in t) i (omega arith)

  -- A failing line with fewer lamps.
  abbrev pub Shorter : ℕ → List ℕ → ℕ → ℕ → Type 0
  Shorter x l e f = (m : List ℕ) × (length m < length l) × Kinds g.kinds m × FailsAlong g x m e f

  -- From such a node, a failing line with more than M + 1 lamps is not a shortest one.
  pub shorter : {x e f : ℕ} {l : List ℕ} → FailsAlong g x l e f → In x → Kinds g.kinds l → M + 1 < length l → Shorter x l e f
  shorter {x} {e} {f} {l} d x_in v long = go (dec_lt M (passed g d))
    where
      go : Dec (M < passed g d) → Shorter x l e f
      go (no h) =
          let n = suc (passed g d) in
          (take n l, omega (arith, length-take n l), kinds_take g.kinds n l v, cut g d)
      go (yes h) = twice (pigeonhole M (λ i. code (node_at g d i)) bound)
        where
          bound : (i : ℕ) → i ≤ M → code (node_at g d i) < M
          bound i li = let (c, y, i_in, t) = left_at d x_in i (omega arith) in coded.code_bound (node_at g d i) c y i_in t

          twice : Repeat (λ i. code (node_at g d i)) M → Shorter x l e f
          twice r = (
            take i l ++ drop j l,
            short,
            kinds_append g.kinds (take i l) (drop j l) (kinds_take g.kinds i l v) (kinds_drop g.kinds j l v),
            splice g d i (drop j l) (omega (arith, r.in_order, r.in_range))
                (subst (λ (z : ℕ). FailsAlong g z (drop j l) e f) (sym same) (rest_fails g d j (omega (arith, r.in_range)))),
          )
            where
              i : ℕ
              i = r.earlier

              j : ℕ
              j = r.later

              same : node_at g d i ≡ node_at g d j
              same =
                  let (c, y, i_in, t) = left_at d x_in i (omega (arith, r.in_order, r.in_range)) in
                  let (c', y', j_in, t') = left_at d x_in j (omega (arith, r.in_range)) in
                  coded.code_own (node_at g d i) c y (node_at g d j) c' y' i_in t j_in t' r.same

              short : length (take i l ++ drop j l) < length l
              short =
                  simp (length-append, length-take, length-drop) (omega (arith, r.in_order, r.in_range, passed_bound g d))

  -- If all starts begin at such nodes, a least failing line has at most M + 1 lamps.
  pub least_short :
      ((s x : ℕ) → g.Start s x → In x) → (s : ℕ) (l : List ℕ) (e f : ℕ) → Least g l e s f → length l ≤ M + 1
  least_short start_in s l e f least = go (dec_lt (M + 1) (length l))
    where
      d : FailsFrom g s l e f
      d = least.fails

      go : Dec (M + 1 < length l) → length l ≤ M + 1
      go (no h) = omega arith
      go (yes h) =
          let (m, less, v, fails) = shorter d.fails (start_in s d.first d.start) d.of_kinds h in
          let d' : FailsFrom g s m e f =
          record { first = d.first; start = d.start; of_kinds = v; ended = d.ended; fails = fails } in
          absurd (omega (arith, key_length l m e e s s f f (least.least s m e f d')))
