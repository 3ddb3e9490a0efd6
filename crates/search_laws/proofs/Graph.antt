-- Laws of the search's graph: if a node is reached and a line fails from it, the whole line fails from the start; and what the least
-- failure is.
use mathlib.Core.Path.{◌≡◌, sym, subst}
use mathlib.Core.List.{List, [], ◌∷◌, ◌++◌, append_assoc}
use Prim.Native.Nat.{ℕ, ◌+◌, ◌<◌}
use native.Mathlib.Omega.{arith}
use lib.ListN.{length, length-append}
use Rattle.lamp_line.specs.Lists.{◌≼◌}
use Rattle.lamp_line.specs.Tables.{Kinds}
use Rattle.search_laws.specs.inner.Lists.{◌▸◌}
use Rattle.search_laws.proofs.Keys.{key}
use Rattle.search_laws.specs.inner.Graph.{Graph, FailsAlong, goes_on, Reach, from_start, past_lamp, FailsFrom}

-- A lamp at the end of a line is the first of what follows the line.
pub snoc_append : (p : List ℕ) (c : ℕ) (r : List ℕ) → (p ▸ c) ++ r ≡ p ++ (c ∷ r)
snoc_append p c r = append_assoc p (c ∷ []) r

-- A line with one lamp more is one longer.
pub snoc_length : (p : List ℕ) (c : ℕ) → length (p ▸ c) ≡ length p + 1
snoc_length p c = omega (arith, length-append p (c ∷ []))

module _ (g : Graph) where
  -- The line fails from the start, and comes first of all that fail.
  pub record Least (l : List ℕ) (e s f : ℕ) : Type 0 where
    pub fails : FailsFrom g s l e f
    pub least : (s' : ℕ) (l' : List ℕ) (e' f' : ℕ) → FailsFrom g s' l' e' f' → key l e s f ≼ key l' e' s' f'

  -- If a node is reached and a line fails from it, the lamps passed, followed by that line, fail from the start.
  pub reach_fails :
      {s x e f : ℕ} {p r : List ℕ} → Reach g s p x → Kinds g.kinds r → e < g.end_count → FailsAlong g x r e f → FailsFrom g s (p ++ r) e f
  unfolding Kinds
  reach_fails (from_start h) v l d = record { first = _; start = h; of_kinds = v; ended = l; fails = d }
  reach_fails {e = e} {f = f} {r = r} (past_lamp {s = s} {c = c} {p = p} h k t) v l d =
      subst (λ (z : List ℕ). FailsFrom g s z e f) (sym (snoc_append p c r))
      (reach_fails h (k.low, k.high, v) l (goes_on t d))

-- The nodes that are reached are below N if those of the starts and those to which edges lead are.
pub reach_below :
    (g : Graph) (N : ℕ) → ((s x : ℕ) → g.Start s x → x < N) → ((x c y : ℕ) → g.To x c y → y < N) →
    {s x : ℕ} {p : List ℕ} → Reach g s p x → x < N
reach_below g N start to (from_start {s = s} {x = x} h) = start s x h
reach_below g N start to (past_lamp {x = x} {c = c} {y = y} r k t) = to x c y t
