-- The table has room: its nodes are all different, so it has no more entries than there are nodes.
use mathlib.Core.Logic.{◌≢◌, ◌⊎◌, inl, inr}
use mathlib.Core.List.{List}
use Prim.Native.Nat.{ℕ, ◌≤◌, ◌<◌}
use native.Mathlib.Omega.{arith}
use lib.ListN.{length}
use Rattle.plans.proofs.Pigeonhole.{pigeonhole}
use Rattle.search_laws.specs.inner.Entries.{Entry, node}
use Rattle.search_laws.proofs.Grown.{below_or_not}

-- There are at most as many entries as nodes.
pub entries_fit :
    (E : List Entry) (N : ℕ) → ((i j : ℕ) → i < j → j < length E → node E i ≢ node E j) →
    ((i : ℕ) → i < length E → node E i < N) → length E ≤ N
entries_fit E N distinct below = go (below_or_not N (length E))
  where
    go : (N < length E) ⊎ (length E ≤ N) → length E ≤ N
    go (inl h) =
        let r = pigeonhole N (node E) (λ i l. below i (omega arith)) in
        absurd (distinct r.earlier r.later r.in_order (omega (arith, r.in_range)) r.same)
    go (inr h) = h
