-- A group that was tried with all kinds of lamps. The next group is tried from the first kind on. If there is none, no line fails,
-- and the table holds every node that is reached.
use mathlib.Core.Path.{◌≡◌, sym, subst}
use mathlib.Core.Logic.{◌≢◌, ◌⊎◌, inl, inr, ⊎_elim}
use mathlib.Core.List.{List}
use Prim.Native.Nat.{ℕ, ◌+◌, ◌≤◌, ◌<◌}
use native.Mathlib.Omega.{arith}
use lib.ListN.{length}
use Rattle.lamp_line.specs.Lists.{◌≼◌}
use Rattle.search_laws.specs.inner.Lists.{◌≺◌}
use Rattle.search_laws.proofs.Lex.{≺_trans}
use Rattle.search_laws.proofs.Keys.{stem, stem_more_less, key_stems}
use Rattle.search_laws.specs.inner.Graph.{Graph, Kind, Reach, FailsFrom}
use Rattle.search_laws.specs.inner.Entries.{Entry, node, start, path}
use Rattle.search_laws.proofs.Table.{key_of, stem_of, Known}
use Rattle.search_laws.proofs.Table.{Open, untried, lamp_fails, end_fails, fails_open, reach_known}
use Rattle.search_laws.proofs.Grown.{below_or_last}
use Rattle.search_laws.proofs.Invariant.{IsTried, GroupTried, tried?, Invariant}

-- The entries after a group have later stems, if the table is in order and the first of them has other lamps.
pub stems_after_later :
    (E : List Entry) (a b : ℕ) → ((i j : ℕ) → i < j → j < length E → key_of E i ≼ key_of E j) →
    a < b → (b < length E → path E b ≢ path E a) → (i : ℕ) → b ≤ i → i < length E → stem_of E a ≺ stem_of E i
stems_after_later E a b sorted a<b other i b≤i l = go (below_or_last b i (omega arith))
  where
    in_order : (i j : ℕ) → i < j → j < length E → (stem_of E i ≺ stem_of E j) ⊎ (path E i ≡ path E j)
    in_order i j h l = key_stems (path E i) (path E j) 0 0 (start E i) (start E j) 0 0 (sorted i j h l)

    at_b : b < length E → stem_of E a ≺ stem_of E b
    at_b h = ⊎_elim (λ x. x) (λ x. absurd (other h (sym x))) (in_order a b a<b h)

    go : (b < i) ⊎ (b ≡ i) → stem_of E a ≺ stem_of E i
    go (inl u) =
        ⊎_elim (λ v. ≺_trans _ _ _ (at_b (omega arith)) v)
        (λ v. subst (λ (p : List ℕ). stem_of E a ≺ stem p) v (at_b (omega arith))) (in_order b i u l)
    go (inr u) = subst (λ (j : ℕ). stem_of E a ≺ stem_of E j) u (at_b (omega arith))

module _ {g : Graph} {E : List Entry} {a b : ℕ} (inv : Invariant g E a b (g.kinds + 1) a (length E)) where
  -- The next group ends where the lamps change.
  pub group_done :
      (b' : ℕ) → b < b' → b' ≤ length E → ((i : ℕ) → b ≤ i → i < b' → path E i ≡ path E b) →
      (b' < length E → path E b' ≢ path E b) → Invariant g E b b' 1 b (length E)
  group_done b' lt le same other =
      record {
        covers = record { roots = inv.covers.roots; on = λ i c y l kc d. inv.covers.on i c y l kc (all_tried i c kc d) };
        lamps_good = lamps_good;
        ends_good = inv.ends_good;
        real = inv.real;
        sorted = inv.sorted;
        one_line = same;
        later_stems = stems_after_later E b b' inv.sorted lt other;
        old_stems = λ i l.
            ≺_trans _ _ _ (inv.old_stems i l)
            (stem_more_less (path E a) (path E b) (g.kinds + 1) 1
            (inv.later_stems b (omega arith) (omega arith)));
        new_lines = λ i x l. absurd (omega arith);
        new_early = λ i j x l. absurd (omega arith);
        distinct = inv.distinct;
        a<b = lt;
        a≤m = omega arith;
        b≤n = le;
        n≤length = omega arith;
      }
    where
      all_tried : (i c : ℕ) → Kind g.kinds c → IsTried b b' 1 b i c → IsTried a b (g.kinds + 1) a i c
      all_tried i c kc (inl x) = inr (x, inl (omega (arith, kc.high)))
      all_tried i c kc (inr (x, inl y)) = absurd (omega (arith, kc.low))
      all_tried i c kc (inr (x, inr (y, z))) = inr (z, inl (omega (arith, kc.high)))

      lamps_good : (i c f : ℕ) → i < length E → Kind g.kinds c → GroupTried b b' 1 i c → ¬ (g.Bad (node E i) c f)
      lamps_good i c f l kc (inl x) h = inv.lamps_good i c f l kc (inr (x, omega (arith, kc.high))) h
      lamps_good i c f l kc (inr (x, y)) h = omega (arith, kc.low)

  -- There is no further group.
  module _ (end : length E ≤ b) where
    all_done : (i c : ℕ) → i < length E → Kind g.kinds c → IsTried a b (g.kinds + 1) a i c
    all_done i c l kc = inr (omega arith, inl (omega (arith, kc.high)))

    -- No line fails.
    pub none_fails : (s : ℕ) (l : List ℕ) (e f : ℕ) → ¬ (FailsFrom g s l e f)
    none_fails s l e f d =
        go (fails_open g E (IsTried a b (g.kinds + 1) a) (tried? a b (g.kinds + 1) a) inv.covers s l e f d)
      where
        go : Open g E (IsTried a b (g.kinds + 1) a) s l e f → ⊥
        go (untried i c p r li kc un d early is) = un (all_done i c li kc)
        go (lamp_fails i c li kc done h le) = inv.lamps_good i c f li kc (inr (omega arith, omega (arith, kc.high))) h
        go (end_fails i li h le) = inv.ends_good i e f li d.ended h

    -- Every node that is reached is in the table.
    pub reached_known : {s x : ℕ} {p : List ℕ} → Reach g s p x → Known E x s p
    reached_known = reach_known g E (IsTried a b (g.kinds + 1) a) (tried? a b (g.kinds + 1) a) inv.covers all_done
