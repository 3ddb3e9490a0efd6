-- The groups of a table, as its entries mark them: an entry opens a group exactly when its lamps are not those of the entry before it.
use mathlib.Core.Path.{◌≡◌, refl, sym, ap, ◌∙◌}
use mathlib.Core.Logic.{◌≢◌, ◌⊎◌, inl, inr, ⊎_elim}
use mathlib.Core.Bool.{Bool, true, false, cond}
use mathlib.Core.List.{List}
use Prim.Native.Nat.{ℕ, zero, suc, ◌+◌, ◌-◌, ◌≤◌, ◌<◌}
use native.Mathlib.Omega.{arith}
use lib.ListN.{length}
use Rattle.search_laws.specs.inner.Entries.{Entry, entry_at, path, opens, grown, end_from, group_end}
use Rattle.search_laws.proofs.Grown.{below_or_last, grown_length, grown_new, still_at}

-- The entry v, which comes after u, says rightly whether it opens a group.
pub record Marks (u v : Entry) : Type 0 where
  pub other_lamps : v.opens ≡ true → v.path ≢ u.path
  pub same_lamps : v.opens ≡ false → v.path ≡ u.path

-- All entries of the table but the first do.
abbrev pub Marked : List Entry → Type 0
Marked E = (i : ℕ) → i + 1 < length E → Marks (entry_at E i) (entry_at E (i + 1))

-- They do after one more entry.
pub marked_grown :
    (E : List Entry) (z : Entry) → Marked E → ((i : ℕ) → i + 1 ≡ length E → Marks (entry_at E i) z) → Marked (grown E z)
marked_grown E z marked last i l = go (below_or_last (i + 1) (length E) (omega (arith, grown_length E z)))
  where
    before : (v : Entry) → i < length E → Marks (entry_at E i) v → Marks (entry_at (grown E z) i) v
    before v there h = still_at E z i there (λ u. Marks u v) h

    go : (i + 1 < length E) ⊎ (i + 1 ≡ length E) → Marks (entry_at (grown E z) i) (entry_at (grown E z) (i + 1))
    go (inl x) = before _ (omega arith) (still_at E z (i + 1) x (λ v. Marks (entry_at E i) v) (marked i x))
    go (inr x) = rw (x, grown_new E z) (before z (omega arith) (last i x))

-- ---- where a group ends

-- The entries from a to b are a group.
pub record Group (E : List Entry) (a b : ℕ) : Type 0 where
  pub some : a < b
  pub within : b ≤ length E
  pub same : (i : ℕ) → a ≤ i → i < b → path E i ≡ path E a
  pub other : b < length E → path E b ≢ path E a

module _ (E : List Entry) where
  -- From the entries before i, which are of the group, to its end.
  end_from_lem :
      (n a i : ℕ) → Marked E → i + n ≡ length E → a < i → ((j : ℕ) → a ≤ j → j < i → path E j ≡ path E a) → Group E a (end_from n E i)
  unfolding end_from
  end_from_lem zero a i marked e less same =
      record { some = less; within = omega arith; same = same; other = λ l. absurd (omega arith) }
  end_from_lem (suc n) a i marked e less same = go (end_from_lem n a (i + 1) marked (omega arith) (omega arith)) (opens E i) refl
    where
      back : i - 1 + 1 ≡ i
      back = omega arith

      marks : Marks (entry_at E (i - 1)) (entry_at E i)
      marks = rw back at (marked (i - 1) (omega arith))

      before : path E (i - 1) ≡ path E a
      before = same (i - 1) (omega arith) (omega arith)

      go :
          (((j : ℕ) → a ≤ j → j < i + 1 → path E j ≡ path E a) → Group E a (end_from n E (i + 1))) →
          (o : Bool) → opens E i ≡ o → Group E a (cond o i (end_from n E (i + 1)))
      go after true is =
          record { some = less; within = omega arith; same = same; other = λ l h. marks.other_lamps is (h ∙ sym before) }
      go after false is =
          after (λ j x y.
          ⊎_elim (λ u. same j x u) (λ (u : j ≡ i). ap (path E) u ∙ marks.same_lamps is ∙ before) (below_or_last j i y))

  -- The group of an entry a that begins one ends where the marks say so.
  pub group_end_lem : (a : ℕ) → Marked E → a < length E → Group E a (group_end E a)
  group_end_lem a marked l =
      end_from_lem (length E - (a + 1)) a (a + 1) marked (omega arith) (omega arith) (λ j x y. ap (path E) (at j x y))
    where
      at : (j : ℕ) → a ≤ j → j < a + 1 → j ≡ a
      at j x y = omega arith
