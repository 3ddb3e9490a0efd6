-- Laws of the table with one more entry: the old entries are where they were, and the new one is the last.
use mathlib.Core.Path.{◌≡◌, sym, ap, subst}
use mathlib.Core.Logic.{◌⊎◌, inl, inr, ⊎_elim}
use mathlib.Core.Bool.{true}
use mathlib.Core.List.{List, [], ◌∷◌}
use Prim.Native.Nat.{ℕ, ◌+◌, ◌≤◌, ◌<◌}
use native.Mathlib.Decide.{dec_lt}
use native.Mathlib.Omega.{arith}
use lib.ListN.{length, length-append, get_or-append}
use lib.Seq.{get_or-append_seam}
use Rattle.lamp_line.specs.Lists.{◌≼◌}
use Rattle.search_laws.proofs.Lex.{≼_refl}
use Rattle.search_laws.proofs.Keys.{line_key}
use Rattle.search_laws.specs.inner.Entries.{Entry, entry, entry_at, grown}
use Rattle.search_laws.proofs.Table.{entry_key, Known}

-- A number is below another, or not.
pub below_or_not : (i n : ℕ) → (i < n) ⊎ (n ≤ i)
below_or_not i n = go (dec_lt i n)
  where
    go : Dec (i < n) → (i < n) ⊎ (n ≤ i)
    go (yes h) = inl h
    go (no h) = inr (omega arith)

-- A number below h + 1 is below h, or is h.
pub below_or_last : (i h : ℕ) → i < h + 1 → (i < h) ⊎ (i ≡ h)
below_or_last i h l = ⊎_elim (λ x. inl x) (λ x. inr (omega arith)) (below_or_not i h)

module _ (E : List Entry) (z : Entry) where
  -- The table is one entry longer.
  pub grown_length : length (grown E z) ≡ length E + 1
  grown_length = omega (arith, length-append E (z ∷ []))

  grown_old : (i : ℕ) → i < length E → entry_at (grown E z) i ≡ entry_at E i
  grown_old i l = get_or-append E (z ∷ []) (entry 0 0 [] true) i l

  -- The last entry is the new one.
  pub grown_new : entry_at (grown E z) (length E) ≡ z
  grown_new = get_or-append_seam E z [] (entry 0 0 [] true)

  -- What holds for an old entry holds for it in the new table.
  pub still_at : (i : ℕ) → i < length E → (P : Entry → Type 0) → P (entry_at E i) → P (entry_at (grown E z) i)
  still_at i l P x = subst P (sym (grown_old i l)) x

  -- What holds for an old entry in the new table held for it before.
  pub was_at : (i : ℕ) → i < length E → (P : Entry → Type 0) → P (entry_at (grown E z) i) → P (entry_at E i)
  was_at i l P x = subst P (grown_old i l) x

  -- What holds for the old entries and for the new one holds for all entries.
  pub grown_all :
      (P : ℕ → Entry → Type 0) → ((i : ℕ) → i < length E → P i (entry_at E i)) → P (length E) z →
      (i : ℕ) → i < length (grown E z) → P i (entry_at (grown E z) i)
  grown_all P old new i l = go (below_or_last i (length E) (omega (arith, grown_length)))
    where
      go : (i < length E) ⊎ (i ≡ length E) → P i (entry_at (grown E z) i)
      go (inl x) = still_at i x (P i) (old i x)
      go (inr x) = rw (x, grown_new) new

  -- What holds for any two old entries, and for each of them with the new one, holds for any two entries.
  pub grown_pairs :
      (P : Entry → Entry → Type 0) → ((i j : ℕ) → i < j → j < length E → P (entry_at E i) (entry_at E j)) →
      ((i : ℕ) → i < length E → P (entry_at E i) z) →
      (i j : ℕ) → i < j → j < length (grown E z) → P (entry_at (grown E z) i) (entry_at (grown E z) j)
  grown_pairs P old new i j l lj =
      grown_all (λ j v. (i : ℕ) → i < j → P (entry_at (grown E z) i) v)
      (λ j lj i l. still_at i (omega arith) (λ u. P u (entry_at E j)) (old i j l lj))
      (λ i l. still_at i l (λ u. P u z) (new i l)) j lj i l

  -- A known node stays known.
  pub known_grown : {y s : ℕ} {p : List ℕ} → Known E y s p → Known (grown E z) y s p
  known_grown {y} {s} {p} k =
      record {
        place = k.place;
        there = omega (arith, grown_length, k.there);
        same = still_at k.place k.there (λ v. v.node ≡ y) k.same;
        early = still_at k.place k.there (λ v. entry_key v ≼ line_key p s) k.early;
      }

  -- The new node is known.
  pub known_new : Known (grown E z) z.node z.start z.path
  known_new =
      record {
        place = length E;
        there = omega (arith, grown_length);
        same = ap (λ (v : Entry). v.node) grown_new;
        early = subst (λ (v : Entry). entry_key v ≼ entry_key z) (sym grown_new) (≼_refl (entry_key z));
      }
