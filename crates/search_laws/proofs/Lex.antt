-- Laws of the order of lists by the first difference, and of its strict form, in which neither list is the beginning of the other.
use mathlib.Core.Path.{◌≡◌, refl, ◌∙◌}
use mathlib.Core.Logic.{◌⊎◌, inl, inr, ⊎_elim}
use mathlib.Core.List.{List, [], ◌∷◌, ◌++◌}
use Prim.Native.Nat.{ℕ, ◌≤◌, ◌<◌}
use native.Mathlib.Decide.{dec_lt}
use native.Mathlib.Omega.{arith}
use lib.ListN.{length}
use Rattle.lamp_line.specs.Lists.{◌≼◌}
use Rattle.search_laws.specs.inner.Lists.{◌▸◌, ◌≺◌}

-- ---- the order

-- The order is reflexive.
pub ≼_refl : (l : List ℕ) → l ≼ l
unfolding ◌≼◌
≼_refl [] = tt
≼_refl (a ∷ l) = inr (refl, ≼_refl l)

-- The order is transitive.
pub ≼_trans : (l m n : List ℕ) → l ≼ m → m ≼ n → l ≼ n
unfolding ◌≼◌
≼_trans [] m n p q = tt
≼_trans (a ∷ l) [] n p q = absurd p
≼_trans (a ∷ l) (b ∷ m) [] p q = absurd q
≼_trans (a ∷ l) (b ∷ m) (c ∷ n) (inl p) (inl q) = inl (omega arith)
≼_trans (a ∷ l) (b ∷ m) (c ∷ n) (inl p) (inr (q, s)) = inl (omega arith)
≼_trans (a ∷ l) (b ∷ m) (c ∷ n) (inr (p, r)) (inl q) = inl (omega arith)
≼_trans (a ∷ l) (b ∷ m) (c ∷ n) (inr (p, r)) (inr (q, s)) = inr (p ∙ q, ≼_trans l m n r s)

-- The order is antisymmetric.
pub ≼_antisym : (l m : List ℕ) → l ≼ m → m ≼ l → l ≡ m
unfolding ◌≼◌
≼_antisym [] [] p q = refl
≼_antisym [] (b ∷ m) p q = absurd q
≼_antisym (a ∷ l) [] p q = absurd p
≼_antisym (a ∷ l) (b ∷ m) (inl p) (inl q) = absurd (omega arith)
≼_antisym (a ∷ l) (b ∷ m) (inl p) (inr (q, s)) = absurd (omega arith)
≼_antisym (a ∷ l) (b ∷ m) (inr (p, r)) (inl q) = absurd (omega arith)
≼_antisym (a ∷ l) (b ∷ m) (inr (p, r)) (inr (q, s)) = let e = ≼_antisym l m r s in cc

-- Lists that begin with the same list are in order if what follows it is.
pub ≼_after : (l x y : List ℕ) → x ≼ y → (l ++ x) ≼ (l ++ y)
unfolding ◌≼◌
≼_after [] x y p = p
≼_after (a ∷ l) x y p = inr (refl, ≼_after l x y p)

-- Lists of a single number are ordered as these numbers are.
pub ≼_single : (a b : ℕ) → a ≤ b → (a ∷ []) ≼ (b ∷ [])
≼_single a b h = go (dec_lt a b)
  where
    go : Dec (a < b) → (a ∷ []) ≼ (b ∷ [])
    go (yes x) = unfold ◌≼◌ in inl x
    go (no x) = unfold ◌≼◌ in inr (omega arith, tt)

-- ---- its strict form

-- The strict order is transitive.
pub ≺_trans : (l m n : List ℕ) → l ≺ m → m ≺ n → l ≺ n
unfolding ◌≺◌
≺_trans [] m n p q = absurd p
≺_trans (a ∷ l) [] n p q = absurd p
≺_trans (a ∷ l) (b ∷ m) [] p q = absurd q
≺_trans (a ∷ l) (b ∷ m) (c ∷ n) (inl p) (inl q) = inl (omega arith)
≺_trans (a ∷ l) (b ∷ m) (c ∷ n) (inl p) (inr (q, s)) = inl (omega arith)
≺_trans (a ∷ l) (b ∷ m) (c ∷ n) (inr (p, r)) (inl q) = inl (omega arith)
≺_trans (a ∷ l) (b ∷ m) (c ∷ n) (inr (p, r)) (inr (q, s)) = inr (p ∙ q, ≺_trans l m n r s)

-- The strict order is irreflexive.
pub ≺_irrefl : (l : List ℕ) → ¬ (l ≺ l)
unfolding ◌≺◌
≺_irrefl [] p = p
≺_irrefl (a ∷ l) (inl p) = omega arith
≺_irrefl (a ∷ l) (inr (p, r)) = ≺_irrefl l r

-- Lists in strict order are in order.
pub ≺→≼ : (l m : List ℕ) → l ≺ m → l ≼ m
unfolding ◌≼◌ ◌≺◌
≺→≼ [] m p = tt
≺→≼ (a ∷ l) [] p = absurd p
≺→≼ (a ∷ l) (b ∷ m) (inl p) = inl p
≺→≼ (a ∷ l) (b ∷ m) (inr (p, r)) = inr (p, ≺→≼ l m r)

-- The first difference decides, whatever follows.
pub ≺_append : (l m x y : List ℕ) → l ≺ m → (l ++ x) ≺ (m ++ y)
unfolding ◌≺◌
≺_append [] m x y p = absurd p
≺_append (a ∷ l) [] x y p = absurd p
≺_append (a ∷ l) (b ∷ m) x y (inl p) = inl p
≺_append (a ∷ l) (b ∷ m) x y (inr (p, r)) = inr (p, ≺_append l m x y r)

-- If lists are equal but for their last numbers, the last numbers decide.
pub ≺_last : (l : List ℕ) (c c' : ℕ) → c < c' → (l ▸ c) ≺ (l ▸ c')
unfolding ◌≺◌
≺_last [] c c' h = inl h
≺_last (a ∷ l) c c' h = inr (refl, ≺_last l c c' h)

-- If two lists are in order and begin with parts of the same length, these parts are in strict order, or they are equal and what
-- follows is in order.
pub ≼_split : (l m x y : List ℕ) → length l ≡ length m → (l ++ x) ≼ (m ++ y) → (l ≺ m) ⊎ ((l ≡ m) × (x ≼ y))
unfolding ◌≼◌ ◌≺◌
≼_split [] [] x y h p = inr (refl, p)
≼_split [] (b ∷ m) x y h p = absurd (omega arith)
≼_split (a ∷ l) [] x y h p = absurd (omega arith)
≼_split (a ∷ l) (b ∷ m) x y h (inl p) = inl (inl p)
≼_split (a ∷ l) (b ∷ m) x y h (inr (p, r)) =
    ⊎_elim (λ u. inl (inr (p, u))) (λ (e, q). inr (cc, q)) (≼_split l m x y (omega arith) r)
