-- How many values have a property: the number is unique, since a list without repetitions is not longer than any list that holds its
-- elements; it grows with the property, by one with each further value.
use mathlib.Core.Path.{◌≡◌, refl, sym, ap, subst, ◌∙◌}
use mathlib.Core.Logic.{◌≢◌, ◌⊎◌, inl, inr, ⊎_elim, ◌↔◌}
use mathlib.Core.List.{List, [], ◌∷◌}
use Prim.Native.Nat.{ℕ, zero, suc, ◌+◌, ◌≤◌, ◌<◌}
use native.Mathlib.Nat.{eq-or-lt_of_le}
use native.Mathlib.Omega.{arith}
use lib.ListN.{length}
use Rattle.lamp_line.specs.Lists.{◌∈◌, Distinct, NumberOf}

-- ---- lists that hold each other's elements

-- The list l without its element x: it is one shorter, and holds everything else.
record Without {A : Type 0} (x : A) (l : List A) : Type 0 where
  pub others : List A
  pub shorter : length l ≡ suc (length others)
  pub rest : (y : A) → y ∈ l → y ≢ x → y ∈ others

without : {A : Type 0} (x : A) (l : List A) → x ∈ l → Without x l
unfolding ◌∈◌
without x [] m = absurd m
without x (y ∷ l) (inl e) = record { others = l; shorter = refl; rest = λ z m d. ⊎_elim (λ f. absurd (d (f ∙ sym e))) (λ m. m) m }
without x (y ∷ l) (inr m) =
    let w = without x l m in
    record {
      others = y ∷ w.others;
      shorter = ap suc w.shorter;
      rest = λ z n d. ⊎_elim (λ f. inl f) (λ n. inr (w.rest z n d)) n;
    }

no_longer : {A : Type 0} (l m : List A) → Distinct l → ((x : A) → x ∈ l → x ∈ m) → length l ≤ length m
unfolding ◌∈◌ Distinct
no_longer [] m once within = omega arith
no_longer (x ∷ l) m (new, once) within =
    let w = without x m (within x (inl refl)) in
    let others : (y : _) → y ∈ l → y ∈ w.others = λ y n. w.rest y (within y (inr n)) (λ e. new (subst (λ z. z ∈ l) e n)) in
    omega (arith, no_longer l w.others once others, w.shorter)

-- ---- the numbers of two properties

module _ {A : Type 0} {P Q : A → Type 0} {m n : ℕ} (a : NumberOf P m) (b : NumberOf Q n) (within : (x : A) → P x → Q x) where
  in_listed : (x : A) → x ∈ a.listed → x ∈ b.listed
  in_listed x i = (b.exactly x).0 (within x ((a.exactly x).1 i))

  -- If all values with the first property have the second, there are no more of them.
  pub number_le : m ≤ n
  number_le = omega (arith, no_longer a.listed b.listed a.once in_listed, a.number, b.number)

  -- If besides some value has the second alone, there are fewer.
  pub number_lt : (x : A) → Q x → ¬ P x → m < n
  number_lt x q no_p = omega (arith, no_longer (x ∷ a.listed) b.listed once held, a.number, b.number)
    where
      once : Distinct (x ∷ a.listed)
      once = unfold Distinct in (λ i. no_p ((a.exactly x).1 i), a.once)

      held : (y : A) → y ∈ (x ∷ a.listed) → y ∈ b.listed
      held y i = unfold ◌∈◌ in ⊎_elim (λ e. subst (λ z. z ∈ b.listed) (sym e) ((b.exactly x).0 q)) (in_listed y) i

module _ {A : Type 0} {P Q : A → Type 0} where
  -- Properties of the same values have the same number.
  pub number_same : {m n : ℕ} → NumberOf P m → NumberOf Q n → ((x : A) → P x ↔ Q x) → m ≡ n
  number_same a b same = omega (arith, number_le a b (λ x. (same x).0), number_le b a (λ x. (same x).1))

  -- A number is also that of a property of the same values.
  pub number_as : {n : ℕ} → NumberOf P n → ((x : A) → P x ↔ Q x) → NumberOf Q n
  number_as a same =
      record {
        listed = a.listed;
        exactly = λ x. (λ q. (a.exactly x).0 ((same x).1 q), λ i. (same x).0 ((a.exactly x).1 i));
        once = a.once;
        number = a.number;
      }

  -- One value more.
  pub number_more : {n : ℕ} → NumberOf P n → (new : A) → ¬ P new → ((x : A) → ((x ≡ new) ⊎ P x) ↔ Q x) → NumberOf Q (n + 1)
  number_more a new no_p more =
      record {
        listed = new ∷ a.listed;
        exactly = λ x. unfold ◌∈◌ in (
          λ q. ⊎_elim (λ e. inl e) (λ p. inr ((a.exactly x).0 p)) ((more x).1 q),
          λ i. (more x).0 (⊎_elim (λ e. inl e) (λ j. inr ((a.exactly x).1 j)) i),
        );
        once = unfold Distinct in (λ i. no_p ((a.exactly new).1 i), a.once);
        number = omega (arith, a.number);
      }

-- The number of values with a property is unique.
pub number_once : {A : Type 0} (P : A → Type 0) (m n : ℕ) → NumberOf P m → NumberOf P n → m ≡ n
number_once P m n a b = number_same a b (λ x. (λ p. p, λ p. p))

-- No value has the property: the number is 0.
pub number_none : {A : Type 0} {P : A → Type 0} → ((x : A) → ¬ P x) → NumberOf P 0
number_none none = record { listed = []; exactly = λ x. unfold ◌∈◌ in (λ p. none x p, λ m. absurd m); once = unfold Distinct in tt; number = refl }

-- n numbers are below n.
pub numbers_below : (n : ℕ) → NumberOf (λ i. i < n) n
numbers_below zero = number_none (λ i l. omega arith)
numbers_below (suc n) =
    subst (NumberOf (λ i. i < suc n)) (omega arith)
    (number_more (numbers_below n) n (λ l. omega arith)
    (λ i. (⊎_elim (λ e. omega arith) (λ l. omega arith), λ l. eq-or-lt_of_le {n = i} {m = n} (omega arith))))
