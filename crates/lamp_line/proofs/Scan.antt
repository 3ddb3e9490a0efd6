-- Laws for a loop that looks for a number below n with a property, from 0 upwards: what it knows on the way, and what its answer
-- says. What a test of the elements of a list says of their places.
use Rattle.std.proofs.Common.{◌≡◌, ◌∙◌, Bool, true, false, ◌||◌, List, [], ◌∷◌, ℕ, zero, suc, ◌+◌, ◌≤◌, ◌<◌, refl, sym, ap, subst, length, get_or, arith}
use Rattle.std.specs.List.{list_any, between, range_with_len}
use Rattle.std.proofs.lemmas.List.Edits.{length-between, get_or-between}
use Rattle.std.proofs.lemmas.List.FromFn.{length-range_with_len, get_or-range_with_len}
use mathlib.Core.Bool.{false≢true, or-true}
use native.Mathlib.Decide.{ℕ_discrete}
use native.Mathlib.Numerals.{add-one}
use Rattle.lamp_line.specs.Refusals.{some_below, some_of}

-- The loop is at i, and none of the numbers below i has the property.
pub record NoneYet (p : ℕ → Bool) (n i : ℕ) : Type 0 where
  pub within : i ≤ n
  pub none : some_below i p ≡ false

-- The loop begins.
pub none_yet_start : {p : ℕ → Bool} {n : ℕ} → NoneYet p n 0
unfolding some_below
none_yet_start = record { within = omega arith; none = refl }

-- If a number below n has the property, some number below n has it.
found_below : (p : ℕ → Bool) (n i : ℕ) → i < n → p i ≡ true → true ≡ some_below n p
unfolding some_below
found_below p zero i i<n here = absurd (omega arith)
found_below p (suc n) i i<n here = at (ℕ_discrete i n) (λ below. found_below p n i below here)
  where
    at : Dec (i ≡ n) → (i < n → true ≡ some_below n p) → true ≡ (p n || some_below n p)
    at (yes i≡n) earlier = let e : p n ≡ true = subst (λ (k : ℕ). p k ≡ true) i≡n here in rw e
    at (no i≢n) earlier = rw (sym (earlier (omega arith))) (sym (or-true (p n)))

-- The loop is at i, and none of the numbers below i has the property.
module _ {p : ℕ → Bool} {n i : ℕ} (before : NoneYet p n i) where
  -- Nor has i: the loop goes on.
  pub none_yet_more : i < n → p i ≡ false → NoneYet p n (i + 1)
  unfolding some_below
  none_yet_more i<n here = record { within = omega arith; none = rw (add-one i) (rw here before.none) }

  -- i has it: the loop answers true.
  pub scan_finds : i < n → p i ≡ true → true ≡ some_below n p
  scan_finds i<n here = found_below p n i i<n here

  -- i is not below n: the loop answers false.
  pub scan_ends : n ≤ i → false ≡ some_below n p
  scan_ends n≤i = let i≡n : i ≡ n = omega arith in sym (rw i≡n at before.none)

-- Where no number below n has the property, the answer is false.
pub none_below : (p : ℕ → Bool) (n : ℕ) → ((i : ℕ) → i < n → p i ≡ false) → some_below n p ≡ false
unfolding some_below
none_below p zero none = refl
none_below p (suc n) none = rw (none n (omega arith)) (none_below p n (λ i i<. none i (omega arith)))

-- What a false answer says of each number below n.
pub none_at : (p : ℕ → Bool) (n : ℕ) → some_below n p ≡ false → (i : ℕ) → i < n → p i ≡ false
none_at p n none i i<n = by (p i) refl
  where
    by : (b : Bool) → p i ≡ b → p i ≡ false
    by false e = e
    by true e = e ∙ found_below p n i i<n e ∙ none

-- What a true answer says: some number below n has the property.
pub some_at : (p : ℕ → Bool) (n : ℕ) → some_below n p ≡ true → (i : ℕ) × (i < n) × (p i ≡ true)
unfolding some_below
some_at p zero e = let z : false ≡ true = e in absurd (false≢true z)
some_at p (suc n) e = at (p n) refl e (some_at p n)
  where
    at : (b : Bool) → p n ≡ b → (b || some_below n p) ≡ true →
        (some_below n p ≡ true → (i : ℕ) × (i < n) × (p i ≡ true)) → (i : ℕ) × (i < suc n) × (p i ≡ true)
    at true here e earlier = (n, omega arith, here)
    at false here e earlier = let found = earlier e in (found.0, omega (arith, found.1), found.2)

-- ---- the elements of a list

first_or_later : (p : ℕ → Bool) (n : ℕ) → some_below (suc n) p ≡ (p 0 || some_below n (λ i. p (suc i)))
unfolding some_below
first_or_later p zero = refl
first_or_later p (suc n) = rw (first_or_later p n) (swapped (p (suc n)) (p 0) (some_below n (λ i. p (suc i))))
  where
    swapped : (a b c : Bool) → (a || (b || c)) ≡ (b || (a || c))
    swapped true true c = refl
    swapped true false c = refl
    swapped false b c = refl

-- If a test says of the element at each place of a list what a property says of the place, some element passes the test exactly when some
-- place has the property.
pub any_by_place :
    {A : Type 0} (test : A → Bool) (p : ℕ → Bool) (l : List A) (d : A) → ((i : ℕ) → i < length l → test (get_or l i d) ≡ p i) →
    list_any test l ≡ some_below (length l) p
unfolding some_below
any_by_place test p [] d agree = refl
any_by_place test p (x ∷ l) d agree =
    rw (agree 0 (omega arith), any_by_place test (λ i. p (suc i)) l d (λ i i<. agree (suc i) (omega arith)))
    (sym (first_or_later p (length l)))

-- The same of the elements of a part of a list: their places are counted from its beginning.
pub any_in_part :
    (test : ℕ → Bool) (l : List ℕ) (from count : ℕ) → from + count ≤ length l →
    list_any test (between from (from + count) l) ≡ some_below count (λ i. test (get_or l (from + i) 0))
any_in_part test l from count within =
    let long : length (between from (from + count) l) ≡ count = length-between l from (from + count) within ∙ omega arith in
    any_by_place test (λ i. test (get_or l (from + i) 0)) (between from (from + count) l) 0
    (λ i i<. ap test (get_or-between l from (from + count) i 0 (omega arith)))
    ∙ ap (λ (n : ℕ). some_below n (λ i. test (get_or l (from + i) 0))) long

-- The same of the numbers below n.
pub any_below : (p : ℕ → Bool) (n : ℕ) → list_any p (range_with_len 0 n) ≡ some_below n p
any_below p n =
    let long : length (range_with_len 0 n) ≡ n = length-range_with_len 0 n in
    any_by_place p p (range_with_len 0 n) 0
    (λ i i<.
    let i<n : i < n = omega (arith, long) in
    let e : get_or (range_with_len 0 n) i 0 ≡ i = get_or-range_with_len 0 n i 0 i<n ∙ omega arith in
    ap p e)
    ∙ ap (λ (m : ℕ). some_below m p) long

-- Some element of a list has a property exactly when some element passes it as a test.
pub some_of_any : (p : ℕ → Bool) (l : List ℕ) → list_any p l ≡ some_of l p
unfolding some_of
some_of_any p [] = refl
some_of_any p (x ∷ l) = rw (some_of_any p l)
