-- The order of failures (02, (f)). A failure has a key, a list of numbers. It begins with the stem of its line: the length, and the kinds
-- of the lamps. The tail follows: the kind of the line's end, the start and the kind of failure.
use mathlib.Core.Path.{◌≡◌, refl, sym, ap, subst}
use mathlib.Core.Logic.{◌⊎◌, inl, inr, ⊎_elim}
use mathlib.Core.List.{List, [], ◌∷◌, ◌++◌, append-nil}
use Prim.Native.Nat.{ℕ, zero, suc, ◌≤◌, ◌<◌}
use native.Mathlib.Omega.{arith}
use lib.ListN.{length, length-append}
use Rattle.lamp_line.specs.Lists.{◌≼◌}
use Rattle.search_laws.specs.inner.Lists.{◌▸◌, ◌≺◌}
use Rattle.search_laws.proofs.Lex.{≼_refl, ≼_after, ≼_single, ≼_split, ≺→≼, ≺_append, ≺_last}

-- ---- lines

-- The stem of a line with these lamps.
pub stem : List ℕ → List ℕ
stem p = length p ∷ p

-- A shorter line has an earlier stem.
pub stem_longer : (p p' : List ℕ) → length p < length p' → stem p ≺ stem p'
unfolding stem ◌≺◌
stem_longer p p' h = inl h

stem_snoc : (p : List ℕ) (c : ℕ) → stem (p ▸ c) ≡ suc (length p) ∷ (p ▸ c)
unfolding stem
stem_snoc p c = ap (λ (n : ℕ). n ∷ (p ▸ c)) (omega (arith, length-append p (c ∷ [])))

-- An earlier stem stays earlier when a lamp of any kind is added to each line.
pub stem_more_less : (p p' : List ℕ) (c c' : ℕ) → stem p ≺ stem p' → stem (p ▸ c) ≺ stem (p' ▸ c')
stem_more_less p p' c c' h = rw (stem_snoc p c, stem_snoc p' c') (go (unfold stem in h))
  where
    go : (length p ∷ p) ≺ (length p' ∷ p') → (suc (length p) ∷ (p ▸ c)) ≺ (suc (length p') ∷ (p' ▸ c'))
    go h = unfold ◌≺◌ in
        ⊎_elim (λ x. inl (omega arith)) (λ x. inr (omega (arith, x.0), ≺_append p p' (c ∷ []) (c' ∷ []) x.1)) h

-- Of two lines that differ in their last lamp only, the one with the lower kind there has the earlier stem.
pub stem_kind_less : (p : List ℕ) (c c' : ℕ) → c < c' → stem (p ▸ c) ≺ stem (p ▸ c')
stem_kind_less p c c' h = rw (stem_snoc p c, stem_snoc p c') (unfold ◌≺◌ in inr (refl, ≺_last p c c' h))

-- ---- keys

tail : ℕ → ℕ → ℕ → List ℕ
tail e s f = e ∷ s ∷ f ∷ []

-- The key of the failure f from the start s on the line with the lamps p and the end e.
pub key : List ℕ → ℕ → ℕ → ℕ → List ℕ
key p e s f = stem p ++ tail e s f

-- The key without the failure: what the check compares of a line and a start.
pub line_rank : ℕ → List ℕ → ℕ → List ℕ
line_rank s p e = stem p ++ (e ∷ s ∷ [])

-- It is the line's length, the kinds of the lamps, the kind of the end and the start, in this order.
pub line_rank_is : (s : ℕ) (p : List ℕ) (e : ℕ) → line_rank s p e ≡ length p ∷ (p ++ (e ∷ s ∷ []))
unfolding line_rank stem
line_rank_is s p e = refl

-- The key of a line and a start, with the lowest end and no failure.
abbrev pub line_key : List ℕ → ℕ → List ℕ
line_key p s = key p 0 s 0

module _ (p p' : List ℕ) (e e' s s' f f' : ℕ) where
  -- An earlier stem gives an earlier key.
  pub key_by_stem : stem p ≺ stem p' → key p e s f ≼ key p' e' s' f'
  unfolding key
  key_by_stem h = ≺→≼ _ _ (≺_append (stem p) (stem p') (tail e s f) (tail e' s' f') h)

  key_by_tail : p ≡ p' → tail e s f ≼ tail e' s' f' → key p e s f ≼ key p' e' s' f'
  unfolding key
  key_by_tail h r =
      subst (λ (z : List ℕ). (stem p ++ tail e s f) ≼ (stem z ++ tail e' s' f')) h
      (≼_after (stem p) (tail e s f) (tail e' s' f') r)

  -- On the same line, a lower end gives an earlier key, whatever the starts.
  pub key_by_end : p ≡ p' → e < e' → key p e s f ≼ key p' e' s' f'
  key_by_end h lower = key_by_tail h (unfold tail ◌≼◌ in inl lower)

  -- On the same line with the same end, a lower start gives an earlier key.
  pub key_by_start : p ≡ p' → e ≡ e' → s < s' → key p e s f ≼ key p' e' s' f'
  key_by_start h same lower = key_by_tail h (unfold tail ◌≼◌ in inr (same, inl lower))

  -- On the same line with the same end and the same start, a lower failure gives an earlier key.
  pub key_by_failure : p ≡ p' → e ≡ e' → s ≡ s' → f ≤ f' → key p e s f ≼ key p' e' s' f'
  key_by_failure h same start lower = key_by_tail h (unfold tail ◌≼◌ in inr (same, inr (start, ≼_single f f' lower)))

  key_cases : key p e s f ≼ key p' e' s' f' → (stem p ≺ stem p') ⊎ ((p ≡ p') × (tail e s f ≼ tail e' s' f'))
  unfolding key stem ◌≼◌ ◌≺◌
  key_cases (inl x) = inl (inl x)
  key_cases (inr (x, r)) = ⊎_elim (λ u. inl (inr (x, u))) (λ u. inr u) (≼_split p p' (tail e s f) (tail e' s' f') x r)

  -- If two keys are in order, the first has the earlier stem, or their lines are the same.
  pub key_stems : key p e s f ≼ key p' e' s' f' → (stem p ≺ stem p') ⊎ (p ≡ p')
  key_stems h = ⊎_elim (λ u. inl u) (λ (u, v). inr u) (key_cases h)

  -- Without the failures they are in order as well.
  pub key_line_order : key p e s f ≼ key p' e' s' f' → line_rank s p e ≼ line_rank s' p' e'
  unfolding line_rank
  key_line_order h = ⊎_elim by_stem (λ (u, v). by_tail u v) (key_cases h)
    where
      by_stem : stem p ≺ stem p' → (stem p ++ (e ∷ s ∷ [])) ≼ (stem p' ++ (e' ∷ s' ∷ []))
      by_stem u = ≺→≼ _ _ (≺_append (stem p) (stem p') (e ∷ s ∷ []) (e' ∷ s' ∷ []) u)

      without_failure : tail e s f ≼ tail e' s' f' → (e ∷ s ∷ []) ≼ (e' ∷ s' ∷ [])
      without_failure r = unfold tail in
          ⊎_elim (λ u. ≺→≼ _ _ u) (λ (u, v). subst (λ (z : List ℕ). (e ∷ s ∷ []) ≼ z) u (≼_refl (e ∷ s ∷ [])))
          (≼_split (e ∷ s ∷ []) (e' ∷ s' ∷ []) (f ∷ []) (f' ∷ []) refl r)

      by_tail : p ≡ p' → tail e s f ≼ tail e' s' f' → (stem p ++ (e ∷ s ∷ [])) ≼ (stem p' ++ (e' ∷ s' ∷ []))
      by_tail u r =
          subst (λ (z : List ℕ). (stem p ++ (e ∷ s ∷ [])) ≼ (stem z ++ (e' ∷ s' ∷ []))) u
          (≼_after (stem p) (e ∷ s ∷ []) (e' ∷ s' ∷ []) (without_failure r))

  -- If two keys are in order, the first line is not longer than the second.
  pub key_length : key p e s f ≼ key p' e' s' f' → length p ≤ length p'
  unfolding key stem ◌≼◌
  key_length (inl x) = omega arith
  key_length (inr (x, y)) = omega arith

-- Lines in order stay in order when a lamp of the same kind is added to both.
pub key_more : (s s' : ℕ) (p p' : List ℕ) (c : ℕ) → line_key p s ≼ line_key p' s' → line_key (p ▸ c) s ≼ line_key (p' ▸ c) s'
key_more s s' p p' c h =
    ⊎_elim (λ u. key_by_stem (p ▸ c) (p' ▸ c) 0 0 s s' 0 0 (stem_more_less p p' c c u))
    (λ (u, v). key_by_tail (p ▸ c) (p' ▸ c) 0 0 s s' 0 0 (ap (λ (z : List ℕ). z ▸ c) u) v) (key_cases p p' 0 0 s s' 0 0 h)

-- Lines in order stay in order with the same end and the same failure.
pub key_end : (s s' e f : ℕ) (p p' : List ℕ) → line_key p s ≼ line_key p' s' → key p e s f ≼ key p' e s' f
unfolding tail ◌≼◌
key_end s s' e f p p' h =
    ⊎_elim (λ u. key_by_stem p p' e e s s' f f u) (λ (u, v). key_by_tail p p' e e s s' f f u (again v))
    (key_cases p p' 0 0 s s' 0 0 h)
  where
    again : tail 0 s 0 ≼ tail 0 s' 0 → tail e s f ≼ tail e s' f
    again (inl x) = absurd (omega arith)
    again (inr (x, inl y)) = inr (refl, inl y)
    again (inr (x, inr (y, z))) = inr (refl, inr (y, inr (refl, tt)))

-- A line comes no later than any line that begins with it, whatever its end.
pub key_prefix : (s e f f' : ℕ) (p r : List ℕ) → f ≤ f' → key p 0 s f ≼ key (p ++ r) e s f'
key_prefix s e f f' p [] h =
    subst (λ (z : List ℕ). key p 0 s f ≼ key z e s f') (sym (append-nil p)) (key_by_tail p p 0 e s s f f' refl (at e))
  where
    at : (e : ℕ) → tail 0 s f ≼ tail e s f'
    at zero = unfold tail ◌≼◌ in inr (refl, inr (refl, ≼_single f f' h))
    at (suc e) = unfold tail ◌≼◌ in inl (omega arith)
key_prefix s e f f' p (a ∷ r) h =
    key_by_stem p (p ++ (a ∷ r)) 0 e s s f f' (stem_longer p (p ++ (a ∷ r)) (omega (arith, length-append p (a ∷ r))))
