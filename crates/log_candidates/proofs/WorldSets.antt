-- Sets of world states as words: adding one world state, and gathering those that each of a row of numbers gives.
use Rattle.std.proofs.Common.{◌≡◌, refl, sym, ap, subst, ◌∙◌, ◌⊎◌, inl, inr, ◌↔◌, Bool, true, false, ℕ, ◌+◌, ◌≤◌, ◌<◌, arith}
use mathlib.Core.Bool.{false≢true}
use native.Mathlib.Decide.{dec_lt, ℕ_discrete}
use Rattle.lamp_line.specs.declared.WorldState.{WorldState}
use Rattle.lamp_line.specs.Tables.{world_state}
use Rattle.word_bits.specs.Bits.{has_bit}
use Rattle.word_bits.specs.inner.WordBits.{OnlyAdded, AddedIf}
use Rattle.word_bits.proofs.WordBits.{none_in_zero}
use Rattle.log_candidates.specs.inner.WorldSets.{Has, Adds, Gathered}

-- ---- one world state

-- The word with one more bit has one more world state.
adds_one :
    {Added : WorldState → Type 0} {before after : ℕ} (w : WorldState) → OnlyAdded before after w.0 →
    ((v : WorldState) → Added v ↔ (v ≡ w)) → Adds Added before after
adds_one {Added} {before} {after} w only is =
    record { adds = λ v. (has v (ℕ_discrete v.0 w.0), λ h. had v h (ℕ_discrete v.0 w.0)) }
  where
    has : (v : WorldState) → Dec (v.0 ≡ w.0) → Has after v → Has before v ⊎ Added v
    has v (yes e) h = inr ((is v).1 (ap world_state e))
    has v (no d) h = inl (sym (only.others v.0 d) ∙ h)

    had : (v : WorldState) → Has before v ⊎ Added v → Dec (v.0 ≡ w.0) → Has after v
    had v h (yes e) = rw e only.added
    had v (inl h) (no d) = only.others v.0 d ∙ h
    had v (inr a) (no d) = absurd (d (ap (λ (u : WorldState). u.0) ((is v).0 a)))

-- Where nothing has the property, and the word has what it had.
adds_none :
    {Added : WorldState → Type 0} {before after : ℕ} → ((v : WorldState) → has_bit after v.0 ≡ has_bit before v.0) →
    ((v : WorldState) → ¬ (Added v)) → Adds Added before after
adds_none {Added} {before} {after} same none = record { adds = λ v. (λ h. inl (sym (same v) ∙ h), had v) }
  where
    had : (v : WorldState) → Has before v ⊎ Added v → Has after v
    had v (inl h) = same v ∙ h
    had v (inr a) = absurd (none v a)

-- The bit is added if a truth value says so: just if so, this world state has the property.
pub adds_if :
    {Added : WorldState → Type 0} {add : Bool} {before after : ℕ} (w : WorldState) → AddedIf add before after w.0 →
    (add ≡ true → (v : WorldState) → Added v ↔ (v ≡ w)) → (add ≡ false → (v : WorldState) → ¬ (Added v)) → Adds Added before after
adds_if {add = true} w added is none = adds_one w (added.added refl) (is refl)
adds_if {add = false} w added is none = adds_none (λ v. added.kept refl v.0) (none refl)

-- The same for an equivalent property.
pub adds_same :
    {Added Same : WorldState → Type 0} {before after : ℕ} → Adds Added before after → ((v : WorldState) → Added v ↔ Same v) →
    Adds Same before after
adds_same {Added} {Same} {before} {after} added is =
    record { adds = λ v. (λ h. to v ((added.adds v).0 h), λ h. (added.adds v).1 (from v h)) }
  where
    to : (v : WorldState) → Has before v ⊎ Added v → Has before v ⊎ Same v
    to v (inl h) = inl h
    to v (inr a) = inr ((is v).0 a)

    from : (v : WorldState) → Has before v ⊎ Same v → Has before v ⊎ Added v
    from v (inl h) = inl h
    from v (inr a) = inr ((is v).1 a)

-- Added to the empty set.
pub added_to_none : {Added : WorldState → Type 0} {set : ℕ} → Adds Added 0 set → (v : WorldState) → Has set v ↔ Added v
added_to_none {Added} {set} added v = (λ h. from ((added.adds v).0 h), λ a. (added.adds v).1 (inr a))
  where
    from : Has 0 v ⊎ Added v → Added v
    from (inl h) = absurd (false≢true (sym (none_in_zero v.0) ∙ h))
    from (inr a) = a

-- ---- gathering

module _ {Given : ℕ → WorldState → Type 0} {before : ℕ} where
  -- One number more.
  pub gathered_more :
      {n set after : ℕ} → Adds (Gathered Given n) before set → Adds (Given n) set after → Adds (Gathered Given (n + 1)) before after
  gathered_more {n} {set} {after} those this =
      record { adds = λ v. (λ h. has v ((this.adds v).0 h), had v) }
    where
      earlier : (v : WorldState) → Has before v ⊎ Gathered Given n v → Has before v ⊎ Gathered Given (n + 1) v
      earlier v (inl h) = inl h
      earlier v (inr (i, i<, given)) = inr (i, omega arith, given)

      has : (v : WorldState) → Has set v ⊎ Given n v → Has before v ⊎ Gathered Given (n + 1) v
      has v (inl h) = earlier v ((those.adds v).0 h)
      has v (inr given) = inr (n, omega arith, given)

      by : (v : WorldState) (i : ℕ) → i < n + 1 → Given i v → Dec (i ≡ n) → Has after v
      by v i i< given (yes e) = (this.adds v).1 (inr (subst (λ (k : ℕ). Given k v) e given))
      by v i i< given (no d) = (this.adds v).1 (inl ((those.adds v).1 (inr (i, omega arith, given))))

      had : (v : WorldState) → Has before v ⊎ Gathered Given (n + 1) v → Has after v
      had v (inl h) = (this.adds v).1 (inl ((those.adds v).1 (inl h)))
      had v (inr (i, i<, given)) = by v i i< given (ℕ_discrete i n)

  -- Numbers that give nothing are passed over.
  pub gathered_on :
      {m n set : ℕ} → Adds (Gathered Given m) before set → m ≤ n →
      ((k : ℕ) → m ≤ k → k < n → (v : WorldState) → ¬ (Given k v)) → Adds (Gathered Given n) before set
  gathered_on {m} {n} those m≤ nothing =
      adds_same those (λ v. (
        λ (i, i<, given). (i, omega arith, given),
        λ (i, i<, given). by v i i< given (dec_lt i m),
      ))
    where
      by : (v : WorldState) (i : ℕ) → i < n → Given i v → Dec (i < m) → Gathered Given m v
      by v i i< given (yes below) = (i, below, given)
      by v i i< given (no above) = absurd (nothing i (omega arith) i< v given)

  -- All the numbers below n, which the loop calls k.
  pub gathered_all :
      {m k n set : ℕ} → m ≤ k → k ≤ m → k ≡ n → Adds (Gathered Given m) before set → Adds (Gathered Given n) before set
  gathered_all {m} {k} {n} m≤ ≤m is those = let same : m ≡ n = omega arith in rw same at those
