-- A pair at the ends of lines: what the test of all kinds of ends says.
use mathlib.Core.Path.{◌≡◌, refl}
use Prim.Native.Nat.{ℕ, zero, suc, ◌+◌, ◌<◌}
use native.Mathlib.Decide.{dec_lt}
use native.Mathlib.Omega.{arith}
use Rattle.lamp_line.specs.declared.FailureKind.{FailureKind}
use Rattle.lamp_line.specs.Tables.{Tables, kinds_of_ends}
use Rattle.check_laws.specs.inner.Fates.{NodeFate, succeeds, fails, arrives, AtEnds, good, bad, fate, ends_from, at_ends}
use Rattle.check_laws.proofs.TableGraph.{FailsAt}

module _ (t : Tables) where
  -- The pair fails at no end.
  abbrev pub GoodAtEnds : ℕ → Type 0
  GoodAtEnds x = (e f : ℕ) → e < kinds_of_ends t.ends → ¬ (FailsAt t x e f)

  -- The pair fails at the end e with this failure kind, and fails at no lower end.
  pub record BadAtEnd (x e : ℕ) (kind : FailureKind) : Type 0 where
    pub is_end : e < kinds_of_ends t.ends
    pub fate_is : fate t x e ≡ fails kind
    pub lowest : (e' f : ℕ) → e' < e → ¬ (FailsAt t x e' f)

  -- What the test of a pair at the ends says.
  abbrev pub EndsSay : ℕ → AtEnds → Type 0
  EndsSay x good = GoodAtEnds x
  EndsSay x (bad e kind) = BadAtEnd x e kind

  -- The test from the end e on, if the pair fails at none of the lower ends.
  ends_from_lem :
      (n e x : ℕ) → e + n ≡ kinds_of_ends t.ends → ((e' f : ℕ) → e' < e → ¬ (FailsAt t x e' f)) → EndsSay x (ends_from t n e x)
  unfolding ends_from
  ends_from_lem zero e x h none = λ e' f l. none e' f (omega arith)
  ends_from_lem (suc n) e x h none = go (ends_from_lem n (e + 1) x (omega arith)) (fate t x e) refl
    where
      also : ((kind : FailureKind) → ¬ (fate t x e ≡ fails kind)) → (e' f : ℕ) → e' < e + 1 → ¬ (FailsAt t x e' f)
      also here e' f l (kind, g, k) = at (dec_lt e' e)
        where
          at : Dec (e' < e) → ⊥
          at (yes u) = none e' f u (kind, g, k)
          at (no u) = let same : e' ≡ e = omega arith in here kind (rw same at g)

      go :
          (((e' f : ℕ) → e' < e + 1 → ¬ (FailsAt t x e' f)) → EndsSay x (ends_from t n (e + 1) x)) →
          (v : NodeFate) → fate t x e ≡ v →
          EndsSay x (elim v as (λ _. AtEnds) [
            | succeeds ↦ ends_from t n (e + 1) x
            | fails kind ↦ bad e kind
            | arrives y ↦ ends_from t n (e + 1) x
          ])
      go after succeeds f = after (also (λ kind g. let z : ◌≡◌ {A = ℕ} 0 1 = cc in omega arith))
      go after (fails kind) f = record { is_end = omega arith; fate_is = f; lowest = none }
      go after (arrives y) f = after (also (λ kind g. let z : ◌≡◌ {A = ℕ} 0 1 = cc in omega arith))

  -- What the test of all kinds of ends says is true.
  pub ends_say : (x : ℕ) → EndsSay x (at_ends t x)
  ends_say x = ends_from_lem (kinds_of_ends t.ends) 0 x (omega arith) (λ e f l. absurd (omega arith))
