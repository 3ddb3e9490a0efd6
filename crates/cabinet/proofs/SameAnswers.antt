-- The cabinet reads marks and plan only. If two files are equal in these, so are their tables, and its operations give the same answers
-- on both.
use mathlib.Core.Path.{◌≡◌, refl, sym, ap, ◌∙◌}
use mathlib.Core.Bool.{Bool, true, false, cond, ◌&&◌}
use Rattle.std.specs.Prelude.{Option, None, Some}
use mathlib.Core.List.{List, [], ◌∷◌}
use Prim.Native.Nat.{ℕ, ◌+◌, ◌*◌, ◌<◌}
use native.Mathlib.Omega.{arith}
use borrow.Author.Tests.{ltb-true}
use lib.Arith.{digits_lt}
use lib.Dec.{ltb}
use Rattle.plans.specs.Plan.{Action, Result}
use Rattle.lamp_line.specs.declared.ProgramState.{ProgramState}
use Rattle.lamp_line.specs.declared.Cabinet.{Cabinet}
use Rattle.lamp_line.specs.Tables.{Tables}
use Rattle.lamp_line.specs.declared.Refusal.TheVariants as refused
use Rattle.lamp_line.specs.Refusals.{◌when◌, refusal, or_refused, answer_by}
use Rattle.job_layout.specs.declared.Job.{Job}
use Rattle.job_layout.specs.Layout.{byte, head, mark_place, action_place, target_place}
use Rattle.job_layout.specs.JobTables.{branch, tables_of}
use Rattle.job_file.specs.Reading.{Opened}
use Rattle.cabinet.specs.CabinetAnswers.{keeping, is_above, has_ended, followed, state_answer, report_answer}
use Rattle.cabinet.specs.ReadsPlan.{EqualForCabinet, ReadsPlanOnly}
use Rattle.cabinet.proofs.Answering.{begin_opened, action_refusals, state_refusals}

-- ---- equal tables

-- The tables are equal in what the cabinet reads.
record EqualTables (t t' : Tables) : Type 0 where
  pub states : t.states ≡ t'.states
  pub first : t.first ≡ t'.first
  pub marks : (a : Action) → t.mark a ≡ t'.mark a
  pub acts : (q : ProgramState) → t.action q ≡ t'.action q
  pub targets : (q : ProgramState) (r : Result) → t.target q r ≡ t'.target q r

same_followed :
    {t t' : Tables} → EqualTables t t' → (m : Cabinet) (target : Option ProgramState) → followed t m target ≡ followed t' m target
same_followed same m None = refl
same_followed {t} {t'} same m (Some q) = rw (same.acts m.state, same.marks (t'.action m.state))

module _ {t t' : Tables} (same : EqualTables t t') (m : Cabinet) where
  same_action_refusals :
      answer_by ((refused.State when is_above t m) ∷ []) (cond (has_ended t m) None (Some (t.action m.state)))
      ≡ answer_by ((refused.State when is_above t' m) ∷ []) (cond (has_ended t' m) None (Some (t'.action m.state)))
  same_action_refusals = rw (same.states, same.acts m.state)

  same_state_refusals :
      (r : Result) →
      or_refused (refusal ((refused.State when is_above t m) ∷ (refused.AfterEnd when has_ended t m) ∷ [])) (followed t m (t.target m.state r))
      ≡ or_refused (refusal ((refused.State when is_above t' m) ∷ (refused.AfterEnd when has_ended t' m) ∷ []))
      (followed t' m (t'.target m.state r))
  same_state_refusals r = rw (same.states, same.targets m.state r, same_followed same m (t'.target m.state r))

-- ---- equal files

module _ (s s' : List ℕ) (equal : EqualForCabinet s s') where
  same_mark : (a : Action) → (tables_of s).mark a ≡ (tables_of s').mark a
  same_mark a = by (ltb a (head s).actions) refl
    where
      by : (b : Bool) → ltb a (head s).actions ≡ b →
          cond b (byte s (mark_place (head s) a)) 0 ≡ (tables_of s').mark a
      by true e = equal.marks a (ltb-true _ _ e) ∙ rw (sym equal.actions, e)
      by false e = rw (sym equal.actions, e)

  -- The byte at offset r in the plan's row of state q. A row holds an action and R targets.
  same_row : (q : ProgramState) (r : ℕ) → q.0 < (head s).states → r < 1 + (head s).results → (i i' : ℕ) →
      i ≡ action_place (head s) q + r → i' ≡ action_place (head s') q + r → byte s i ≡ byte s' i'
  same_row q r q< r< i i' e e' =
      let n = q.0 * (1 + (head s).results) + r in
      let here : i ≡ (head s).plan.offset + n = omega (arith, e) in
      let there : i' ≡ (head s').plan.offset + n = e' ∙ (rw equal.results (omega arith)) in
      rw (here, there) (equal.plan n (digits_lt q< r<))

  same_action : (q : ProgramState) → (tables_of s).action q ≡ (tables_of s').action q
  same_action q = by (ltb q.0 (head s).states) refl
    where
      by : (b : Bool) → ltb q.0 (head s).states ≡ b → cond b (byte s (action_place (head s) q)) 0 ≡ (tables_of s').action q
      by true e =
          same_row q 0 (ltb-true _ _ e) (omega arith) (action_place (head s) q) (action_place (head s') q) (omega arith) (omega arith)
          ∙ rw (sym equal.states, e)
      by false e = rw (sym equal.states, e)

  same_target : (q : ProgramState) (r : Result) → (tables_of s).target q r ≡ (tables_of s').target q r
  same_target q r = by (ltb q.0 (head s).states) (ltb r (head s).results) refl refl
    where
      by : (b b' : Bool) → ltb q.0 (head s).states ≡ b → ltb r (head s).results ≡ b' →
          cond (b && b') (branch (byte s (target_place (head s) q r))) None ≡ (tables_of s').target q r
      by true true e e' =
          let r< : r < (head s).results = ltb-true _ _ e' in
          ap branch
          (same_row q (1 + r) (ltb-true _ _ e) (omega (arith, r<)) (target_place (head s) q r) (target_place (head s') q r)
          (omega arith) (omega arith))
          ∙ rw (sym equal.states, sym equal.results, e, e')
      by true false e e' = rw (sym equal.states, sym equal.results, e, e')
      by false b' e e' = rw (sym equal.states, e)

  same_tables : EqualTables (tables_of s) (tables_of s')
  same_tables =
      record {
        states = equal.states;
        first = equal.first;
        marks = same_mark;
        acts = same_action;
        targets = same_target;
      }

same_state : (s s' : List ℕ) {j j' : Job} → Opened s j → Opened s' j' → EqualForCabinet s s' → (m : Cabinet) (r : Result) →
    state_answer s m r ≡ state_answer s' m r
same_state s s' opened opened' equal m r =
    state_refusals s opened m r ∙ same_state_refusals (same_tables s s' equal) m r ∙ sym (state_refusals s' opened' m r)

-- The cabinet's operations cannot tell such files apart.
pub same_answers : ReadsPlanOnly
unfolding report_answer
same_answers s s' j j' opened opened' equal =
    let same = same_tables s s' equal in
    record {
      begins = λ count.
          begin_opened s opened count ∙ (rw same.first (sym (begin_opened s' opened' count)));
      actions = λ m. action_refusals s opened m ∙ same_action_refusals same m ∙ sym (action_refusals s' opened' m);
      reports = λ m r. ap (keeping m) (same_state s s' opened opened' equal m r);
    }
