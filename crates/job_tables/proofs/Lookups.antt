-- The byte at the place that the code computes for an entry is the entry of the tables.
use mathlib.Core.Path.{◌≡◌, sym, ◌∙◌, subst}
use mathlib.Core.Bool.{false, not}
use Rattle.std.specs.Prelude.{None, Some}
use mathlib.Core.List.{List}
use Prim.Native.Nat.{ℕ, ◌+◌, ◌<◌, ◌≤◌}
use borrow.Author.Tests.{lt-ltb, le-ltb, eq-eqb, ne_eqb}
use lib.Dec.{eqb}
use Rattle.plans.specs.Plan.{Action, Result}
use Rattle.lamp_line.specs.declared.ProgramState.{ProgramState}
use Rattle.lamp_line.specs.declared.WorldState.{WorldState}
use Rattle.lamp_line.specs.Tables.{Tables, program_state, world_state, moves_on}
use Rattle.job_layout.specs.declared.Job.{Job}
use Rattle.job_layout.specs.Layout.{job_columns, byte, mark_place, next_place, result_place, start_place, goal_place, action_place, target_place}
use Rattle.job_layout.specs.JobTables.{outcomes, branch, tables_of}
use Rattle.job_file.specs.Reading.{Opened}
use Rattle.job_file.proofs.WellFormed.{tables_are, sound}
use Rattle.job_tables.specs.inner.Entries.{BytesOf}

module _ (s : List ℕ) {j : Job} (opened : Opened s j) {at : ℕ} where
  -- An action's mark.
  pub mark_is : (a : Action) → at ≡ mark_place j a → a < j.actions → not (eqb (byte s at) 0) ≡ moves_on (tables_of s) a
  mark_is a e a< =
      rw e
      (subst (λ (t : Tables). not (eqb (byte s (mark_place j a)) 0) ≡ moves_on t a) (tables_are s j opened)
      (rw (lt-ltb _ _ a<)))

  module _
      (a : Action) (w : WorldState) (c : ℕ) (e : at ≡ next_place j a w c) (a< : a < j.actions) (w< : w.0 < j.worlds)
      (c< : c < job_columns j) where
    cell_is : outcomes (byte s at) (byte s (at + 1)) ≡ (tables_of s).cell a w c
    cell_is =
        rw e
        (subst (λ (t : Tables). outcomes (byte s (next_place j a w c)) (byte s (result_place j a w c)) ≡ t.cell a w c) (tables_are s j opened)
        (rw (lt-ltb _ _ a<, lt-ltb _ _ w<, lt-ltb _ _ c<)))

    -- A cell's two bytes.
    pub bytes_are :
        BytesOf ((tables_of s).cell a w c) j.worlds (record { next = world_state (byte s at); result = byte s (at + 1) })
    bytes_are = record { are = cell_is; next_range = rw e ((sound s j opened).next_below a w c a< w< c<) }

  -- The mark of a world state among the starts.
  pub start_is : (w : WorldState) → at ≡ start_place j w → w.0 < j.worlds → eqb (byte s at) 1 ≡ (tables_of s).start w
  start_is w e w< = rw e (subst (λ (t : Tables). eqb (byte s (start_place j w)) 1 ≡ t.start w) (tables_are s j opened) (rw (lt-ltb _ _ w<)))

  -- A cell of the goal.
  pub goal_is :
      (w : WorldState) (c : ℕ) → at ≡ goal_place j w c → w.0 < j.worlds → c < job_columns j →
      eqb (byte s at) 1 ≡ (tables_of s).goal w c
  goal_is w c e w< c< =
      rw e
      (subst (λ (t : Tables). eqb (byte s (goal_place j w c)) 1 ≡ t.goal w c) (tables_are s j opened) (rw (lt-ltb _ _ w<, lt-ltb _ _ c<)))

  module _ (q : ProgramState) (e : at ≡ action_place j q) (q< : q.0 < j.states) where
    -- The action of a program state.
    pub action_is : byte s at ≡ (tables_of s).action q
    action_is = rw e (subst (λ (t : Tables). byte s (action_place j q) ≡ t.action q) (tables_are s j opened) (rw (lt-ltb _ _ q<)))

    module _ (r : Result) (r< : r < j.results) where
      target_is : branch (byte s (at + 1 + r)) ≡ (tables_of s).target q r
      target_is =
          rw e
          (subst (λ (t : Tables). branch (byte s (target_place j q r)) ≡ t.target q r) (tables_are s j opened) (rw (lt-ltb _ _ q<, lt-ltb _ _ r<)))

      -- Target 255 is no branch.
      pub no_target : byte s (at + 1 + r) ≡ 255 → None ≡ (tables_of s).target q r
      no_target is = sym (rw (eq-eqb _ _ is)) ∙ target_is

      -- Any other is a branch to the program state of that number.
      pub some_target : ¬ (byte s (at + 1 + r) ≡ 255) → Some (program_state (byte s (at + 1 + r))) ≡ (tables_of s).target q r
      some_target other = sym (rw (ne_eqb _ _ other)) ∙ target_is

-- A world state that is not below W is no start.
pub no_start : (s : List ℕ) {j : Job} → Opened s j → (w : WorldState) → j.worlds ≤ w.0 → false ≡ (tables_of s).start w
no_start s {j} opened w out = subst (λ (t : Tables). false ≡ t.start w) (tables_are s j opened) (rw (le-ltb _ _ out))
