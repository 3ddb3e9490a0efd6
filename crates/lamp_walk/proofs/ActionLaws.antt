-- What one action does, given what the code has read from the file.
use Rattle.std.proofs.Common.{◌≡◌, sym, ap, ◌∙◌, Bool, true, false, List, ℕ, ◌<◌, Option, None, Some, eqb, ne_eqb, arith}
use Rattle.plans.specs.Plan.{Action}
use Rattle.lamp_line.specs.declared.ProgramState.{ProgramState}
use Rattle.lamp_line.specs.declared.Pair.{Pair}
use Rattle.lamp_line.specs.declared.FailureKind.TheVariants as failure
use Rattle.lamp_line.specs.declared.Ending.{Ending}
use Rattle.lamp_line.specs.declared.Ending.TheVariants.{Failure}
use Rattle.lamp_line.specs.Tables.{moves_on}
use Rattle.lamp_line.specs.Run.{pair, ends, stays, passes, judged, act}
use Rattle.job_layout.specs.declared.Job.{Job}
use Rattle.job_layout.specs.JobTables.{tables_of}
use Rattle.job_file.specs.Reading.{Opened}
use Rattle.job_tables.specs.declared.CellBytes.{CellBytes}
use Rattle.job_tables.specs.inner.Entries.{outcomes_of}
use Rattle.job_tables.proofs.Ranges.{states_are}
use Rattle.lamp_walk.specs.inner.Walking.{spent_ending}

module _ (s : List ℕ) {j : Job} (opened : Opened s j) (p : Pair) (c : ℕ) where
  tested : {b : Bool} → eqb p.state.0 j.states ≡ b → eqb p.state.0 (tables_of s).states ≡ b
  tested test = ap (λ (n : ℕ). eqb p.state.0 n) (sym (states_are s j opened)) ∙ test

  -- State S: the run ends.
  pub acts_final : {x : Ending} → eqb p.state.0 j.states ≡ true → x ≡ judged (tables_of s) p.world c → ends x ≡ act (tables_of s) p c
  unfolding act
  acts_final final is = rw (tested final) (ap ends is)

  -- Where no step is left, state S is judged.
  pub spent_final : {x : Ending} → eqb p.state.0 j.states ≡ true → x ≡ judged (tables_of s) p.world c → x ≡ spent_ending (tables_of s) p c
  spent_final final is = rw (tested final) is

  -- Any other state has circled.
  pub spent_circles : eqb p.state.0 j.states ≡ false → Failure failure.Circles ≡ spent_ending (tables_of s) p c
  spent_circles other = rw (tested other)

  live : p.state.0 < j.states → eqb p.state.0 (tables_of s).states ≡ false
  live q< = ne_eqb p.state.0 (tables_of s).states (λ e. omega (arith, states_are s j opened))

  -- Any other state: its action, and the cell of the action, are read.
  module _
      {a : Action} {cell : Option CellBytes} (q< : p.state.0 < j.states) (acts : a ≡ (tables_of s).action p.state)
      (read : outcomes_of cell ≡ (tables_of s).cell a p.world c) where
    -- The cell is not legal: failure 1.
    pub acts_not_legal : cell ≡ None → ends (Failure failure.NotLegal) ≡ act (tables_of s) p c
    unfolding act
    acts_not_legal is = rw (live q<, sym acts, sym read, is)

    -- The cell is legal, and the branch of its result is read.
    module _
        {bytes : CellBytes} {target : Option ProgramState} (legal : cell ≡ Some bytes)
        (branch : target ≡ (tables_of s).target p.state bytes.result) where
      -- There is no branch: failure 2.
      pub acts_no_branch : target ≡ None → ends (Failure failure.NoBranch) ≡ act (tables_of s) p c
      unfolding act
      acts_no_branch is = rw (live q<, sym acts, sym read, legal, sym branch, is)

      -- The branch has a target, and the action's mark is read.
      module _ {q' : ProgramState} {moves : Bool} (to : target ≡ Some q') (mark : moves ≡ moves_on (tables_of s) a) where
        -- The action moves on.
        pub acts_passes : moves ≡ true → passes (pair q' bytes.next) ≡ act (tables_of s) p c
        unfolding act
        acts_passes is = rw (live q<, sym acts, sym read, legal, sym branch, to, sym acts, sym mark, is)

        -- It does not.
        pub acts_stays : moves ≡ false → stays (pair q' bytes.next) ≡ act (tables_of s) p c
        unfolding act
        acts_stays is = rw (live q<, sym acts, sym read, legal, sym branch, to, sym acts, sym mark, is)
