-- What is read from the tables of a file that is not refused is in range, in terms of the job that the reader answered.
use mathlib.Core.Path.{◌≡◌, refl, sym, ap, subst}
use mathlib.Core.Logic.{inl}
use mathlib.Core.List.{List, [], ◌∷◌}
use Prim.Native.Nat.{ℕ, ◌≤◌, ◌<◌}
use Rattle.plans.specs.Plan.{Action}
use Rattle.lamp_line.specs.declared.ProgramState.{ProgramState}
use Rattle.lamp_line.specs.declared.WorldState.{WorldState}
use Rattle.lamp_line.specs.Lists.{◌∈◌}
use Rattle.lamp_line.specs.Tables.{Outcome, outcome}
use Rattle.lamp_line.specs.inner.WellFormed.{WellFormed}
use Rattle.job_layout.specs.declared.Job.{Job}
use Rattle.job_layout.specs.Layout.{job_columns}
use Rattle.job_layout.specs.JobTables.{tables_of}
use Rattle.job_layout.specs.inner.Laid.{Laid}
use Rattle.job_file.specs.Reading.{Opened}
use Rattle.job_file.proofs.WellFormed.{sound}
use Rattle.std.specs.Prelude.{Option, Some}
use Rattle.job_tables.specs.declared.CellBytes.{CellBytes}
use Rattle.job_tables.specs.inner.Entries.{outcomes_of}

-- The file is laid out as it must be.
pub laid_out : (s : List ℕ) (j : Job) → Opened s j → Laid s j
laid_out s j opened = (sound s j opened).laid

-- The only outcome of a cell is one of its outcomes.
pub first_in : (x : Outcome) → x ∈ (x ∷ [])
unfolding ◌∈◌
first_in x = inl refl

module _ (s : List ℕ) (j : Job) (opened : Opened s j) where
  -- The numbers of the tables are those of the job.
  pub actions_are : j.actions ≡ (tables_of s).actions
  actions_are = ap (λ (h : Job). h.actions) (sound s j opened).is_head

  pub states_are : j.states ≡ (tables_of s).states
  states_are = ap (λ (h : Job). h.states) (sound s j opened).is_head

  pub worlds_are : j.worlds ≡ (tables_of s).worlds
  worlds_are = ap (λ (h : Job). h.worlds) (sound s j opened).is_head

  pub kinds_are : j.kinds ≡ (tables_of s).kinds
  kinds_are = ap (λ (h : Job). h.kinds) (sound s j opened).is_head

  pub ends_are : j.ends ≡ (tables_of s).ends
  ends_are = ap (λ (h : Job). h.ends) (sound s j opened).is_head

  pub results_are : j.results ≡ (tables_of s).results
  results_are = ap (λ (h : Job). h.results) (sound s j opened).is_head

  pub first_is : j.first ≡ (tables_of s).first
  first_is = ap (λ (h : Job). h.first) (sound s j opened).is_head

  -- There are at most sixteen columns.
  pub columns_few : job_columns j ≤ 16
  columns_few = (laid_out s j opened).columns_range

  -- The tables are well formed.
  pub well_formed : WellFormed (tables_of s)
  well_formed = (sound s j opened).well_formed

  -- The action of a program state that is not final is below A.
  pub action_below : (q : ProgramState) (a : Action) → q.0 < j.states → a ≡ (tables_of s).action q → a < j.actions
  action_below q a q< e =
      rw e (subst (λ (n : ℕ). (tables_of s).action q < n) (sym actions_are)
      (well_formed.formed.action_range q (subst (λ (n : ℕ). q.0 < n) states_are q<)))

  -- The result of a legal cell is below R.
  pub result_below :
      (a : Action) (w : WorldState) (c : ℕ) {cell : Option CellBytes} {bytes : CellBytes} →
      outcomes_of cell ≡ (tables_of s).cell a w c → cell ≡ Some bytes → bytes.result < j.results
  result_below a w c {bytes = bytes} read legal =
      rw results_are (well_formed.formed.result_range a w bytes.next c bytes.result
      (rw (← read, legal) (first_in (outcome bytes.next bytes.result))))
