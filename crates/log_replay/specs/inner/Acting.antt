-- For the functions of the replay: the test of an entry's action, and what following an entry comes to.
use Rattle.std.specs.Prelude.{◌≡◌, Bool, ◌&&◌, not, List, ℕ, eqb, Option, None, Some}
use Rattle.plans.specs.Plan.{Action}
use Rattle.plans.specs.Execution.{Label}
use Rattle.lamp_line.specs.declared.ProgramState.{ProgramState}
use Rattle.lamp_line.specs.Tables.{Tables}
use Rattle.lamp_line.specs.Run.{is_final}
use Rattle.job_layout.specs.declared.Job.{Job}
use Rattle.log_laws.specs.inner.Candidates.{Stuck, GoesOn}
use Rattle.log_candidates.specs.inner.WorldSets.{Holds}

-- The plan acts so in this program state: it has not ended, and this is its action.
abbrev pub acts_so : Tables → ProgramState → Action → Bool
acts_so t q a = not (is_final t q) && eqb a (t.action q)

-- What following an entry in this program state answers, and the words before and after it: none if it cannot be made; otherwise the
-- program state to which it leads, and the words hold the candidates before and after.
pub record Followed (t : Tables) (j : Job) (q : ProgramState) (l : Label) (target : Option ProgramState) (before after : List ℕ) : Type 0 where
  pub stuck : target ≡ None → Stuck t q (Holds j before) l
  pub goes_on : (q' : ProgramState) → target ≡ Some q' → GoesOn t q (Holds j before) l q' (Holds j after)
