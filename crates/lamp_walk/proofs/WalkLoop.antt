-- The loop of the one-lamp walk: k steps are counted, the pair is in range, and the rest of the walk from the first pair is the
-- walk from here.
use Rattle.std.proofs.Common.{◌≡◌, sym, ap, ap₂, ◌∙◌, List, ℕ, ◌+◌, ◌*◌, ◌≤◌, ◌<◌, add-zero, arith}
use Rattle.lamp_line.specs.declared.FailureKind.TheVariants.{NotLegal, NoBranch, Circles, GoalFalse}
use Rattle.lamp_line.specs.declared.Ending.{Ending}
use Rattle.lamp_line.specs.declared.Ending.TheVariants.{Goal, Failure}
use Rattle.lamp_line.specs.declared.Pair.{Pair}
use Rattle.lamp_line.specs.Run.{Walk, ended, arrived, own_steps, act, walk, lamp_walk}
use Rattle.lamp_line.proofs.Products.{product_le}
use Rattle.run_laws.specs.inner.Pairs.{InRange}
use Rattle.run_laws.proofs.Actions.{stays_in_range}
use Rattle.run_laws.proofs.LoopLaws.{WalkOwes, walk_owes_start, walk_owes_stays, walk_owes_passes, walk_owes_ends, walk_owes_spent}
use Rattle.job_layout.specs.declared.Job.{Job}
use Rattle.job_layout.specs.JobTables.{tables_by, tables_of}
use Rattle.job_file.specs.Reading.{Opened}
use Rattle.job_file.proofs.WellFormed.{sound, tables_are}
use Rattle.job_tables.proofs.Ranges.{states_are, worlds_are, well_formed}
use Rattle.lamp_walk.specs.declared.Acted.{Acted}
use Rattle.lamp_walk.specs.declared.Acted.TheVariants as move
use Rattle.lamp_walk.specs.inner.Walking.{move_of, spent_ending}

-- The loop for the walk from p₀ at the column c has counted k steps and is at p.
pub record Walking (s : List ℕ) (j : Job) (c : ℕ) (p₀ : Pair) (k : ℕ) (p : Pair) : Type 0 where
  pub few : j.states * j.worlds ≤ 4096
  pub within : k ≤ j.states * j.worlds
  pub in_range : InRange (tables_by s j) p
  pub owes : WalkOwes (tables_of s) (j.states * j.worlds) c p₀ k p

-- No ending counts a step of its own.
pub counts_no_more : (x : Ending) (k : ℕ) → k ≡ k + own_steps x
unfolding own_steps
counts_no_more Goal k = sym (add-zero k)
counts_no_more (Failure NotLegal) k = sym (add-zero k)
counts_no_more (Failure NoBranch) k = sym (add-zero k)
counts_no_more (Failure Circles) k = sym (add-zero k)
counts_no_more (Failure GoalFalse) k = sym (add-zero k)

-- At most 4,096 steps are counted at a lamp.
pub few_steps : (s : List ℕ) (j : Job) → Opened s j → j.states * j.worlds ≤ 4096
few_steps s j opened =
    let laid = (sound s j opened).laid in
    product_le 64 64 j.states j.worlds laid.states_range laid.worlds_range.1

whole_walk :
    (s : List ℕ) {j : Job} → Opened s j → (c : ℕ) (p₀ : Pair) {v : Walk} → v ≡ walk (tables_of s) (j.states * j.worlds) p₀ c →
    v ≡ lamp_walk (tables_of s) p₀ c
whole_walk s {j} opened c p₀ e =
    e ∙ ap (λ (n : ℕ). walk (tables_of s) n p₀ c) (ap₂ ◌*◌ (states_are s j opened) (worlds_are s j opened))

module _ {s : List ℕ} {j : Job} {c : ℕ} {p₀ : Pair} (opened : Opened s j) where
  -- The loop begins.
  pub walking_start : p₀.state.0 ≤ j.states → p₀.world.0 < j.worlds → Walking s j c p₀ 0 p₀
  walking_start q≤ w< =
      record {
        few = few_steps s j opened;
        within = omega arith;
        in_range = record { state_range = q≤; world_range = w< };
        owes = walk_owes_start (tables_of s) _ c p₀;
      }

  module _ {k : ℕ} {p : Pair} (walking : Walking s j c p₀ k p) where
    -- No step is left: the walk is done, with all of them counted.
    pub walking_spent :
        {x : Ending} → j.states * j.worlds ≤ k → x ≡ spent_ending (tables_of s) p c →
        ended x (j.states * j.worlds) ≡ lamp_walk (tables_of s) p₀ c
    walking_spent n≤ e =
        let all : j.states * j.worlds ≡ k = omega arith in
        ap₂ ended e all ∙ whole_walk s opened c p₀ (walk_owes_spent (tables_of s) _ c p₀ k p walking.owes n≤)

    -- A step is left, and one action is made.
    module _ {step : Acted} (k< : k < j.states * j.worlds) (acts : move_of step ≡ act (tables_of s) p c) where
      -- It ends the run: the walk is done, with the steps that the ending counts.
      pub walking_ends :
          {x : Ending} {n : ℕ} → step ≡ move.Ends x → n ≡ k + own_steps x → ended x n ≡ lamp_walk (tables_of s) p₀ c
      walking_ends {x} is e =
          ap (ended x) e ∙ whole_walk s opened c p₀ (walk_owes_ends (tables_of s) _ c p₀ k p walking.owes k< x (ap move_of (sym is) ∙ acts))

      -- It passes the lamp: the walk is done, with one more step.
      pub walking_passes : {p' : Pair} → step ≡ move.Passes p' → arrived p' (k + 1) ≡ lamp_walk (tables_of s) p₀ c
      walking_passes {p'} is =
          whole_walk s opened c p₀ (walk_owes_passes (tables_of s) _ c p₀ k p walking.owes k< p' (ap move_of (sym is) ∙ acts))

      -- It stays: the loop goes on, with one more step.
      pub walking_stays : {p' : Pair} → step ≡ move.Stays p' → Walking s j c p₀ (k + 1) p'
      walking_stays {p'} is =
          let stayed = ap move_of (sym is) ∙ acts in
          record {
            few = walking.few;
            within = omega arith;
            in_range = rw (tables_are s j opened) (stays_in_range (tables_of s) (well_formed s j opened) p p' c stayed);
            owes = walk_owes_stays (tables_of s) _ c p₀ k p walking.owes k< p' stayed;
          }
