-- What an answer of the one-lamp walk (01, "One run", at one lamp) says about the execution of 001.
use Rattle.std.specs.Prelude.{◌≡◌, true, List, ◌+◌, ◌*◌, length}
use Rattle.plans.specs.Execution.{Label, action_of, Step, T*, Forever}
use Rattle.lamp_line.specs.declared.ProgramState.{ProgramState}
use Rattle.lamp_line.specs.declared.FailureKind.TheVariants.{Circles}
use Rattle.lamp_line.specs.declared.Ending.{Ending}
use Rattle.lamp_line.specs.declared.Ending.TheVariants.{Failure}
use Rattle.lamp_line.specs.Tables.{Tables, Line, Situation, moves_on, passed, lamp_theory, lamp_problem, plan_of}
use Rattle.lamp_line.specs.Endings.{Ends}
use Rattle.lamp_line.specs.declared.Pair.{Pair}
use Rattle.lamp_line.specs.Run.{Walk, ended, arrived, own_steps}
use Rattle.lamp_line.specs.Check.{situation}

module _ (t : Tables) where
  -- The situation of a pair, on a line.
  abbrev pub pair_situation : Pair → Line → Situation
  pair_situation p line = situation p.world line

  -- The execution from p by the labels ls reaches p' without passing a lamp.
  abbrev pub StaysAt : Line → Pair → List Label → Pair → Type 0
  StaysAt line p ls p' =
      T* (lamp_theory t) (plan_of t) ls p.state (pair_situation p line) p'.state (pair_situation p' line)

  -- What a walk from p, at the first lamp of a line or at the line's end, says about the execution from there: it comes to rest at
  -- this lamp, or goes on for ever without passing a lamp, or passes the lamp and arrives with the pair p'.
  pub data WalkSays (line : Line) (p : Pair) : Walk → Type 0 where
    rests :
        {x : Ending} {ls : List Label} {p' : Pair} →
        StaysAt line p ls p' → Ends (lamp_problem t) (plan_of t) x p'.state (pair_situation p' line) →
        WalkSays line p (ended x (length ls + own_steps x))
    circles :
        Forever (lamp_theory t) (plan_of t) p.state (pair_situation p line) →
        ((ls : List Label) (q : ProgramState) (s : Situation) →
        T* (lamp_theory t) (plan_of t) ls p.state (pair_situation p line) q s → s.rest ≡ line) →
        WalkSays line p (ended (Failure Circles) (t.states * t.worlds))
    arrives :
        {ls : List Label} {last p' : Pair} {l : Label} →
        StaysAt line p ls last →
        Step (lamp_theory t) (plan_of t) last.state (pair_situation last line) l p'.state (pair_situation p' (passed line)) →
        moves_on t (action_of l) ≡ true → WalkSays line p (arrived p' (length ls + 1))
