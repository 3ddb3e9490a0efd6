-- The candidates, entry by entry: those that `FirstCandidates` and `NextCandidates` give are just those at which the executions that
-- give the log can be. For each candidate the rest of the line is still free: a lamp that is passed is put before it.
use mathlib.Core.Path.{◌≡◌, refl, sym, ap, ◌∙◌}
use mathlib.Core.Logic.{◌↔◌}
use mathlib.Core.Bool.{Bool, true, false}
use mathlib.Core.List.{List, [], ◌∷◌, ◌++◌}
use Prim.Native.Nat.{ℕ, ◌<◌}
use Rattle.plans.specs.Execution.{Label, action_of, result_of, Step, here, join, step}
use Rattle.plans.proofs.Executions.{nothing_done, last_step}
use Rattle.lamp_line.specs.declared.ProgramState.{ProgramState}
use Rattle.lamp_line.specs.declared.WorldState.{WorldState}
use Rattle.lamp_line.specs.Lists.{◌∈◌}
use Rattle.lamp_line.specs.Tables.{outcome, Tables, Line, Situation, Fits, kinds_of_ends, column, moves_on, rest_after, lamp_theory, plan_of}
use Rattle.lamp_line.specs.inner.WellFormed.{WellFormed}
use Rattle.lamp_line.specs.Check.{situation}
use Rattle.lamp_line.specs.Replay.{Possible}
use Rattle.lamp_line.proofs.Members.{none_in_empty}
use Rattle.run_laws.proofs.Steps.{rest_fits}
use Rattle.log_laws.specs.inner.Candidates.{Candidates, LeadsTo, FirstCandidates, NextCandidates, NextEntry, Stuck, GoesOn, Follows}
use Rattle.run_laws.proofs.Columns.{column_is_below, lamp_before, some_column, line_at}

module _ (t : Tables) where
  -- What gives a log leads somewhere.
  leads_somewhere : {log : List Label} → Possible t log → (q : ProgramState) × (w : WorldState) × (rest : Line) × LeadsTo t log q w rest
  leads_somewhere (start, line, given) = (
    given.state,
    given.at.world,
    given.at.rest,
    record { start = start; line = line; beginning = given.beginning; execution = given.execution },
  )

  -- The line that is left is one of the job's.
  left_fits : {log : List Label} {q : ProgramState} {w : WorldState} {rest : Line} → LeadsTo t log q w rest → Fits t rest
  left_fits to = rest_fits t to.execution to.beginning.fits

  module _ {log : List Label} {q : ProgramState} {Held : Candidates} (follows : Follows t log q Held) where
    -- The log is possible.
    pub follows_possible : Possible t log
    follows_possible =
        let (w, c, held) = follows.some_candidate in
        let at = line_at t (follows.at_column held) in
        let to = follows.led held at.line at.fits at.is_column in (
          to.start,
          to.line,
          record { beginning = to.beginning; state = q; at = situation w at.line; execution = to.execution },
        )

    -- The last entry of a log that leads somewhere had what it needs.
    entry_led :
        {l : Label} {q' : ProgramState} {w : WorldState} {rest : Line} → LeadsTo t (log ++ (l ∷ [])) q' w rest →
        NextEntry t q Held l q' w (column t rest)
    entry_led {l} {q'} {w} {rest} to =
        let by = last_step (lamp_theory t) (plan_of t) log to.execution in
        let (same, held) =
        follows.all (record { start = to.start; line = to.line; beginning = to.beginning; execution = by.before }) in
        record {
          live = λ ended. by.last.live (same ∙ ended);
          acts = by.last.acts ∙ ap t.action same;
          branch = rw same at by.last.branch;
          next =
              record {
                world = by.at.world;
                at = column t by.at.rest;
                candidate = held;
                leads = rw by.last.acts by.last.does.0;
                is_column = column_is_below t (left_fits to);
                stays = λ staying.
                    let same_rest : rest ≡ by.at.rest = rw (sym by.last.acts, staying) at by.last.does.1 in
                    cc;
              };
        }

    -- So with an entry that cannot be made the log is impossible.
    pub stuck_impossible : {l : Label} → Stuck t q Held l → ¬ (Possible t (log ++ (l ∷ [])))
    stuck_impossible stuck possible =
        let (q', w, rest, to) = leads_somewhere possible in
        stuck q' w (column t rest) (entry_led to)

  -- Before the first entry.
  pub follows_start :
      WellFormed t → {Held : Candidates} → ((w : WorldState) (c : ℕ) → Held w c ↔ FirstCandidates t w c) →
      Follows t [] t.first Held
  follows_start wf {Held} first =
      record {
        led = λ {w} {c} held rest fits is_column.
            record {
              start = w;
              line = rest;
              beginning = record { marked = ((first w c).0 held).0; fits = fits };
              execution = here;
            };
        all = λ {q'} {w} {rest} to.
            let (same_state, same_situation) = nothing_done (lamp_theory t) (plan_of t) to.execution in
            let same_world : to.start ≡ w = ap (λ (s : Situation). s.world) same_situation in
            (sym same_state, (first w (column t rest)).1 (rw same_world at to.beginning.marked, column_is_below t (left_fits to)));
        at_column = λ {w} {c} held. ((first w c).0 held).1;
        some_candidate = let (w, marked) = wf.formed.some_start in (w, 0, (first w 0).1 (marked, some_column t));
      }

  -- One more entry that can be made.
  module _
      (wf : WellFormed t) {log : List Label} {q q' : ProgramState} {From Held : Candidates} {l : Label} (follows : Follows t log q From)
      (on : GoesOn t q From l q' Held)
    where
      -- The step from a candidate, along a line that is at its column.
      next_led :
          {w w' : WorldState} {c : ℕ} {line rest : Line} → From w c → outcome w' (result_of l) ∈ t.cell (action_of l) w c →
          Fits t line → column t line ≡ c → rest ≡ rest_after t (action_of l) line → LeadsTo t (log ++ (l ∷ [])) q' w' rest
      next_led {w} {w'} {c} {line} {rest} candidate leads fits is_column is_rest =
          let to = follows.led candidate line fits is_column in
          let taken : Step (lamp_theory t) (plan_of t) q (situation w line) l q' (situation w' rest) =
          record {
            live = on.live;
            acts = on.acts;
            does = (rw (is_column, sym on.acts) leads, rw (sym on.acts) is_rest);
            branch = on.branch;
          } in
          record { start = to.start; line = to.line; beginning = to.beginning; execution = join to.execution (step taken) }

      -- Whatever line is still to come: if the action moves on, the lamp that it passes is put before that line.
      next_led_on :
          {w : WorldState} {c : ℕ} {rest : Line} → NextCandidates t From l w c → Fits t rest → column t rest ≡ c →
          (b : Bool) → moves_on t (action_of l) ≡ b → LeadsTo t (log ++ (l ∷ [])) q' w rest
      next_led_on n fits is_column true moving =
          let at_lamp : ¬ (n.at < kinds_of_ends t.ends) =
          λ is_end. none_in_empty _ _ (wf.formed.end_stays (action_of l) n.world n.at moving is_end) n.leads in
          let before = lamp_before t fits (follows.at_column n.candidate) at_lamp in
          next_led n.candidate n.leads before.fits before.is_column (rw moving (sym before.is_rest))
      next_led_on n fits is_column false staying =
          next_led n.candidate n.leads fits (is_column ∙ n.stays staying) (rw staying)

      pub follows_next : Follows t (log ++ (l ∷ [])) q' Held
      follows_next =
          record {
            led = λ {w} {c} held rest fits is_column. next_led_on ((on.next w c).0 held) fits is_column (moves_on t (action_of l)) refl;
            all = λ {w = w} {rest = rest} to.
                let entry = entry_led follows to in
                let same = sym entry.branch ∙ on.branch in
                (cc, (on.next w (column t rest)).1 entry.next);
            at_column = λ {w} {c} held. ((on.next w c).0 held).is_column;
            some_candidate = on.some_next;
          }
