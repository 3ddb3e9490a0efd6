-- Runs after a check: if it accepts, every run ends in Goal; if it fails the plan, the run along its line ends in its failure.
use Rattle.std.proofs.Common.{refl, List, ℕ, arith}
use Rattle.plans.specs.Execution.{Correct}
use Rattle.lamp_line.specs.declared.WorldState.{WorldState}
use Rattle.lamp_line.specs.declared.Ending.{Ending}
use Rattle.lamp_line.specs.declared.Ending.TheVariants.{Goal, Failure}
use Rattle.lamp_line.specs.Tables.{Line, lamp_problem, plan_of, final}
use Rattle.lamp_line.specs.Endings.{Ends, Leads}
use Rattle.lamp_line.specs.Check.{situation}
use Rattle.check_laws.proofs.RunLeads.{leads_run}
use Rattle.job_layout.specs.Layout.{head}
use Rattle.job_layout.specs.JobTables.{tables_of}
use Rattle.job_tables.proofs.Ranges.{well_formed}
use Rattle.lamp_walk.proofs.WalkLoop.{few_steps}
use Rattle.guarantee.specs.CheckPromises.{RunEnds, AcceptedRuns, FailedRuns}
use Rattle.line_refusals.proofs.Unrefused.{UnrefusedLine}
use Rattle.guarantee.proofs.RunsDecide.{ends_so, few_counted}
use Rattle.guarantee.proofs.CheckMeans.{accepted_means, failed_means}

-- An ending of the execution is that of the run.
pub run_ends :
    {s : List ℕ} {start : WorldState} {line : Line} → UnrefusedLine s start line → (x : Ending) →
    Leads (lamp_problem (tables_of s)) (plan_of (tables_of s)) x (tables_of s).first (situation start line) →
    RunEnds s start line x
run_ends {s} {start} {line} unrefused x leads =
    let (k, e) = leads_run (tables_of s) (well_formed s (head s) unrefused.opened) start line unrefused.beginning x leads in
    record { steps = k; few = few_counted unrefused x k e; ends = λ limit k≤. ends_so unrefused limit x k e k≤ }

pub accepted_runs : AcceptedRuns
unfolding Leads Correct Ends
accepted_runs s count before after checked start line beginning few =
    let (opened, accepts) = accepted_means s before after count checked in
    let (ls, last, execution, goal) = accepts.correct (situation start line) beginning in
    run_ends (record { opened = opened; beginning = beginning; few = few }) Goal (ls, final (tables_of s), last, execution, (refl, goal))

pub failed_runs : FailedRuns
failed_runs s f before after checked =
    let (opened, example) = failed_means s before after f checked in
    run_ends
    (record {
      opened = opened;
      beginning = example.fails.beginning;
      few = omega (arith, example.short, few_steps s (head s) opened);
    })
    (Failure f.kind) example.fails.leads
