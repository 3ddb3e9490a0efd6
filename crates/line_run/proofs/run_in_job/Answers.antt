use Rattle.std.proofs.Common.{arith, rules}
use Rattle.job_tables.proofs.Ranges.{columns_few}
use Rattle.line_run.proofs.RunLoop.{running_column_in, running_start, running_ends, running_at_lamp, running_passes, running_stopped, rest_shorter}
use Rattle.line_run.proofs.run_in_job.Goals as goal

pub loop-ending-init : goal.loop-ending-init
loop-ending-init c =
    search running_start

pub column_of-column-requires : goal.column_of-column-requires
column_of-column-requires c =
    search columns_few

pub walk_in_job-requires : goal.walk_in_job-requires
walk_in_job-requires c =
    search (rules, running_column_in)

pub returns-in-Ended : goal.returns-in-Ended
returns-in-Ended c =
    search running_ends

pub returns-then-limit-k : goal.returns-then-limit-k
returns-then-limit-k c =
    running_stopped c.args.job.now.opened c.loop-ending.invariant c.walk_in_job.result c.column_of-column.ensures
    c.walk_in_job.ensures c.in-Arrived.is (omega arith)

pub slice_bounds-rest-count : goal.slice_bounds-rest-count
slice_bounds-rest-count c =
    search running_at_lamp

pub slice_bounds-rest-start : goal.slice_bounds-rest-start
slice_bounds-rest-start c =
    search running_at_lamp

pub loop-ending-smaller : goal.loop-ending-smaller
loop-ending-smaller c =
    search (rest_shorter, running_at_lamp)

pub loop-ending-preserved : goal.loop-ending-preserved
loop-ending-preserved c =
    search running_passes
