use Rattle.std.proofs.Common.{rules}
use Rattle.line_trial.proofs.LineTried.{all_ends_tried}
use Rattle.line_trial.proofs.try_line.Goals as goal

pub returns-else-is_none : goal.returns-else-is_none
returns-else-is_none c =
    search (rules, all_ends_tried c.try_end.ensures c.in_ok-found.was c.if-is_none.ensures)
