use Rattle.std.proofs.Common.{rules}
use Rattle.job_tables.proofs.Ranges.{columns_few}
use Rattle.log_candidates.proofs.columns.Goals as goal

pub overflow_cast-result : goal.overflow_cast-result
overflow_cast-result c =
    search (rules, columns_few)

pub returns : goal.returns
returns c =
    search (rules, columns_few)
