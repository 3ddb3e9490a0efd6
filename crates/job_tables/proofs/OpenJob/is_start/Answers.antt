use Rattle.std.proofs.Common.{◌∙◌, le-ltb}
use Rattle.job_layout.proofs.Bounds.{start_in}
use Rattle.job_tables.proofs.Lookups.{no_start, start_is}
use Rattle.job_tables.proofs.Ranges.{laid_out}
use Rattle.job_tables.proofs.OpenJob.is_start.Goals as goal

-- The start's place lies in the file, and its byte is the table's.
pub bounds-self-start_place : goal.bounds-self-start_place
bounds-self-start_place c =
    search (start_in, laid_out)

pub returns-then-world-self : goal.returns-then-world-self
returns-then-world-self c =
    search start_is

pub returns-else-world-self : goal.returns-else-world-self
returns-else-world-self c =
    le-ltb _ _ c.if-world-self.false ∙ search no_start
