-- For the functions that take an opened job: its tables.
use Rattle.lamp_line.specs.Tables.{Tables}
use Rattle.job_layout.specs.JobTables.{tables_by}
use Rattle.job_tables.specs.declared.OpenJob.{OpenJob}

abbrev pub tables : OpenJob → Tables
tables job = tables_by job.file.now job.head
