-- For the functions of the reader: its answer once the first refusals are known not to apply.
use Rattle.std.specs.Prelude.{List, ℕ, drop}
use Rattle.lamp_line.specs.Refusals.{Answer, answer_by}
use Rattle.job_layout.specs.declared.Job.{Job}
use Rattle.job_file.specs.Reading.{refusals}

-- What the reader answers for a file to which the first n refusals do not apply.
unfoldable pub reading_from : ℕ → List ℕ → Job → Answer Job
reading_from n s j = answer_by (drop n (refusals s j)) j
