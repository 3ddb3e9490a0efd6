-- The fate of a pair at a column: what the one-lamp walk answers, without the steps that it counts. And the ending of a run, without its steps.
use Rattle.lamp_line.specs.declared.Ending.{Ending}
use Rattle.lamp_line.specs.Run.{Walk, ended, arrived, Run, ran}

-- A walk's answer with its count set to 0.
abbrev pub uncounted : Walk → Walk
uncounted (ended x k) = ended x 0
uncounted (arrived p k) = arrived p 0

-- The ending of a run.
abbrev pub ending_of : Run → Ending
ending_of (ran x k) = x
