use mathlib.Core.Path.{sym, ◌∙◌}
use Rattle.head_refusals.proofs.HeadLaws.{laid}
use Rattle.job_file.proofs.ReadingLaws.{size_refused, number_refused, place_refused, length_refused, head_read}
use Rattle.job_file.proofs.read_job.Goals as goal

-- Each test is the next refusal's, and a file that passes the head's tests is laid out as it must be.
pub returns-then-size : goal.returns-then-size
returns-then-size c =
    search size_refused

pub returns-then-number_wrong : goal.returns-then-number_wrong
returns-then-number_wrong c =
    search number_refused

pub returns-then-place_wrong : goal.returns-then-place_wrong
returns-then-place_wrong c =
    search place_refused

pub returns-then-length_wrong : goal.returns-then-length_wrong
returns-then-length_wrong c =
    search length_refused

pub invariant_of-read_parts : goal.invariant_of-read_parts
invariant_of-read_parts c =
    record {
      laid = laid _ _ (sym c.number_wrong.ensures ∙ c.if-number_wrong.false)
          (sym c.place_wrong.ensures ∙ c.if-place_wrong.false)
          (sym c.length_wrong.ensures ∙ c.if-length_wrong.false);
    }

pub returns : goal.returns
returns c =
    search head_read
