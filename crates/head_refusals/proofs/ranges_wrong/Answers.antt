use Rattle.job_layout.specs.FileRefusals.{ranges_wrong}
use Rattle.head_refusals.proofs.ranges_wrong.Goals as goal

pub returns : goal.returns
unfolding ranges_wrong
returns c =
    rw (
      c.width.ensures,
      c.is_outside-4.ensures,
      c.is_outside-3.ensures,
      c.is_outside-2.ensures,
      c.is_outside.ensures,
    )
