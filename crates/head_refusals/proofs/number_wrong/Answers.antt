use Rattle.job_layout.specs.FileRefusals.{number_wrong}
use Rattle.head_refusals.proofs.number_wrong.Goals as goal

pub returns : goal.returns
unfolding number_wrong
returns c =
    rw (
      c.is_outside-3.ensures,
      c.is_outside-2.ensures,
      c.is_outside.ensures,
      c.ranges_wrong.ensures,
      c.sizes.ensures,
    )
