use Rattle.job_layout.specs.FileRefusals.{length_wrong}
use Rattle.head_refusals.proofs.length_wrong.Goals as goal

pub returns : goal.returns
unfolding length_wrong
returns c =
    rw (
      c.has_other_length-5.ensures,
      c.plan_length.ensures,
      c.has_other_length-4.ensures,
      c.goal_count.ensures,
      c.has_other_length-3.ensures,
      c.has_other_length-2.ensures,
      c.cell_count.ensures,
      c.has_other_length.ensures,
    )
