use Rattle.job_layout.specs.FileRefusals.{place_wrong}
use Rattle.head_refusals.proofs.place_wrong.Goals as goal

pub returns : goal.returns
unfolding place_wrong
returns c =
    rw (
      c.is_misplaced-5.ensures,
      c.end_of-4.ensures,
      c.is_misplaced-4.ensures,
      c.end_of-3.ensures,
      c.is_misplaced-3.ensures,
      c.end_of-2.ensures,
      c.is_misplaced-2.ensures,
      c.end_of.ensures,
      c.is_misplaced.ensures,
    )
