use Rattle.line_run.proofs.RunLoop.{lamp_column_small}
use Rattle.line_run.proofs.column_of.Goals as goal

pub lamp_column-requires : goal.lamp_column-requires
lamp_column-requires c =
    search lamp_column_small
