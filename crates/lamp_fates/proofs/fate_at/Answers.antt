use Rattle.lamp_fates.proofs.WriteTurns.{entry_small, looked_up}
use Rattle.lamp_fates.proofs.fate_at.Goals as goal

pub entry_fate-requires : goal.entry_fate-requires
entry_fate-requires c =
    search entry_small

pub returns : goal.returns
returns c =
    search (looked_up, c.write_along.ensures)
