use Rattle.std.proofs.Common.{sym, ◌∙◌, arith}
use Rattle.lamp_line.proofs.Scan.{none_yet_start, none_yet_more, scan_finds}
use Rattle.world_cells.proofs.Columns.{cells_row_in}
use Rattle.world_cells.proofs.any_left.Goals as goal

pub loop-a-init : goal.loop-a-init
loop-a-init c =
    none_yet_start

pub any_undecided-requires : goal.any_undecided-requires
any_undecided-requires c =
    let a = c.args in
    let row = c.row_start.ensures in
    let columns = c.width.ensures in
    omega (arith, c.requires.0, cells_row_in a.sizes c.loop-a.a a.world.0 (omega arith) c.requires.1)

pub returns-then-any_undecided : goal.returns-then-any_undecided
returns-then-any_undecided c =
    scan_finds c.loop-a.invariant (omega arith)
    (rw (c.row_start.ensures, c.width.ensures) at (sym c.any_undecided.ensures ∙ c.if-any_undecided.true))

pub loop-a-preserved : goal.loop-a-preserved
loop-a-preserved c =
    none_yet_more c.loop-a.invariant (omega arith)
    (rw (c.row_start.ensures, c.width.ensures) at (sym c.any_undecided.ensures ∙ c.if-any_undecided.false))
