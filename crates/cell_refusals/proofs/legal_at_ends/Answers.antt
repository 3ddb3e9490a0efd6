use Rattle.std.proofs.Common.{◌∙◌, sym, arith, rules}
use Rattle.lamp_line.specs.Tables.{kinds_of_ends}
use Rattle.lamp_line.proofs.Scan.{none_yet_start, none_yet_more, scan_finds, scan_ends}
use Rattle.cell_refusals.proofs.legal_at_ends.Goals as goal

pub loop-end-init : goal.loop-end-init
loop-end-init c =
    none_yet_start

pub legal_at_end-requires : goal.legal_at_end-requires
unfolding kinds_of_ends
legal_at_end-requires c =
    search rules

pub returns-then-legal_at_end : goal.returns-then-legal_at_end
unfolding kinds_of_ends
returns-then-legal_at_end c =
    scan_finds c.loop-end.invariant (omega arith) (sym c.legal_at_end.ensures ∙ c.if-legal_at_end.true)

pub loop-end-preserved : goal.loop-end-preserved
unfolding kinds_of_ends
loop-end-preserved c =
    none_yet_more c.loop-end.invariant (omega arith) (sym c.legal_at_end.ensures ∙ c.if-legal_at_end.false)

pub returns-else-legal_at_end : goal.returns-else-legal_at_end
unfolding kinds_of_ends
returns-else-legal_at_end c =
    scan_ends (none_yet_more c.loop-end.invariant (omega arith) (sym c.legal_at_end.ensures ∙ c.if-legal_at_end.false)) (omega arith)
