use Rattle.working_list.proofs.LineLoops.{Writing}
use Rattle.working_list.proofs.line.write_line.Given as goal

abbrev pub invariant-loop-at : goal.invariant-loop-at
invariant-loop-at l =
    Writing l.list l.initial.line l.member l.kind l.lamps l.line l.from l.lamp l.at
