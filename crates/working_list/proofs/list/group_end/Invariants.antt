use Rattle.working_list.proofs.GroupEnds.{GroupSoFar}
use Rattle.working_list.proofs.list.group_end.Given as goal

abbrev pub invariant-loop-to : goal.invariant-loop-to
invariant-loop-to l =
    GroupSoFar l.list l.count l.from l.to
