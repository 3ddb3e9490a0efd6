use Rattle.std.proofs.Common.{take, ◌+◌, ◌*◌, ◌≤◌}
use Rattle.answer_line.specs.AnswerLine.{numbers}
use Rattle.answer_line.specs.inner.Writing.{Appended}
use Rattle.answer_line.proofs.failure_line.Given as goal

abbrev pub invariant-loop-kind : goal.invariant-loop-kind
invariant-loop-kind l =
    (l.line.len ≤ l.initial.line.len + 11 * l.kind-index) × Appended l.initial.line (numbers (take l.kind-index l.kinds)) l.line
