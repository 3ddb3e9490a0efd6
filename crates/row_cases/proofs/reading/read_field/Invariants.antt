-- What has been written so far is within the buffer.
use Rattle.std.proofs.Common.{◌≤◌, length}
use Rattle.row_cases.proofs.reading.read_field.Given as goal

abbrev pub invariant-loop : goal.invariant-loop
invariant-loop g l = l.size ≤ length l.buffer
