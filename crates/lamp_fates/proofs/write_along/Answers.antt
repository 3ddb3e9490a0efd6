use Rattle.std.proofs.Common.{◌+◌, ◌<◌, length, arith}
use Rattle.lamp_fates.proofs.WriteTurns.{following_starts, following_place, following_ends, following_on, linked_falls}
use Rattle.lamp_fates.proofs.write_along.Goals as goal

pub loop-column-init : goal.loop-column-init
loop-column-init c =
    search following_starts

pub overflow_add-place : goal.overflow_add-place
overflow_add-place c =
    let place_in : c.first_place-base.result + c.loop-column.number < length c.loop-column.memory = search following_place in
    omega (arith, place_in)

pub offset_bounds-memory-place : goal.offset_bounds-memory-place
offset_bounds-memory-place c =
    let place_in : c.first_place-base.result + c.loop-column.number < length c.loop-column.memory = search following_place in
    omega (arith, place_in)

pub bounds-memory-place : goal.bounds-memory-place
bounds-memory-place c =
    search following_place

pub offset_bounds-memory-place-in-loop-column : goal.offset_bounds-memory-place-in-loop-column
offset_bounds-memory-place-in-loop-column c =
    let place_in : c.first_place-base.result + c.loop-column.number < length c.loop-column.memory = search following_place in
    omega (arith, place_in)

pub bounds-memory-place-in-loop-column : goal.bounds-memory-place-in-loop-column
bounds-memory-place-in-loop-column c =
    search following_place

pub returns-then-next-lt-LINKS : goal.returns-then-next-lt-LINKS
returns-then-next-lt-LINKS c =
    search following_ends

pub loop-column-smaller : goal.loop-column-smaller
loop-column-smaller c =
    search linked_falls

pub loop-column-preserved : goal.loop-column-preserved
loop-column-preserved c =
    search following_on
