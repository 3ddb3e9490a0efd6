use Rattle.std.proofs.Common.{◌∙◌, sym, rules, ◌<◌, arith, eqb-true}
use Rattle.lamp_fates.proofs.WalkTurns.{leaving_starts, leaving_place, leaving_fits, leaving_on, unknown_falls}
use Rattle.lamp_fates.proofs.WalkTurns.{walked_known, walked_circles, walked_ends, walked_passes, walked_final, next_world_within, next_small}
use Rattle.lamp_fates.proofs.walk_to_fate.Goals as goal

pub loop-here-init : goal.loop-here-init
loop-here-init c =
    search leaving_starts

pub offset_bounds-memory-place : goal.offset_bounds-memory-place
offset_bounds-memory-place c =
    search leaving_fits

pub bounds-memory-place : goal.bounds-memory-place
bounds-memory-place c =
    search leaving_place

pub returns-then-entry-lt-LINKS : goal.returns-then-entry-lt-LINKS
returns-then-entry-lt-LINKS c =
    search walked_known

pub returns-then-entry-ne0 : goal.returns-then-entry-ne0
returns-then-entry-ne0 c =
    search walked_circles

pub returns-in-Ends : goal.returns-in-Ends
returns-in-Ends c =
    search walked_ends

pub returns-in-Passes : goal.returns-in-Passes
returns-in-Passes c =
    search walked_passes

pub judge-requires : goal.judge-requires
judge-requires c =
    search (rules, next_world_within)

pub returns-then-is_final : goal.returns-then-is_final
returns-then-is_final c =
    search (walked_final, eqb-true _ _ (sym c.is_final.ensures ∙ c.if-is_final.true))

pub overflow_cast-memory : goal.overflow_cast-memory
overflow_cast-memory c =
    let number_small : c.pair_number.result < 4160 = search next_small in
    omega (arith, number_small)

pub overflow_add-memory : goal.overflow_add-memory
overflow_add-memory c =
    let number_small : c.pair_number.result < 4160 = search next_small in
    omega (arith, number_small)

pub offset_bounds-memory-place-in-Stays : goal.offset_bounds-memory-place-in-Stays
offset_bounds-memory-place-in-Stays c =
    search leaving_fits

pub bounds-memory-place-in-Stays : goal.bounds-memory-place-in-Stays
bounds-memory-place-in-Stays c =
    search leaving_place

pub loop-here-smaller : goal.loop-here-smaller
loop-here-smaller c =
    search unknown_falls

pub loop-here-preserved : goal.loop-here-preserved
loop-here-preserved c =
    search leaving_on
