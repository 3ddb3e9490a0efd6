use Rattle.std.proofs.Common.{length, ◌≡◌}
use Rattle.rule_worlds.proofs.WorldDigits.{Decoded}
use Rattle.rule_worlds.proofs.world_values.Given as goal

abbrev pub invariant-loop-i : goal.invariant-loop-i
invariant-loop-i l =
    record {
      digits : Decoded l.fn.counts l.fn.world.0 l.i l.weight l.rest l.values;
      long : length l.values ≡ length l.fn.values;
    }
