use Rattle.std.proofs.Common.{List, ℕ, ◌≡◌, ◌≤◌, length, sym, ◌∙◌, arith, length-take-le}
use Rattle.job_layout.specs.declared.Sizes.{Sizes}
use Rattle.rules_file.specs.RulesFile.{fluent_bytes}
use Rattle.rules_file.proofs.RuleBytes.{fluent_bytes_length}
use Rattle.rules_file.proofs.RulesTested.{RulesRight, rules_right}
use Rattle.world_cells.proofs.RulesApplied.{applied_more, applied_done, applied_early}
use Rattle.world_cells.proofs.fill_world.Goals as goal

-- There are at most six counts.
counts_few : {s : List ℕ} {n : Sizes} → RulesRight s n → {counts : List ℕ} → counts ≡ fluent_bytes s 1 → length counts ≤ 6
counts_few {s} right are = rw are (omega (arith, fluent_bytes_length s 1 right.counts_in, right.fluents_range.1))

pub world_values-requires : goal.world_values-requires
world_values-requires c =
    let right = rules_right _ _ c.args.rules.now.right in (
      omega (arith, counts_few right c.counts-counts.ensures),
      rw c.counts-counts.ensures (sym right.product),
      omega (arith, right.sizes.worlds.0, right.sizes.worlds.1),
    )

pub returns-then-not-any_left : goal.returns-then-not-any_left
returns-then-not-any_left c = applied_early c.loop-i.invariant (sym c.any_left.ensures ∙ c.if-not-any_left.true)

pub slice_bounds-values-end : goal.slice_bounds-values-end
slice_bounds-values-end c =
    omega (arith, counts_few (rules_right _ _ c.args.rules.now.right) c.counts-counts.ensures, c.world_values.auto.values)

pub slice_bounds-apply_rule-end : goal.slice_bounds-apply_rule-end
slice_bounds-apply_rule-end c =
    sym
    (length-take-le (length c.counts-counts.result.now) c.world_values.new.values
    (omega (arith, counts_few (rules_right _ _ c.args.rules.now.right) c.counts-counts.ensures, c.world_values.auto.values)))

pub loop-i-preserved : goal.loop-i-preserved
loop-i-preserved c = applied_more c.args.rules.now.right c.loop-i.invariant (omega arith) c.apply_rule.ensures

pub returns : goal.returns
returns c = applied_done c.loop-i.invariant (omega arith)
