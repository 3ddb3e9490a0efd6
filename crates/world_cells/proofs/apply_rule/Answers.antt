use Rattle.std.proofs.Common.{arith, sym, ◌∙◌}
use Rattle.world_cells.proofs.RuleApplied.{wants_asked, new_world_asked, rule_cells_in, applied_here, applied_not_here}
use Rattle.world_cells.proofs.apply_rule.Goals as goal

pub wants-requires : goal.wants-requires
wants-requires c =
    let r = c.args.rules.now in
    wants_asked r.bytes.now r.sizes r.right c.requires.1 c.requires.2 c.requires.3 c.rule-rule.ensures

pub returns-then-not-wants : goal.returns-then-not-wants
returns-then-not-wants c =
    let r = c.args.rules.now in
    applied_not_here r.bytes.now r.sizes r.right c.requires.3 c.rule-rule.ensures (sym c.wants.ensures ∙ c.if-not-wants.true)

pub new_world-next-requires : goal.new_world-next-requires
new_world-next-requires c =
    let r = c.args.rules.now in
    new_world_asked r.bytes.now r.sizes r.right c.requires.1 c.requires.2 c.requires.3 c.rule-rule.ensures c.counts.ensures

pub overflow_add-first : goal.overflow_add-first
overflow_add-first c =
    let r = c.args.rules.now in
    let cells = rule_cells_in r.bytes.now r.sizes r.right c.requires.1 c.requires.2 c.requires.3 c.rule-rule.ensures c.args.part.now c.requires.0 (omega arith) in
    omega (arith, cells.0, cells.1, cells.2)

pub overflow_add-end : goal.overflow_add-end
overflow_add-end c =
    let r = c.args.rules.now in
    let cells = rule_cells_in r.bytes.now r.sizes r.right c.requires.1 c.requires.2 c.requires.3 c.rule-rule.ensures c.args.part.now c.requires.0 (omega arith) in
    omega (arith, cells.1, cells.2)

pub claim_cells-requires : goal.claim_cells-requires
claim_cells-requires c =
    let r = c.args.rules.now in
    let cells = rule_cells_in r.bytes.now r.sizes r.right c.requires.1 c.requires.2 c.requires.3 c.rule-rule.ensures c.args.part.now c.requires.0 (omega arith) in
    (omega (arith, cells.0), omega (arith, cells.1, cells.2))

pub returns : goal.returns
returns c =
    let r = c.args.rules.now in
    applied_here r.bytes.now r.sizes r.right c.requires.1 c.requires.2 c.requires.3 c.rule-rule.ensures (omega arith) (sym c.wants.ensures ∙ c.if-not-wants.false)
    c.row_start-row.ensures c.matched_columns-columns.ensures.0 c.matched_columns-columns.ensures.1 c.counts.ensures c.new_world-next.ensures c.claim_cells.ensures
