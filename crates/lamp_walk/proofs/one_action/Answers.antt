use Rattle.std.proofs.Common.{◌∙◌, sym}
use Rattle.lamp_walk.proofs.ActionLaws.{acts_final}
use Rattle.lamp_walk.proofs.one_action.Goals as goal

pub returns-then-is_final : goal.returns-then-is_final
returns-then-is_final c =
    search (acts_final, sym c.is_final.ensures ∙ c.if-is_final.true)
