use Rattle.std.proofs.Common.{◌∙◌, sym}
use Rattle.lamp_walk.proofs.ActionLaws.{spent_final, spent_circles}
use Rattle.lamp_walk.proofs.spent.Goals as goal

pub returns-then-is_final : goal.returns-then-is_final
returns-then-is_final c =
    search (spent_final, sym c.is_final.ensures ∙ c.if-is_final.true)

pub returns : goal.returns
returns c =
    search (spent_circles, sym c.is_final.ensures ∙ c.if-is_final.false)
