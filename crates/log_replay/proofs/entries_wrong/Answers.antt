use Rattle.std.proofs.Common.{◌∙◌, arith, rules, tests}
use Rattle.std.proofs.lemmas.List.{take_all}
use Rattle.std.proofs.lemmas.Iterator.{YieldsList-from_slice}
use Rattle.std.proofs.lemmas.Iterator.Search.{any_from_yields_List}
use Rattle.log_replay.proofs.ReplayRefusals.{pair_wrong, any_pair_wrong}
use Rattle.log_replay.proofs.entries_wrong.Goals as goal

-- The list that is gone through is the log's. By `take_all` that is found for a part that is the whole too, so that code which leaves entries out is
-- refused for what it leaves out, and not for taking a part.
pub returns : goal.returns
returns c =
    any_from_yields_List (pair_wrong c.args.actions c.args.results) _ _ _ c.any.ensures.ran
    (YieldsList-from_slice _ (search (rules, take_all, arith)))
    (λ x b q k. search (rules, tests))
    ∙ any_pair_wrong c.args.actions c.args.results c.args.log.now
