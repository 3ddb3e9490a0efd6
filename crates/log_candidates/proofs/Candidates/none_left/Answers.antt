use Rattle.std.proofs.Common.{◌≡◌, ◌≢◌, rules, tests, take}
use Rattle.std.proofs.lemmas.Iterator.{cases_from_all, YieldsList-from_slice}
use Rattle.log_candidates.proofs.Holding.{none_left_by}
use Rattle.log_candidates.proofs.Candidates.none_left.Goals as goal

pub returns : goal.returns
returns c =
    let words = take c.columns.result c.args.self.now.sets in
    let tested =
    cases_from_all _ _ _ (λ set. set ≡ 0) (λ set. set ≢ 0) c.all.ensures.ran (YieldsList-from_slice words c.iter.ensures.rest)
    (λ x q k. search (rules, tests)) (λ x q k. search (rules, tests)) in
    none_left_by c.args.job.now.head c.args.self.now.sets _ c.columns.ensures.0 (search rules) tested
