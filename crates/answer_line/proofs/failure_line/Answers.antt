use Rattle.std.proofs.Common.{[], ◌∷◌, ◌++◌, length, refl, ◌∙◌, arith, rules, take_all}
use Rattle.lamp_line.specs.Endings.{kind_number}
use Rattle.answer_line.proofs.Writing.{appended_none, appended_number, appended_last, appended_next, appended_then, finished}
use Rattle.answer_line.proofs.failure_line.Goals as goal

pub loop-kind-init : goal.loop-kind-init
loop-kind-init c = (omega arith, appended_none _)

pub loop-kind-preserved : goal.loop-kind-preserved
loop-kind-preserved c =
    let o = c.loop-kind in
    let next = c.number-in-loop-kind.ensures in (
      omega (arith, next.upper_bound, o.invariant.0),
      appended_next c.args.kinds.now o.kind-index _ c.loop-kind-test.true c.from-in-loop-kind.ensures o.invariant.1 next.appended,
    )

pub returns : goal.returns
returns c =
    let a = c.args in
    let kinds = a.kinds.now in
    let rest = kinds ++ (a.end ∷ []) in
    let all = rw (take_all c.loop-kind.kind-index kinds (omega (arith, c.loop-kind-test.false))) at c.loop-kind.invariant.1 in
    let end = appended_last kinds a.end _ c.from-3.ensures all c.number-5.ensures.appended in
    let count = appended_number (length kinds) _ rest refl c.number-4.ensures.appended end in
    let first = appended_number a.start.0 _ (length kinds ∷ rest) c.from-2.ensures c.number-3.ensures.appended count in
    let kind =
    appended_number (kind_number a.kind) _ (a.start.0 ∷ length kinds ∷ rest)
    (c.from.ensures ∙ c.number.ensures) c.number-2.ensures.appended first in
    finished (appended_then c.word.ensures (appended_then kind c.byte.ensures)) (search rules)
