use Rattle.std.proofs.Common.{rules, refl, ◌∙◌, arith}
use Rattle.run_laws.proofs.Pairs.{pairs_few}
use Rattle.pair_bits.proofs.Sums.{sum_le}
use Rattle.line_trial.proofs.TryingEnds.{ready_tables}
use Rattle.plan_search.proofs.Sweeps.{sweeping_begins, sweeping_on, sweeping_fails, sweeping_keeps}
use Rattle.plan_search.proofs.Sweeps.{sweeping_lowest, sweeping_done, sweeping_failed}
use Rattle.plan_search.proofs.SearchLoops.{Enters, search_begins, last_few, group_members, kind_held, kind_failed}
use Rattle.plan_search.proofs.SearchLoops.{kinds_through, lamps_small, enters_layer, enters_next, through, stopped}
use Rattle.plan_search.proofs.SearchLoops.{next_held, group_some, group_begun}
use Rattle.plan_search.proofs.search_groups.Goals as goal
use Rattle.plan_search.proofs.search_groups.Goals.{in-Err+else-end-eq0+then-is_none_or, in-Err+else-end-eq0+else-is_none_or, in-Ok}
use Rattle.plan_search.proofs.search_groups.Goals.{then-count-layer-via-then-count-layer, then-count-layer-via-else-count-layer+then-longest-lamps}
use Rattle.plan_search.proofs.search_groups.Goals.{then-next-layer+else-count-layer+else-longest-lamps, else-next-layer}

pub search-init : goal.search-init
search-init c = (
  search_begins _ (record { opened = c.args.job.now.opened; remembers = c.requires.0 }) c.clear_bits.ensures c.requires.1 (omega (arith, c.requires.2, c.clear_bits.auto.words)),
  refl,
  refl,
  refl,
)

pub overflow_add-kind-end : goal.overflow_add-kind-end
overflow_add-kind-end c =
    omega (arith, last_few c.search.invariant.0)

pub loop-member-init : goal.loop-member-init
loop-member-init c =
    let at = c.loop-kind.invariant.0 in
    (sweeping_begins at.ready at.listed (group_members at (omega (arith, c.loop-kind-test.true))), refl, refl, refl)

pub loop-member-preserved : goal.loop-member-preserved
loop-member-preserved c =
    let l = c.loop-member.invariant in
    let at = l.0 in
    let here = c.loop-member-test.true in
    let clean_is = c.is_none-clean.ensures in
    let turned = c.try_member.ensures.0 in
    let remembers = c.try_member.ensures.1 in (
      elim c.match-try_member.branch [
        | in-Err+else-end-eq0+then-is_none_or w ↦
            rw (w.count-is, w.failing-is)
            (sweeping_fails at here clean_is turned remembers w.in-Err.is (omega (arith, w.if-end-eq0.false)) (search rules))
        | in-Err+else-end-eq0+else-is_none_or w ↦
            rw (w.count-is, w.failing-is) (sweeping_keeps at here clean_is turned remembers w.in-Err.is (search rules))
        | in-Ok w ↦
            rw (w.count-is, w.failing-is) (sweeping_on at here clean_is turned remembers w.in-Ok.is)
      ],
      c.try_member.auto.memory ∙ l.1,
      c.try_member.auto.list ∙ l.2,
      c.try_member.auto.words ∙ l.3,
    )

pub loop-kind-preserved : goal.loop-kind-preserved
loop-kind-preserved c =
    let m = c.loop-member.invariant in
    let l = c.loop-kind.invariant in (
      kind_held l.0 (omega (arith, c.loop-kind-test.true)) (sweeping_done m.0 (omega (arith, c.loop-member-test.false)) c.in_default.is)
          m.0.ready m.0.listed,
      m.1 ∙ l.1,
      m.2 ∙ l.2,
      m.3 ∙ l.3,
    )

pub overflow_add-lamps : goal.overflow_add-lamps
overflow_add-lamps c =
    let at_next = kinds_through c.loop-kind.invariant.0 (omega (arith, c.loop-kind-test.false)) in
    omega (arith, lamps_small at_next)

pub overflow_cast-result : goal.overflow_cast-result
overflow_cast-result c =
    let at_next = kinds_through c.loop-kind.invariant.0 (omega (arith, c.loop-kind-test.false)) in
    omega (arith, sum_le c.sum_bits.ensures, pairs_few (ready_tables at_next.ready))

-- The group is entered, in this layer or the next.
pub group_end-to-requires : goal.group_end-to-requires
group_end-to-requires c =
    let a = c.args in
    let l = c.loop-kind in
    let at = kinds_through c.loop-kind.invariant.0 (omega (arith, c.loop-kind-test.false)) in
    let enters :
    Enters a.job.now.file.now a.job.now.head a.longest l.memory l.list l.words l.count c.search.next c.if-next-layer.layer c.if-next-layer.lamps =
    elim c.if-next-layer.branch [
      | then-next-layer+else-count-layer+else-longest-lamps w ↦
          rw (w.layer-is, w.lamps-is) (enters_next at w.if-next-layer.true w.if-count-layer.false w.if-longest-lamps.false (omega arith))
      | else-next-layer w ↦ rw (w.layer-is, w.lamps-is) (enters_layer at w.if-next-layer.false)
    ] in
    next_held enters

pub search-smaller : goal.search-smaller
search-smaller c =
    let a = c.args in
    let l = c.loop-kind in
    let at = kinds_through c.loop-kind.invariant.0 (omega (arith, c.loop-kind-test.false)) in
    let enters :
    Enters a.job.now.file.now a.job.now.head a.longest l.memory l.list l.words l.count c.search.next c.if-next-layer.layer c.if-next-layer.lamps =
    elim c.if-next-layer.branch [
      | then-next-layer+else-count-layer+else-longest-lamps w ↦
          rw (w.layer-is, w.lamps-is) (enters_next at w.if-next-layer.true w.if-count-layer.false w.if-longest-lamps.false (omega arith))
      | else-next-layer w ↦ rw (w.layer-is, w.lamps-is) (enters_layer at w.if-next-layer.false)
    ] in
    omega (arith, group_some enters c.group_end-to.ensures, (next_held enters).0, (next_held enters).2)

pub search-preserved : goal.search-preserved
search-preserved c =
    let a = c.args in
    let l = c.loop-kind in
    let at = kinds_through c.loop-kind.invariant.0 (omega (arith, c.loop-kind-test.false)) in
    let enters :
    Enters a.job.now.file.now a.job.now.head a.longest l.memory l.list l.words l.count c.search.next c.if-next-layer.layer c.if-next-layer.lamps =
    elim c.if-next-layer.branch [
      | then-next-layer+else-count-layer+else-longest-lamps w ↦
          rw (w.layer-is, w.lamps-is) (enters_next at w.if-next-layer.true w.if-count-layer.false w.if-longest-lamps.false (omega arith))
      | else-next-layer w ↦ rw (w.layer-is, w.lamps-is) (enters_layer at w.if-next-layer.false)
    ] in
    let s = c.search.invariant in
    (group_begun enters c.group_end-to.ensures, l.invariant.1 ∙ s.1, l.invariant.2 ∙ s.2, l.invariant.3 ∙ s.3)

pub returns-then-end-eq0 : goal.returns-then-end-eq0
returns-then-end-eq0 c =
    kind_failed c.loop-kind.invariant.0 (omega (arith, c.loop-kind-test.true))
    (sweeping_lowest c.loop-member.invariant.0 c.loop-member-test.true c.is_none-clean.ensures c.try_member.ensures.0 c.try_member.ensures.1
    c.in-Err.is (omega (arith, c.if-end-eq0.true)))

pub returns-in-Some : goal.returns-in-Some
returns-in-Some c =
    let (line_is, fails) = sweeping_failed c.loop-member.invariant.0 (omega (arith, c.loop-member-test.false)) c.in-Some.is in
    rw line_is (kind_failed c.loop-kind.invariant.0 (omega (arith, c.loop-kind-test.true)) fails)

pub returns-then-count-layer : goal.returns-then-count-layer
returns-then-count-layer c =
    let at_next = kinds_through c.loop-kind.invariant.0 (omega (arith, c.loop-kind-test.false)) in
    let end = c.if-next-layer.true in
    record {
      so =
          elim c.then-count-layer.branch [
            | then-count-layer-via-then-count-layer w ↦ through at_next end c.sum_bits.ensures w.if-count-layer.true
            | then-count-layer-via-else-count-layer+then-longest-lamps w ↦
                stopped at_next end c.sum_bits.ensures w.if-count-layer.false w.if-longest-lamps.true (omega arith)
          ];
    }
