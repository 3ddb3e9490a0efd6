use Rattle.std.proofs.Common.{◌-◌, length, ◌≡◌}
use Rattle.plan_search.proofs.Sweeps.{Sweeping}
use Rattle.plan_search.proofs.SearchLoops.{AtKind}
use Rattle.plan_search.proofs.search_groups.Given as goal

abbrev pub invariant-loop-member : goal.invariant-loop-member
invariant-loop-member l =
    Sweeping l.job.file.now l.job.head l.initial.list l.before l.from l.to l.kind l.lamps l.memory l.list l.words l.count l.failing l.member
    × (length l.memory ≡ length l.initial.memory)
    × (length l.list ≡ length l.initial.list)
    × (length l.words ≡ length l.initial.words)

abbrev pub invariant-loop-kind : goal.invariant-loop-kind
invariant-loop-kind l =
    AtKind l.job.file.now l.job.head l.longest l.memory l.list l.words l.count l.from l.to l.next l.layer l.lamps l.last l.kind
    × (length l.memory ≡ length l.initial.memory)
    × (length l.list ≡ length l.initial.list)
    × (length l.words ≡ length l.initial.words)

abbrev pub invariant-search : goal.invariant-search
invariant-search l =
    AtKind l.job.file.now l.job.head l.longest l.memory l.list l.words l.count l.from l.to l.next l.layer l.lamps l.last l.first
    × (length l.memory ≡ length l.initial.memory)
    × (length l.list ≡ length l.initial.list)
    × (length l.words ≡ length l.initial.words)

abbrev pub decreases-search : goal.decreases-search
decreases-search l =
    4160 - l.next
