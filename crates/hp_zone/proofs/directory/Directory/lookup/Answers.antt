use Rattle.std.proofs.Common.{◌≡◌, ◌∙◌, Some, None, get_or}
use Rattle.std.specs.List.{position}
use Rattle.hp_zone.specs.Heaps.{is_named}
use Rattle.hp_zone.proofs.DirectoryLemmas.{heap_found, heap_there, no_heap, read_here}
use Rattle.hp_zone.proofs.directory.Directory.lookup.Goals as goal

pub returns-in_default-clause-none : goal.returns-in_default-clause-none
returns-in_default-clause-none c =
    let kept = c.self.inside.parts.value in
    rw (← c.self.view_is)
    (no_heap (record { heaps = kept.heaps.items; ranges = kept.ranges.items; next = kept.next }) c.args.name.now (rw (c.deref.ensures.value, c.deref-parts.ensures) at c.in_default.ensures))

pub unreachable-requires : goal.unreachable-requires
unreachable-requires c =
    let kept = c.self.inside.parts.value in
    let is : Some c.in-Some.index ≡ position (is_named c.args.name.now) kept.heaps.items = rw (c.deref.ensures.value, c.deref-parts.ensures) at c.in-Some.ensures in
    let read : get_or kept.heaps.items c.in-Some.index None ≡ c.index.result.now = read_here (record { heaps = kept.heaps.items; ranges = kept.ranges.items; next = kept.next }) c.args.name.now c.in-Some.index c.index.result.now is (rw c.deref-parts.ensures at c.index.ensures) in
    heap_there (record { heaps = kept.heaps.items; ranges = kept.ranges.items; next = kept.next }) c.args.name.now c.in-Some.index is (read ∙ c.in_default-index.is)

pub returns-clause-found : goal.returns-clause-found
returns-clause-found c =
    let kept = c.self.inside.parts.value in
    let is : Some c.in-Some.index ≡ position (is_named c.args.name.now) kept.heaps.items = rw (c.deref.ensures.value, c.deref-parts.ensures) at c.in-Some.ensures in
    let read : get_or kept.heaps.items c.in-Some.index None ≡ c.index.result.now = read_here (record { heaps = kept.heaps.items; ranges = kept.ranges.items; next = kept.next }) c.args.name.now c.in-Some.index c.index.result.now is (rw c.deref-parts.ensures at c.index.ensures) in
    rw (← c.self.view_is)
    (heap_found (record { heaps = kept.heaps.items; ranges = kept.ranges.items; next = kept.next }) c.args.name.now c.in-Some.index c.in-Some-index.heap is (read ∙ c.in-Some-index.is))
