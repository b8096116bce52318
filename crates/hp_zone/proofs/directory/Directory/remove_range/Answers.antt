use Rattle.std.specs.Prelude.{vec_capacity}
use Rattle.hp_zone.specs.Heaps.{directory_of}
use Rattle.hp_zone.specs.Directory.{HasRange}
use Rattle.hp_zone.proofs.DirectoryLemmas.{kept_range_gone, range_there}
use Rattle.hp_zone.proofs.directory.Directory.remove_range.Goals as goal

pub take_range-requires : goal.take_range-requires
take_range-requires c =
    let kept = c.self.inside.parts.value in
    let has : HasRange (record { heaps = kept.heaps.items; ranges = kept.ranges.items; next = kept.next }) c.args.index c.args.addr = rw (← c.self.view_is) at c.requires in
    rw c.deref_mut-parts.ensures.value
    (range_there (record { heaps = kept.heaps.items; ranges = kept.ranges.items; next = kept.next }) c.args.index c.args.addr has)

pub invariant_of-self : goal.invariant_of-self
invariant_of-self c =
    let kept = c.self.inside.parts.value in
    let has : HasRange (record { heaps = kept.heaps.items; ranges = kept.ranges.items; next = kept.next }) c.args.index c.args.addr = rw (← c.self.view_is) at c.requires in
    rw (c.take_range.ensures.items, c.push_reserved.ensures.items, c.take_range.ensures.capacity, c.push_reserved.ensures.capacity, c.deref_mut-parts.ensures.value)
    (kept_range_gone (directory_of kept.sockets.items kept.heaps.items kept.ranges.items kept.next kept.log.items kept.spare) (vec_capacity kept.ranges) (vec_capacity kept.log) c.self.invariant c.args.index c.args.addr (range_there (record { heaps = kept.heaps.items; ranges = kept.ranges.items; next = kept.next }) c.args.index c.args.addr has))
