use Rattle.std.specs.Prelude.{vec_capacity}
use Rattle.hp_zone.specs.Heaps.{directory_of}
use Rattle.std.proofs.Common.{◌<◌}
use Rattle.hp_zone.proofs.DirectoryLemmas.{kept_range}
use Rattle.hp_zone.proofs.directory.Directory.add_range.Goals as goal

pub invariant_of-self : goal.invariant_of-self
invariant_of-self c =
    let kept = c.self.inside.parts.value in
    let some : 0 < kept.spare = rw (← c.self.view_is) at c.requires.memory in
    rw (c.push_reserved.ensures.items, c.push_reserved-2.ensures.items, c.push_reserved.ensures.capacity, c.push_reserved-2.ensures.capacity, c.deref_mut-parts.ensures.value)
    (kept_range (directory_of kept.sockets.items kept.heaps.items kept.ranges.items kept.next kept.log.items kept.spare) (vec_capacity kept.ranges) (vec_capacity kept.log) c.self.invariant c.args.index c.args.addr c.args.len c.args.page some)
