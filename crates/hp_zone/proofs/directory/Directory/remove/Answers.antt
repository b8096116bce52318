use Rattle.std.specs.Prelude.{vec_capacity}
use Rattle.hp_zone.specs.Heaps.{directory_of}
use Rattle.std.proofs.Common.{◌<◌, length, arith}
use Rattle.hp_zone.specs.Directory.{MayRemove}
use Rattle.hp_zone.proofs.DirectoryLemmas.{kept_unnamed, log_has_room}
use Rattle.hp_zone.proofs.directory.Directory.remove.Goals as goal

pub push_reserved-requires : goal.push_reserved-requires
push_reserved-requires c =
    let kept = c.self.inside.parts.value in
    let may : MayRemove (record { heaps = kept.heaps.items; ranges = kept.ranges.items; next = kept.next }) c.args.index = rw (← c.self.view_is) at c.requires in
    let room : length kept.log.items < vec_capacity kept.log = log_has_room (directory_of kept.sockets.items kept.heaps.items kept.ranges.items kept.next kept.log.items kept.spare) (vec_capacity kept.ranges) (vec_capacity kept.log) c.self.invariant c.args.index may in
    rw c.deref_mut-parts.ensures.value (omega (arith, room))

pub invariant_of-self : goal.invariant_of-self
invariant_of-self c =
    let kept = c.self.inside.parts.value in
    let may : MayRemove (record { heaps = kept.heaps.items; ranges = kept.ranges.items; next = kept.next }) c.args.index = rw (← c.self.view_is) at c.requires in
    rw (c.push_reserved.ensures.items, c.push_reserved.ensures.capacity, c.deref_mut-parts.ensures.value)
    (kept_unnamed (directory_of kept.sockets.items kept.heaps.items kept.ranges.items kept.next kept.log.items kept.spare) (vec_capacity kept.ranges) (vec_capacity kept.log) c.self.invariant c.args.index may)
