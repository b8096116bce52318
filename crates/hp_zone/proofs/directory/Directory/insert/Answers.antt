use Rattle.std.specs.Prelude.{vec_capacity}
use Rattle.hp_zone.specs.Heaps.{directory_of}
use Rattle.std.proofs.Common.{◌≡◌, Some, refl}
use Rattle.std.specs.List.{position}
use Rattle.hp_zone.specs.Heaps.{is_unnamed}
use Rattle.hp_zone.specs.Directory.{MayInsert}
use Rattle.hp_zone.proofs.DirectoryLemmas.{kept_named, lowest_here, no_place}
use Rattle.hp_zone.proofs.directory.Directory.insert.Goals as goal

pub unreachable-requires : goal.unreachable-requires
unreachable-requires c =
    let kept = c.self.inside.parts.value in
    let may : MayInsert (directory_of kept.sockets.items kept.heaps.items kept.ranges.items kept.next kept.log.items kept.spare) c.args.name = rw (← c.self.view_is) at c.requires in
    no_place (record { heaps = kept.heaps.items; ranges = kept.ranges.items; next = kept.next }) (rw (c.deref.ensures.value, c.deref_mut-parts.ensures.value) at c.in_default.ensures) may.place

pub invariant_of-self : goal.invariant_of-self
invariant_of-self c =
    let kept = c.self.inside.parts.value in
    let may : MayInsert (directory_of kept.sockets.items kept.heaps.items kept.ranges.items kept.next kept.log.items kept.spare) c.args.name = rw (← c.self.view_is) at c.requires in
    let place_is : Some c.in-Some.place ≡ position is_unnamed kept.heaps.items = rw (c.deref.ensures.value, c.deref_mut-parts.ensures.value) at c.in-Some.ensures in
    rw (c.push_reserved.ensures.items, c.push_reserved.ensures.capacity, c.deref_mut-parts.ensures.value)
    (kept_named (directory_of kept.sockets.items kept.heaps.items kept.ranges.items kept.next kept.log.items kept.spare) (vec_capacity kept.ranges) (vec_capacity kept.log) c.self.invariant c.in-Some.place c.args.name place_is may.place.socket may.memory may.fresh)

pub returns : goal.returns
returns c =
    let kept = c.self.inside.parts.value in
    let place_is : Some c.in-Some.place ≡ position is_unnamed kept.heaps.items = rw (c.deref.ensures.value, c.deref_mut-parts.ensures.value) at c.in-Some.ensures in
    rw (c.push_reserved.ensures.items, ← c.self.view_is, c.deref_mut-parts.ensures.value)
    (record {
      index_is = lowest_here (record { heaps = kept.heaps.items; ranges = kept.ranges.items; next = kept.next }) c.in-Some.place place_is;
      socket_is = refl;
      changed = refl;
    })
