use Rattle.hp_zone.specs.Places.{Files, view_of}
use Rattle.hp_zone.specs.Zones.{MayReserve}
use Rattle.std.proofs.Common.{◌≡◌, length, sym, ◌∙◌}
use Rattle.std.specs.Prelude.{vec_capacity, vec_len}
use Rattle.hp_zone.proofs.KeptLemmas.{kept_put, reserves, unknown_names}
use Rattle.hp_zone.proofs.zones.Zones.insert.Goals as goal

pub file-requires-clause-fresh : goal.file-requires-clause-fresh
file-requires-clause-fresh c =
    let kept = c.self.inside in
    let may : MayReserve (view_of kept.order.items kept.log.items kept.spare) c.args.zone = rw (← c.self.view_is) at c.requires in
    rw (c.deref.ensures.value, c.as_bytes.ensures.text)
    (unknown_names kept.order.items kept.by_name.items kept.log.items kept.spare (vec_capacity kept.order) (vec_capacity kept.by_name) (vec_capacity kept.log)
    c.self.invariant c.args.zone.name may.fresh)

pub invariant_of-self : goal.invariant_of-self
invariant_of-self c =
    let kept = c.self.inside in
    let may : MayReserve (view_of kept.order.items kept.log.items kept.spare) c.args.zone = rw (← c.self.view_is) at c.requires in
    let long : length kept.log.items ≡ vec_len kept.log = rw c.deref.ensures.value at c.deref.ensures.len in
    let index_is : c.len-index.result ≡ length kept.log.items = c.len-index.ensures ∙ sym long in
    let files : Files kept.log.items kept.by_name.items c.file.new.by_name.items c.args.zone.name (length kept.log.items)
    = rw (c.deref.ensures.value, c.as_bytes.ensures.text, index_is) at c.file.ensures.filed in
    rw (c.push_reserved.ensures.items, c.push_reserved-2.ensures.items, index_is, c.push_reserved.ensures.capacity, c.push_reserved-2.ensures.capacity, c.file.ensures.capacity)
    (kept_put kept.order.items kept.by_name.items kept.log.items kept.spare (vec_capacity kept.order) (vec_capacity kept.by_name) (vec_capacity kept.log)
    c.self.invariant c.args.zone may c.file.new.by_name.items files)

pub returns : goal.returns
returns c =
    let kept = c.self.inside in
    let may : MayReserve (view_of kept.order.items kept.log.items kept.spare) c.args.zone = rw (← c.self.view_is) at c.requires in
    let long : length kept.log.items ≡ vec_len kept.log = rw c.deref.ensures.value at c.deref.ensures.len in
    let index_is : c.len-index.result ≡ length kept.log.items = c.len-index.ensures ∙ sym long in
    let files : Files kept.log.items kept.by_name.items c.file.new.by_name.items c.args.zone.name (length kept.log.items)
    = rw (c.deref.ensures.value, c.as_bytes.ensures.text, index_is) at c.file.ensures.filed in
    rw (← c.self.view_is, c.push_reserved.ensures.items, c.push_reserved-2.ensures.items, index_is)
    (reserves kept.order.items kept.by_name.items kept.log.items kept.spare (vec_capacity kept.order) (vec_capacity kept.by_name) (vec_capacity kept.log)
    c.self.invariant c.args.zone may c.file.new.by_name.items files)
