use Rattle.std.proofs.Common.{◌≡◌, get_or}
use Rattle.std.specs.Prelude.{vec_capacity}
use Rattle.std.proofs.lemmas.List.{get_or_read}
use Rattle.hp_zone.specs.Places.{IsAt, IsGap}
use Rattle.hp_zone.proofs.KeptLemmas.{found_here, not_found_in_gap, put_here}
use Rattle.hp_zone.proofs.zones.Zones.lookup.Goals as goal

pub zone_at-requires : goal.zone_at-requires
zone_at-requires c =
    let kept = c.self.inside in
    let at = c.in-Ok.at in
    let here : IsAt kept.log.items kept.by_name.items c.args.name.now at = rw (c.deref.ensures.value, c.deref-2.ensures.value) at c.in-Ok.ensures.found in
    let index_is : c.index.result.now ≡ get_or kept.by_name.items at 0 = get_or_read kept.by_name.items at c.index.result.now here.within c.index.ensures 0 in
    rw (c.deref-in-Ok.ensures.value, index_is)
    (put_here kept.order.items kept.by_name.items kept.log.items kept.spare (vec_capacity kept.order) (vec_capacity kept.by_name) (vec_capacity kept.log) c.self.invariant c.args.name.now at here)

pub returns-in-Ok-clause-found : goal.returns-in-Ok-clause-found
returns-in-Ok-clause-found c =
    let kept = c.self.inside in
    let at = c.in-Ok.at in
    let here : IsAt kept.log.items kept.by_name.items c.args.name.now at = rw (c.deref.ensures.value, c.deref-2.ensures.value) at c.in-Ok.ensures.found in
    let index_is : c.index.result.now ≡ get_or kept.by_name.items at 0 = get_or_read kept.by_name.items at c.index.result.now here.within c.index.ensures 0 in
    rw (c.zone_at.ensures, c.deref-in-Ok.ensures.value, index_is, ← c.self.view_is)
    (found_here kept.order.items kept.by_name.items kept.log.items kept.spare (vec_capacity kept.order) (vec_capacity kept.by_name) (vec_capacity kept.log) c.self.invariant c.args.name.now at here)

pub returns-in-Err-clause-none : goal.returns-in-Err-clause-none
returns-in-Err-clause-none c =
    let kept = c.self.inside in
    let gap : IsGap kept.log.items kept.by_name.items c.args.name.now c.in-Err.field-0 = rw (c.deref.ensures.value, c.deref-2.ensures.value) at c.in-Err.ensures.absent in
    rw (← c.self.view_is)
    (not_found_in_gap kept.order.items kept.by_name.items kept.log.items kept.spare (vec_capacity kept.order) (vec_capacity kept.by_name) (vec_capacity kept.log) c.self.invariant c.args.name.now c.in-Err.field-0 gap)
