use Rattle.std.proofs.Common.{◌≡◌, [], ◌∷◌, ◌++◌, get_or, ap, ◌∙◌}
use Rattle.std.specs.Prelude.{vec_capacity}
use Rattle.std.proofs.lemmas.List.{get_or_read}
use Rattle.hp_zone.specs.Places.{IsAt, IsGap, TakesOut, name_at}
use Rattle.hp_zone.specs.declared.zone.Zone.{Zone}
use Rattle.hp_zone.specs.declared.zone.ZoneChange.TheVariants.{Gone}
use Rattle.hp_zone.proofs.KeptLemmas.{frees, in_order, kept_gone, not_found_in_gap, put_here}
use Rattle.hp_zone.proofs.zones.Zones.remove.Goals as goal

pub zone_at-zone-requires : goal.zone_at-zone-requires
zone_at-zone-requires c =
    let kept = c.self.inside in
    let at = c.in-Ok.at in
    let here : IsAt kept.log.items kept.by_name.items c.args.name.now at = rw (c.deref.ensures.value, c.deref-2.ensures.value) at c.in-Ok.ensures.found in
    let index_is : c.remove-index.result ≡ get_or kept.by_name.items at 0 = get_or_read kept.by_name.items at c.remove-index.result here.within c.remove-index.ensures.value 0 in
    rw (c.deref-in-Ok.ensures.value, index_is)
    (put_here kept.order.items kept.by_name.items kept.log.items kept.spare (vec_capacity kept.order) (vec_capacity kept.by_name) (vec_capacity kept.log) c.self.invariant c.args.name.now at here)

pub take_out-requires : goal.take_out-requires
take_out-requires c =
    let kept = c.self.inside in
    let at = c.in-Ok.at in
    let here : IsAt kept.log.items kept.by_name.items c.args.name.now at = rw (c.deref.ensures.value, c.deref-2.ensures.value) at c.in-Ok.ensures.found in
    let index_is : c.remove-index.result ≡ get_or kept.by_name.items at 0 = get_or_read kept.by_name.items at c.remove-index.result here.within c.remove-index.ensures.value 0 in
    rw index_is
    (in_order kept.order.items kept.by_name.items kept.log.items kept.spare (vec_capacity kept.order) (vec_capacity kept.by_name) (vec_capacity kept.log) c.self.invariant c.args.name.now at here)

pub invariant_of-self : goal.invariant_of-self
invariant_of-self c =
    let kept = c.self.inside in
    let at = c.in-Ok.at in
    let text = c.args.name.now in
    let here : IsAt kept.log.items kept.by_name.items c.args.name.now at = rw (c.deref.ensures.value, c.deref-2.ensures.value) at c.in-Ok.ensures.found in
    let index_is : c.remove-index.result ≡ get_or kept.by_name.items at 0 = get_or_read kept.by_name.items at c.remove-index.result here.within c.remove-index.ensures.value 0 in
    let taken : TakesOut kept.order.items c.take_out.new.order.items (get_or kept.by_name.items at 0) = rw index_is at c.take_out.ensures.taken in
    let named : name_at c.deref-in-Ok.result.now c.remove-index.result ≡ text = rw (c.deref-in-Ok.ensures.value, index_is) here.named in
    let name_is : c.zone_at-zone.result.now.name ≡ text = ap (λ (zone : Zone). zone.name) c.zone_at-zone.ensures ∙ named in
    let log_is : c.push_reserved.new.self.items ≡ kept.log.items ++ Gone text ∷ [] = c.push_reserved.ensures.items ∙ ap (λ name. kept.log.items ++ Gone name ∷ []) name_is in
    rw (log_is, c.remove-index.ensures.items, c.take_out.ensures.capacity, c.remove-index.ensures.capacity, c.push_reserved.ensures.capacity)
    (kept_gone kept.order.items kept.by_name.items kept.log.items kept.spare (vec_capacity kept.order) (vec_capacity kept.by_name) (vec_capacity kept.log) c.self.invariant text at here c.take_out.new.order.items taken)

pub returns-in-Ok-clause-freed : goal.returns-in-Ok-clause-freed
returns-in-Ok-clause-freed c =
    let kept = c.self.inside in
    let at = c.in-Ok.at in
    let text = c.args.name.now in
    let here : IsAt kept.log.items kept.by_name.items c.args.name.now at = rw (c.deref.ensures.value, c.deref-2.ensures.value) at c.in-Ok.ensures.found in
    let index_is : c.remove-index.result ≡ get_or kept.by_name.items at 0 = get_or_read kept.by_name.items at c.remove-index.result here.within c.remove-index.ensures.value 0 in
    let taken : TakesOut kept.order.items c.take_out.new.order.items (get_or kept.by_name.items at 0) = rw index_is at c.take_out.ensures.taken in
    let named : name_at c.deref-in-Ok.result.now c.remove-index.result ≡ text = rw (c.deref-in-Ok.ensures.value, index_is) here.named in
    let name_is : c.zone_at-zone.result.now.name ≡ text = ap (λ (zone : Zone). zone.name) c.zone_at-zone.ensures ∙ named in
    let log_is : c.push_reserved.new.self.items ≡ kept.log.items ++ Gone text ∷ [] = c.push_reserved.ensures.items ∙ ap (λ name. kept.log.items ++ Gone name ∷ []) name_is in
    rw (log_is, c.zone_at-zone.ensures, c.deref-in-Ok.ensures.value, index_is, ← c.self.view_is)
    (frees kept.order.items kept.by_name.items kept.log.items kept.spare (vec_capacity kept.order) (vec_capacity kept.by_name) (vec_capacity kept.log) c.self.invariant text at here c.take_out.new.order.items taken)

pub returns-in-Err-clause-not_found : goal.returns-in-Err-clause-not_found
returns-in-Err-clause-not_found c =
    let kept = c.self.inside in
    let gap : IsGap kept.log.items kept.by_name.items c.args.name.now c.in-Err.field-0 = rw (c.deref.ensures.value, c.deref-2.ensures.value) at c.in-Err.ensures.absent in
    rw (← c.self.view_is)
    (not_found_in_gap kept.order.items kept.by_name.items kept.log.items kept.spare (vec_capacity kept.order) (vec_capacity kept.by_name) (vec_capacity kept.log) c.self.invariant c.args.name.now c.in-Err.field-0 gap)
