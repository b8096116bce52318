use Rattle.std.proofs.Common.{◌≡◌, ℕ, ◌%◌, Option, Some, None, List, is_none, cond, sym, ap, ◌∙◌, length, set, arith}
use Rattle.hp_chain.specs.Chain.{Place, Places}
use Rattle.hp_chain.specs.Writes.{with_next, with_prev, with_place}
use Rattle.hp_elem.specs.Tags.{AreFiled, place_of, place_at, number_in, with_entry}
use Rattle.hp_elem.proofs.FilingLemmas.{taken_out, key_within}
use Rattle.hp_elem.proofs.filing.take_out.Goals as goal

pub lead-requires : goal.lead-requires
lead-requires c =
    omega (arith, key_within c.args.links.now.items c.args.firsts.now.items c.requires.filed c.args.key c.args.number c.requires.number, c.requires.filed.count, c.args.firsts.now.ok.0)

filed : (c : goal.After-lead)
    → AreFiled c.set_link.new.links.items c.lead.new.firsts.items
    × (number_in (place_at c.set_link.new.links.items) ≡ with_entry c.args.key None (number_in (place_at c.args.links.now.items)))
filed c =
    let link : Place (Option ℕ) = place_of c.link_of-link.result in
    let empty : Option (Place (Option ℕ)) = Some (record { prev = None; next = None; value = None }) in
    let long : length c.set_link.new.links.items ≡ length c.args.links.now.items =
    omega (arith, c.set_link.ensures.len, c.set_prev.ensures.len, c.set_next.ensures.len, c.args.links.now.ok.0, c.set_link.new.links.ok.0) in
    taken_out c.args.links.now.items c.args.firsts.now.items c.requires.filed c.args.key c.args.number c.requires.number c.set_link.new.links.items c.lead.new.firsts.items link
    c.link_of-link.ensures.stands long
    (c.set_link.ensures.places ∙ ap (λ (m : Places (Option ℕ)). with_place c.args.key empty m)
    (c.set_prev.ensures.places ∙ ap (λ (m : Places (Option ℕ)). with_prev link.next link.prev m) c.set_next.ensures.places))
    (c.lead.ensures.firsts ∙ ap (λ (n : ℕ). cond (is_none link.prev) (set c.args.firsts.now.items (c.args.number % n) link.next) c.args.firsts.now.items) c.args.firsts.now.ok.0)

pub returns-clause-filed : goal.returns-clause-filed
returns-clause-filed c = (filed c).0

pub returns-clause-numbers : goal.returns-clause-numbers
returns-clause-numbers c = (filed c).1
