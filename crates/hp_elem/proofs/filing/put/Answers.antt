use Rattle.std.proofs.Common.{◌≡◌, ℕ, ◌%◌, Some, None, sym, ◌∙◌, length, get_or, set, arith, ◌<◌}
use Rattle.std.proofs.lemmas.List.{get_or_default}
use Rattle.hp_elem.specs.Tags.{AreFiled, place_at, number_in, with_entry}
use Rattle.hp_elem.proofs.FilingLemmas.{filed_put}
use Rattle.hp_elem.proofs.filing.put.Goals as goal

filed : (c : goal.After-firsts-1)
    → AreFiled c.set_link.new.links.items (set c.args.firsts.now.items (c.args.number % c.len.result) (Some c.args.key))
    × (number_in (place_at c.set_link.new.links.items) ≡ with_entry c.args.key (Some c.args.number) (number_in (place_at c.args.links.now.items)))
filed c =
    let within : c.args.key < length c.args.links.now.items = omega (arith, c.requires.room, c.args.links.now.ok.0) in
    let long : length c.set_link.new.links.items ≡ length c.args.links.now.items =
    omega (arith, c.set_link.ensures.len, c.set_prev.ensures.len, c.args.links.now.ok.0, c.set_prev.new.links.ok.0, c.set_link.new.links.ok.0) in
    let count : c.len.result ≡ length c.args.firsts.now.items = omega (arith, c.len.ensures, c.args.firsts.now.ok.0) in
    let below : c.args.number % c.len.result < length c.args.firsts.now.items = omega (arith, within, count, c.requires.filed.count) in
    filed_put c.args.links.now.items c.args.firsts.now.items c.requires.filed c.set_prev.new.links.items c.set_link.new.links.items c.args.key c.args.number c.len.result c.index-next.result.now
    c.requires.none within long count
    (c.index-next.ensures ∙ sym (get_or_default c.args.firsts.now.items (c.args.number % c.len.result) None c.index-next.result.now below))
    c.set_prev.ensures.places c.set_link.ensures.places

pub returns-clause-filed : goal.returns-clause-filed
returns-clause-filed c = (filed c).0

pub returns-clause-numbers : goal.returns-clause-numbers
returns-clause-numbers c = (filed c).1
