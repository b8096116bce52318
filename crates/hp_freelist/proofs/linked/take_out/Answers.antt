use Rattle.std.proofs.Common.{ap, ◌∙◌, ℕ}
use Rattle.hp_chain.specs.Chain.{Places}
use Rattle.hp_chain.specs.Writes.{with_prev}
use Rattle.hp_freelist.specs.Links.{lists_of, place_of}
use Rattle.hp_freelist.proofs.RemovalLemmas.{removed}
use Rattle.hp_freelist.proofs.linked.take_out.Goals as goal

pub returns-clause-linked : goal.returns-clause-linked
returns-clause-linked c =
    removed c.args.links.now.items c.set_prev.new.links.items c.args.heads.now c.lead.new.heads (lists_of c.args.links.now.items c.args.heads.now) c.requires.linked
    c.args.key c.requires.listed (place_of c.link_of-link.result) c.link_of-link.ensures.stands
    (c.set_prev.ensures.places ∙ ap (λ (at : Places ℕ). with_prev c.link_of-link.result.next c.link_of-link.result.prev at) c.set_next.ensures.places) c.lead.ensures
