use Rattle.hp_freelist.specs.Links.{lists_of}
use Rattle.hp_freelist.proofs.HeadLemmas.{inserted}
use Rattle.hp_freelist.proofs.linked.insert.Goals as goal

pub returns-clause-linked : goal.returns-clause-linked
returns-clause-linked c =
    inserted c.args.links.now.items c.set_prev.new.links.items c.set_link.new.links.items c.args.heads.now c.set.new.self (lists_of c.args.links.now.items c.args.heads.now)
    c.args.key c.args.whole c.class_of-class.result c.first-next.result
    c.requires.linked c.requires.unlisted c.requires.least c.class_of-class.ensures.number c.first-next.ensures c.set_prev.ensures.places c.set_link.ensures.places c.set.ensures
