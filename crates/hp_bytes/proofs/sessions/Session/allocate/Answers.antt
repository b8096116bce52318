-- The heap gave an address or none.
use Rattle.std.proofs.Common.{refl}
use Rattle.hp_bytes.proofs.MakeLemmas.{allocated_nothing, allocated_some}
use Rattle.hp_bytes.proofs.sessions.Session.allocate.Goals as goal

pub returns-in_ok-add-in-Some : goal.returns-in_ok-add-in-Some
returns-in_ok-add-in-Some c =
    allocated_some c.args.number c.args.label.now c.args.request.now c.args.self.now c.requires.stands.session c.sound.ensures.tiled c.zalloc.new.heap _ _ refl c.tag_of-tag.ensures c.zalloc.new.self
    c.in-Some.addr c.add.new.self c.in-Some.ensures.step c.sound-in-Some.ensures.tiled c.requires.fresh c.in-Some.ensures.zeros c.in-Some.ensures.others c.in-Some.ensures.store
    c.in_ok-add-in-Some.ensures

pub returns-in-None : goal.returns-in-None
returns-in-None c =
    allocated_nothing c.args.number c.args.label.now c.args.request.now c.args.self.now c.requires.stands.session c.sound.ensures.tiled c.zalloc.new.heap _ _ refl c.tag_of-tag.ensures c.zalloc.new.self
    c.in-None.ensures.step c.in-None.ensures.store
