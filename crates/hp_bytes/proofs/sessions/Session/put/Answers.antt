-- The label's data are lent, and filled.
use Rattle.std.proofs.Common.{sym, ◌∙◌}
use Rattle.std.proofs.lemmas.Option.{none-some}
use Rattle.hp_bytes.proofs.LiveLemmas.{live}
use Rattle.hp_bytes.proofs.StoreLemmas.{part_data}
use Rattle.hp_bytes.proofs.VerbLemmas.{put_as, put_does, put_missing}
use Rattle.hp_bytes.proofs.sessions.Session.put.Goals as goal

pub returns-in_default : goal.returns-in_default
returns-in_default c = λ number session. put_missing number c.args.self.now session c.sound.ensures.tiled c.args.label.now c.args.at c.args.byte c.args.len (sym c.in_default.ensures)

pub unreachable-requires : goal.unreachable-requires
unreachable-requires c =
    let its = live c.requires.0 c.args.self.now c.requires.1 c.sound.ensures.tiled c.args.label.now c.in-Some.place (sym c.in-Some.ensures) in
    none-some _ (sym its.lent ∙ sym c.in_default-part_at.ensures.refused)

pub returns : goal.returns
returns c = λ number session.
    let lent = part_data c.in-Some.place.addr c.args.self.now.store c.args.self.now.heap.plain c.in-Ok.part c.part_mut.result.now c.in-Ok.ensures.part c.part_mut.ensures.part in
    put_as number c.args.label.now c.args.at c.args.byte c.args.len c.args.self.now c.in-Some.place c.in-Ok.part c.part_mut.result.now c.put_bytes.new.bytes c.put_bytes.result c.in-Ok.ensures.part
    c.put_bytes.ensures.after c.put_bytes.ensures.answer
    (put_does number c.args.self.now session c.sound.ensures.tiled c.args.label.now c.in-Some.place (sym c.in-Some.ensures) c.args.at c.args.byte c.args.len c.part_mut.result.now lent)
