-- The element of the label is freed, and the label has nothing.
use Rattle.std.proofs.Common.{sym}
use Rattle.hp_bytes.proofs.DropLemmas.{drop_missing, dropped_does, is_free_call}
use Rattle.hp_bytes.proofs.sessions.Session.release.Goals as goal

pub returns-in_default : goal.returns-in_default
returns-in_default c = λ number session. drop_missing number c.args.label.now c.args.self.now session c.sound.ensures.tiled (sym c.in_default.ensures)

pub returns : goal.returns
returns c = λ number session.
    dropped_does number c.args.label.now c.args.self.now session c.sound.ensures.tiled c.in-Some.place (sym c.in-Some.ensures) c.free.new.self (is_free_call _ _ _ _ _ c.free.ensures.step)
    c.sound-2.ensures.tiled c.remove.new.self c.remove.ensures
