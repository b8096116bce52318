-- The label's data are lent, and shown.
use Rattle.std.proofs.Common.{sym, subst, ◌∙◌}
use Rattle.std.proofs.lemmas.Option.{none-some}
use Rattle.std.proofs.lemmas.Result.{IfOk-weaker}
use Rattle.hp_bytes.specs.Sessions.{Does}
use Rattle.hp_bytes.specs.declared.answer.Answer.{Answer}
use Rattle.hp_bytes.specs.declared.line.Line.TheVariants as line
use Rattle.hp_bytes.proofs.LiveLemmas.{live}
use Rattle.hp_bytes.proofs.VerbLemmas.{get_does, get_missing}
use Rattle.hp_bytes.proofs.sessions.Session.get.Goals as goal

pub returns-in_default : goal.returns-in_default
returns-in_default c = λ number session. get_missing number c.args.self.now session c.sound.ensures.tiled c.args.label.now c.args.at c.args.len (sym c.in_default.ensures)

pub unreachable-requires : goal.unreachable-requires
unreachable-requires c =
    let its = live c.requires.0 c.args.self.now c.requires.1 c.sound.ensures.tiled c.args.label.now c.in-Some.place (sym c.in-Some.ensures) in
    none-some _ (sym its.lent ∙ sym c.in-Err.ensures.refused)

pub returns : goal.returns
returns c =
    IfOk-weaker c.shown.result _ _
    (λ answer is number session.
    subst (λ (a : Answer). Does number (line.Get c.args.label.now c.args.at c.args.len) c.args.self.now c.args.self.now a) (sym is)
    (get_does number c.args.self.now session c.sound.ensures.tiled c.args.label.now c.in-Some.place c.args.at c.args.len c.in-Ok.data.now (sym c.in-Some.ensures) c.in-Ok.ensures.part))
    c.shown.ensures
