-- The first bytes of one label go over those of the other.
use Rattle.std.proofs.Common.{◌≡◌, sym, subst}
use Rattle.hp_bytes.specs.StoreView.{StoreView}
use Rattle.hp_bytes.specs.Sessions.{Does}
use Rattle.hp_bytes.specs.declared.answer.Answer.TheVariants as answer
use Rattle.hp_bytes.specs.declared.line.Line.TheVariants as line
use Rattle.hp_bytes.proofs.LiveLemmas.{live}
use Rattle.hp_bytes.proofs.StoreLemmas.{one_refused, two_lent}
use Rattle.hp_bytes.proofs.VerbLemmas.{copy_does, copy_missing, copy_missing_too, copy_same, labels_differ}
use Rattle.hp_bytes.proofs.sessions.Session.copy.Goals as goal

pub returns-in_default : goal.returns-in_default
returns-in_default c = λ number session. copy_missing number c.args.self.now session c.sound.ensures.tiled c.args.from.now c.args.to.now (sym c.in_default.ensures)

pub returns-in_default-find : goal.returns-in_default-find
returns-in_default-find c = λ number session.
    copy_missing_too number c.args.self.now session c.sound.ensures.tiled c.args.from.now c.args.to.now c.in-Some.source (sym c.in-Some.ensures) (sym c.in_default-find.ensures)

pub returns-in-Ok : goal.returns-in-Ok
returns-in-Ok c = λ number session.
    let differ = two_lent c.in-Some.source.addr c.in-Some-find.target.addr c.args.self.now.store c.args.self.now.heap.plain c.in-Ok.ensures.refused in
    subst (λ (store : StoreView). Does number (line.Copy c.args.from.now c.args.to.now) c.args.self.now (record c.args.self.now { store = store }) answer.Done) (sym c.in-Ok.ensures.copied)
    (copy_does number c.args.self.now session c.sound.ensures.tiled c.args.from.now c.args.to.now c.in-Some.source c.in-Some-find.target (sym c.in-Some.ensures) (sym c.in-Some-find.ensures) differ
    (labels_differ c.args.self.now c.args.from.now c.args.to.now c.in-Some.source c.in-Some-find.target (sym c.in-Some.ensures) (sym c.in-Some-find.ensures) differ))

pub returns-in-Err : goal.returns-in-Err
returns-in-Err c = λ number session.
    let its = live number c.args.self.now session c.sound.ensures.tiled c.args.from.now c.in-Some.source (sym c.in-Some.ensures) in
    let other = live number c.args.self.now session c.sound.ensures.tiled c.args.to.now c.in-Some-find.target (sym c.in-Some-find.ensures) in
    let same = one_refused c.in-Some.source.addr c.in-Some-find.target.addr c.args.self.now.store c.args.self.now.heap.plain _ its.lent other.lent c.in-Err.ensures.refused in
    subst (λ (store : StoreView). Does number (line.Copy c.args.from.now c.args.to.now) c.args.self.now (record c.args.self.now { store = store }) answer.Same) (sym c.in-Err.ensures.err)
    (copy_same number c.args.self.now session c.sound.ensures.tiled c.args.from.now c.args.to.now c.in-Some.source c.in-Some-find.target (sym c.in-Some.ensures) (sym c.in-Some-find.ensures) same)
