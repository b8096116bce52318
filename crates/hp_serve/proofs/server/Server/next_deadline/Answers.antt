-- The reading tells which deadlines are still to come.
use Rattle.std.proofs.Common.{◌≡◌, ℕ, [], ◌∷◌, Option, ap, subst}
use Rattle.hp_hall.specs.HallState.{Did, Stays}
use Rattle.hp_hall.specs.Mail.{Notes}
use Rattle.hp_hall.specs.declared.note.Note.TheVariants.{Read}
use Rattle.hp_serve.specs.Party.{Party}
use Rattle.hp_serve.specs.Waiting.{IsSoonerOf}
use Rattle.hp_serve.proofs.Waits.{sooner_pending}
use Rattle.hp_serve.proofs.server.Server.next_deadline.Goals as goal

pub returns-clause-sooner : goal.returns-clause-sooner
returns-clause-sooner g c =
    let read = c.now-reading.ensures in
    let old = g.H.Hall.state c.args.hall.now in
    let new = g.H.Hall.state c.now-reading.new.self in (
      c.now-reading.result,
      λ deadline later. subst (λ (at : ℕ). g.H.Hall.pending at deadline ≡ g.H.Hall.scale) read.stays.others.clock (read.before deadline later),
      subst (λ (due : Option ℕ). IsSoonerOf c.now-reading.result c.args.until due c.sooner_of.result) c.due.ensures c.sooner_of.ensures,
      subst (λ (who : ℕ). Did who (Notes (Read c.now-reading.result) ∷ []) old new) (ap (λ (party : Party). party.me) c.self.view_is) read.did,
    )

pub returns-clause-before : goal.returns-clause-before
returns-clause-before g c =
    let old = g.H.Hall.state c.args.hall.now in
    let new = g.H.Hall.state c.now-reading.new.self in
    sooner_pending g.H.Hall.pending g.H.Hall.scale old.clock new.clock c.now-reading.result c.args.until c.sooner_of.result c.due.result
    c.now-reading.ensures.stays.others.clock c.requires.before c.now-reading.ensures.before c.sooner_of.ensures

pub returns-clause-stays : goal.returns-clause-stays
returns-clause-stays g c =
    subst (λ (who : ℕ). Stays who (g.H.Hall.state c.args.hall.now) (g.H.Hall.state c.now-reading.new.self))
    (ap (λ (party : Party). party.me) c.self.view_is) c.now-reading.ensures.stays
