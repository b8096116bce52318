-- Where a round is under way a poll is made.
use Rattle.std.proofs.Common.{[], ◌∷◌, refl, sym}
use Rattle.hp_hall.specs.Mail.{Notes}
use Rattle.hp_hall.specs.declared.note.Note.TheVariants.{Read}
use Rattle.hp_serve.specs.Coordinating.{IsAnswered}
use Rattle.hp_hall.proofs.HallStates.{did_same}
use Rattle.hp_serve.proofs.InHalls.{alone_same}
use Rattle.hp_serve.proofs.server.Server.take_reply.Goals as goal

pub returns-in-None-clause-alone : goal.returns-in-None-clause-alone
returns-in-None-clause-alone g c = alone_same 0 c.args.self.now (g.H.Hall.state c.args.hall.now) c.requires.can.tied

pub returns-in-Some-clause-answered : goal.returns-in-Some-clause-answered
returns-in-Some-clause-answered g c =
    let polled = c.poll_now.ensures.polled in (
      Notes (Read polled.0) ∷ polled.1,
      polled.2,
      IsAnswered.polls _ polled.0 polled.1 c.requires.reply (sym c.in-Some.ensures) refl polled.3,
    )

pub returns-in-None-clause-answered : goal.returns-in-None-clause-answered
returns-in-None-clause-answered g c =
    ([], did_same 0 _, IsAnswered.rests c.requires.reply (sym c.in-None.ensures) refl refl refl)
