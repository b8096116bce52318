-- A note alone.
use Rattle.std.proofs.Common.{Some, ap, subst}
use Rattle.hp_plain.specs.Course.{IsCourse}
use Rattle.hp_plain.specs.HallView.{HallView, joined_in, own_at, part_in}
use Rattle.hp_hall.specs.Mail.{Notes}
use Rattle.hp_hall.specs.declared.note.Note.TheVariants.{Yielded}
use Rattle.hp_solo.specs.Solo.{SoloView}
use Rattle.hp_solo.proofs.SoloSteps.{did_apart}
use Rattle.hp_solo.proofs.SoloCalls.{holds_after, later_after}
use Rattle.hp_solo.proofs.solo_hall.SoloHall.note_yield.Goals as goal

pub invariant_of-self : goal.invariant_of-self
invariant_of-self g c =
    holds_after c.args.self.now c.self.inside.plain c.self.inside.servers.items c.self.view_is c.args.me c.requires.serves c.self.invariant
    c.note_yield.new.self c.note_yield.ensures.course (λ who apart. ap (λ (hall : HallView). own_at hall who) c.note_yield.ensures.hall)
    (λ who apart. ap (λ (hall : HallView). joined_in hall who) c.note_yield.ensures.hall)
    (λ who heap apart. ap (λ (hall : HallView). part_in hall who heap) c.note_yield.ensures.hall)

pub returns-clause-course : goal.returns-clause-course
returns-clause-course g c = subst (λ (hall : SoloView). IsCourse hall.plain c.note_yield.new.self) c.self.view_is c.note_yield.ensures.course

pub returns-clause-later : goal.returns-clause-later
returns-clause-later g c =
    later_after c.args.self.now c.self.inside.plain c.self.inside.servers.items c.self.view_is c.args.me c.requires.serves c.note_yield.new.self
    (did_apart c.self.inside.plain c.note_yield.new.self c.args.me (Notes (Yielded c.args.above (Some c.args.moved)))
    (ap (λ (hall : HallView). hall.mail) c.note_yield.ensures.hall))
