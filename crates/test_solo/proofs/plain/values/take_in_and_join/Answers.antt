use Rattle.std.proofs.Common.{◌∙◌, [], ◌∷◌, length, Some, refl, ap, inr, subst, arith}
use Rattle.hp_base.specs.declared.limits.TheConstants.{MAX_HEAPS}
use Rattle.hp_hall.specs.declared.kept.Kept.{Kept}
use Rattle.hp_hall.specs.declared.kept.Kept.TheVariants.{Segments}
use Rattle.hp_hall.specs.Giving.{Knows}
use Rattle.hp_hall.specs.HallState.{Did}
use Rattle.hp_hall.specs.Mail.{Notes, Takes}
use Rattle.hp_hall.specs.declared.note.Note.TheVariants.{Acked}
use Rattle.hp_hall.specs.Own.{Own}
use Rattle.hp_hall.proofs.Gives.{gives_taken}
use Rattle.hp_hall.proofs.HallStates.{acked_taken, did_then, just_taken}
use Rattle.hp_plain.proofs.Given.{known}
use Rattle.hp_plain.proofs.Homes.{home_again}
use Rattle.hp_plain.specs.PlainState.{plain_state}
use Rattle.test_solo.proofs.plain.values.take_in_and_join.Goals as goal

pub ack-requires-clause-may : goal.ack-requires-clause-may
ack-requires-clause-may c = inr (just_taken c.take.ensures.took.did)

pub ack-requires-clause-rises : goal.ack-requires-clause-rises
ack-requires-clause-rises c = omega (arith, ap (λ (o : Own). o.number) c.take.ensures.took.own, c.requires.nothing_yet)

-- it has acknowledged all records since it took the value
pub give-requires-clause-gives : goal.give-requires-clause-gives
give-requires-clause-gives c =
    let me = c.args.me in
    let knows : Knows = known c.ack.new.self me in
    let segs = c.into_segments-segs.result in
    let is = c.into_segments-segs.ensures in
    let came = c.ack.ensures.own in
    let took =
    subst (λ (kept : Kept). Did me (Takes MAX_HEAPS kept ∷ []) (plain_state c.args.hall.now) (plain_state c.take.new.self)) is
    c.take.ensures.took.did in
    let both : Did me (Takes MAX_HEAPS (Segments segs) ∷ Notes (Acked (length c.records.result.now)) ∷ []) (plain_state c.args.hall.now)
    (plain_state c.ack.new.self) =
    did_then took came.did in
    gives_taken knows MAX_HEAPS (Segments segs) (Segments c.join.new.segs)
    (came.slots.taken MAX_HEAPS ∙ (c.take.ensures.took.taken ∙ ap Some is))
    (c.join.ensures knows refl (ap (λ (o : Own). o.number) came.own) (acked_taken both))

pub returns-clause-home : goal.returns-clause-home
returns-clause-home c =
    home_again c.args.hall.now c.ack.new.self c.give.new.self MAX_HEAPS c.requires.home
    (λ other apart home. c.ack.ensures.own.slots.home other (c.take.ensures.slots.home other apart home)) c.give.ensures.slots.home
    c.give.ensures.gave.home
