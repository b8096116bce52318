-- The value with the ask armed may be given back, and its participant holds what it held.
use Rattle.std.proofs.Common.{◌≡◌, ◌<◌, ℕ, ap, sym, subst}
use Rattle.hp_hall.proofs.StandingFacts.StandingArms.{arm_keeps}
use Rattle.hp_hall.specs.Giving.{GivesSegments}
use Rattle.hp_hall.specs.HallState.{known_to}
use Rattle.hp_segs.specs.SegsView.{SegsView, closed_number}
use Rattle.hp_hall.specs.Holding.{HeapPart, part_after}
use Rattle.hp_serve.specs.SegmentSlot.{GivesBack, HasSegs, PutsBack}
use Rattle.hp_serve.proofs.AskingFacts.Armed.{arm_gives, is_armed, still_held}
use Rattle.hp_serve.proofs.AskingFacts.Noting.{gives_in_place}
use Rattle.hp_serve.proofs.arming.arm_taken.Goals as goal

pub give_back-requires : goal.give_back-requires
give_back-requires g c =
    let me = c.args.me in
    let ask = c.args.ask.now in
    let segs = c.args.segs in
    let knows = known_to me (g.H.Hall.state c.args.hall.now) in
    record {
      serves = c.requires.has.serves;
      gives = gives_in_place knows segs c.arm.new.self c.requires.has.taken
          (subst (GivesSegments knows segs) (sym c.in-Ok.ensures.ok)
          (arm_gives knows ask segs arm_keeps c.requires.sound c.requires.may c.requires.own
          (subst (λ from. closed_number segs.asks from < ask.number) (sym c.requires.own) c.requires.above) c.requires.holds
          c.requires.settled));
    }

pub returns-in-Ok-clause-held : goal.returns-in-Ok-clause-held
returns-in-Ok-clause-held g c =
    let old = g.H.Hall.state c.args.hall.now in
    let new = g.H.Hall.state c.give_back.new.hall in
    still_held c.args.me c.args.ask.now (old.part c.args.me) (new.part c.args.me) c.args.segs c.requires.sound c.requires.has.standing
    c.requires.own
    (subst (λ (given : SegsView). (heap : ℕ) → new.part c.args.me heap ≡ part_after c.args.me given heap (old.part c.args.me heap))
    c.in-Ok.ensures.ok c.give_back.ensures.back.gave.part)

pub returns-in-Ok-clause-ok : goal.returns-in-Ok-clause-ok
returns-in-Ok-clause-ok g c =
    subst (λ (given : SegsView). GivesBack c.args.me given (g.H.Hall.state c.args.hall.now) (g.H.Hall.state c.give_back.new.hall)) c.in-Ok.ensures.ok
    c.give_back.ensures.back

pub returns-in-Ok-clause-armed : goal.returns-in-Ok-clause-armed
returns-in-Ok-clause-armed g c =
    let me = c.args.me in
    let old = g.H.Hall.state c.args.hall.now in
    let new = g.H.Hall.state c.give_back.new.hall in
    is_armed me c.args.ask.now (old.part me) (new.part me) c.args.segs c.requires.sound c.requires.has.standing c.requires.own
    (subst (λ (given : SegsView). (heap : ℕ) → new.part me heap ≡ part_after me given heap (old.part me heap)) c.in-Ok.ensures.ok
    c.give_back.ensures.back.gave.part)
    (subst (λ from. from < 16) c.requires.own c.requires.may.participant)

pub put_back-requires : goal.put_back-requires
put_back-requires g c = record {
  has = subst (λ (segs : SegsView). HasSegs c.args.me segs (g.H.Hall.state c.args.hall.now)) (sym c.in-Err.ensures.err) c.requires.has;
}

pub returns-in-Err-clause-held : goal.returns-in-Err-clause-held
returns-in-Err-clause-held g c = λ heap.
    let part = c.put_back.ensures.back.parts.part heap in
    record {
      entries = ap (λ (part : HeapPart). part.entries) part;
      marked = ap (λ (part : HeapPart). part.marked) part;
      serves = ap (λ (part : HeapPart). part.serves) part;
      told = ap (λ (part : HeapPart). part.told) part;
      naming = ap (λ (part : HeapPart). part.naming) part;
      claims = ap (λ (part : HeapPart). part.claims) part;
      holding = ap (λ (part : HeapPart). part.holding) part;
    }

pub returns-in-Err-clause-err : goal.returns-in-Err-clause-err
returns-in-Err-clause-err g c =
    subst (λ (given : SegsView). PutsBack c.args.me given (g.H.Hall.state c.args.hall.now) (g.H.Hall.state c.put_back.new.hall))
    c.in-Err.ensures.err c.put_back.ensures.back
