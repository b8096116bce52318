-- Two places are set aside for the ask, and one of each is used.
use Rattle.std.proofs.Common.{None, arith}
use Rattle.std.proofs.lemmas.List.{get_or_default}
use Rattle.hp_segs.proofs.GrowthSteps.WithdrawSteps.{has_places, kept_withdrawn}
use Rattle.hp_segs.proofs.segs.Segs.log_withdrawn.Goals as goal

pub push-requires-clause-room : goal.push-requires-clause-room
push-requires-clause-room c =
    let may = rw (← c.self.view_is) at c.requires.may in
    let none = rw (← c.self.view_is) at c.requires.unanswered in
    rw c.deref_mut-parts.ensures.value
    (has_places c.args.from c.args.number c.args.since c.args.now c.self.invariant may none).1

pub invariant_of-self : goal.invariant_of-self
invariant_of-self c =
    let may = rw (← c.self.view_is) at c.requires.may in
    let none = rw (← c.self.view_is) at c.requires.unanswered in
    let off = rw (← c.self.view_is) at c.requires.none in
    let ask =
    get_or_default c.self.inside.parts.value.armed.value c.args.from c.index-deref-from.result None
    (omega (arith, may.participant, c.self.invariant.sound.places.armed_places)) in
    rw (c.push.ensures, c.records.ensures.records, c.deref.ensures, c.deref_mut-parts.ensures.value, ask)
    (kept_withdrawn c.args.from c.args.number c.args.since c.args.now c.self.invariant may none off)
