use Rattle.std.proofs.Common.{false, true, [], ◌∷◌, ◌<◌, length, refl, Some, sym, ap, subst, inl, arith}
use Rattle.hp_hall.specs.HallState.{Did, OthersStay}
use Rattle.hp_hall.specs.Mail.{Notes}
use Rattle.hp_hall.specs.declared.note.Note.TheVariants.{Yielded}
use Rattle.hp_hall.proofs.HallStates.{did_then, others_then}
use Rattle.hp_plain.specs.HallView.{HallView}
use Rattle.hp_plain.specs.Opening.{AreHome}
use Rattle.hp_plain.specs.PlainState.{plain_state}
use Rattle.hp_plain.proofs.PlainStates.{did_one, stays_one}
use Rattle.hp_plain.proofs.Stepped.{MakesMail, makes_note}
use Rattle.test_solo.proofs.plain.notes.note_each.Goals as goal

pub ack-requires-clause-may : goal.ack-requires-clause-may
ack-requires-clause-may c = inl c.requires.joined

pub number_of-own-requires-clause-home : goal.number_of-own-requires-clause-home
number_of-own-requires-clause-home c = λ number below. c.ack.ensures.own.slots.home number (c.requires.home number below)

pub read-requires-clause-home : goal.read-requires-clause-home
read-requires-clause-home c = subst AreHome (sym c.note_yield.ensures.hall) c.number_of-other.ensures.home

-- what the note of a yield leaves
yielded : (old new : HallView) → MakesMail 1 (Notes (Yielded true (Some false))) old new
    → Did 1 (Notes (Yielded true (Some false)) ∷ []) (plain_state old) (plain_state new) × OthersStay 1 (plain_state old) (plain_state new)
yielded old new mails =
    (did_one 1 (Notes (Yielded true (Some false))) old new mails.makes, (stays_one 1 (Notes (Yielded true (Some false))) old new mails).others)

pub returns : goal.returns
returns c =
    let mid = c.number_of-other.new.hall in
    let last = c.note_yield.new.self in
    let declared : 1 < length mid.owns = omega (
      arith,
      c.number_of-other.ensures.count,
      c.number_of-own.ensures.count,
      c.ack.ensures.own.others.later.count,
      c.requires.two,
    ) in
    let yields = yielded mid last (makes_note mid last 1 (Yielded true (Some false)) c.note_yield.ensures.hall declared
    (record { shows = tt; clock = refl; numbers = refl }) tt refl) in
    record {
      count = omega (
        arith,
        c.read.ensures.count,
        ap (λ (h : HallView). length h.owns) c.note_yield.ensures.hall,
        c.number_of-other.ensures.count,
        c.number_of-own.ensures.count,
        c.ack.ensures.own.others.later.count,
        c.requires.two,
      );
      home = c.read.ensures.home;
      did = did_then c.ack.ensures.own.did (did_then c.number_of-own.ensures.did (did_then c.number_of-other.ensures.did
          (did_then yields.0 c.read.ensures.did)));
      others = others_then c.ack.ensures.own.others (others_then c.number_of-own.ensures.others (others_then c.number_of-other.ensures.others
          (others_then yields.1 c.read.ensures.others)));
    }
