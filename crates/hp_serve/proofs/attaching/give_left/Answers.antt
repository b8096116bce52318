-- Who leaves the roster may give the segment value back so.
use Rattle.std.proofs.Common.{◌≡◌, ◌∙◌, ℕ, ap, sym, subst}
use Rattle.hp_hall.specs.Holding.{part_after}
use Rattle.hp_hall.proofs.Gives.{gives_leave}
use Rattle.hp_hall.specs.Giving.{GivesSegments}
use Rattle.hp_hall.specs.HallState.{known_to}
use Rattle.hp_segs.specs.SegsView.{SegsView}
use Rattle.hp_serve.specs.SegmentSlot.{GivesBack}
use Rattle.hp_serve.proofs.Attached.{left_same}
use Rattle.hp_serve.proofs.AskingFacts.Noting.{gives_in_place}
use Rattle.hp_serve.proofs.Standing.{standing_same}
use Rattle.hp_serve.proofs.attaching.give_left.Goals as goal

pub give_segments-requires-clause-serves : goal.give_segments-requires-clause-serves
give_segments-requires-clause-serves g c = c.requires.has.serves

pub give_segments-requires-clause-gives : goal.give_segments-requires-clause-gives
give_segments-requires-clause-gives g c =
    let me = c.args.me in
    let segs = c.args.segs in
    let knows = known_to me (g.H.Hall.state c.args.hall.now) in
    gives_in_place knows segs c.leave_roster.new.self c.requires.has.taken
    (subst (GivesSegments knows segs) (sym c.leave_roster.ensures.step)
    (gives_leave knows segs (record { member = sym c.is_member.ensures ∙ c.if-not-is_member.false; secondary = c.requires.secondary })
    c.requires.emptied))

pub give_segments-requires-clause-same : goal.give_segments-requires-clause-same
give_segments-requires-clause-same g c =
    let me = c.args.me in
    let parts = (g.H.Hall.state c.args.hall.now).part me in
    subst (λ (given : SegsView). (heap : ℕ) → part_after me given heap (parts heap) ≡ parts heap) (sym c.leave_roster.ensures.step)
    (standing_same me parts c.args.segs c.requires.has.standing)

pub returns-clause-log : goal.returns-clause-log
returns-clause-log g c = sym c.give_segments.ensures.back.gave.log ∙ ap (λ (segs : SegsView). segs.log) c.leave_roster.ensures.step

pub returns-clause-back : goal.returns-clause-back
returns-clause-back g c =
    subst (λ (given : SegsView). GivesBack c.args.me given (g.H.Hall.state c.args.hall.now) (g.H.Hall.state c.give_segments.new.hall))
    c.leave_roster.ensures.step c.give_segments.ensures.back

pub returns-then-not-is_member-clause-log : goal.returns-then-not-is_member-clause-log
returns-then-not-is_member-clause-log g c = sym c.put_back.ensures.back.back.gave.log

pub returns-then-not-is_member-clause-part : goal.returns-then-not-is_member-clause-part
returns-then-not-is_member-clause-part g c = c.put_back.ensures.back.parts.part

pub returns-then-not-is_member-clause-back : goal.returns-then-not-is_member-clause-back
returns-then-not-is_member-clause-back g c =
    subst (λ (given : SegsView). GivesBack c.args.me given (g.H.Hall.state c.args.hall.now) (g.H.Hall.state c.put_back.new.hall))
    (left_same c.args.me c.args.segs (sym c.is_member.ensures ∙ c.if-not-is_member.true)) c.put_back.ensures.back.back
