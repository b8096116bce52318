-- Who has taken the whole log in may give the segment value back with itself in the roster.
use Rattle.std.proofs.Common.{◌≡◌, ◌∙◌, ℕ, ap, sym, subst}
use Rattle.hp_hall.specs.Holding.{part_after}
use Rattle.hp_hall.proofs.Gives.{gives_join}
use Rattle.hp_hall.specs.Giving.{GivesSegments}
use Rattle.hp_hall.specs.HallState.{known_to}
use Rattle.hp_segs.specs.SegsView.{SegsView}
use Rattle.hp_serve.specs.SegmentSlot.{GivesBack}
use Rattle.hp_serve.proofs.Attached.{joined_same}
use Rattle.hp_serve.proofs.AskingFacts.Noting.{gives_in_place}
use Rattle.hp_serve.proofs.Standing.{standing_same}
use Rattle.hp_serve.proofs.attaching.give_joined.Goals as goal

pub give_segments-requires-clause-serves : goal.give_segments-requires-clause-serves
give_segments-requires-clause-serves g c = c.requires.has.serves

pub give_segments-requires-clause-gives : goal.give_segments-requires-clause-gives
give_segments-requires-clause-gives g c =
    let me = c.args.me in
    let segs = c.args.segs in
    let knows = known_to me (g.H.Hall.state c.args.hall.now) in
    gives_in_place knows segs c.join_roster.new.self c.requires.has.taken
    (subst (GivesSegments knows segs) (sym c.join_roster.ensures.step)
    (gives_join knows segs (record { declared = c.requires.few; out = sym c.is_member.ensures ∙ c.if-is_member.false; all = c.requires.whole })
    c.requires.acked))

pub give_segments-requires-clause-same : goal.give_segments-requires-clause-same
give_segments-requires-clause-same g c =
    let me = c.args.me in
    let parts = (g.H.Hall.state c.args.hall.now).part me in
    subst (λ (given : SegsView). (heap : ℕ) → part_after me given heap (parts heap) ≡ parts heap) (sym c.join_roster.ensures.step)
    (standing_same me parts c.args.segs c.requires.has.standing)

pub returns-clause-log : goal.returns-clause-log
returns-clause-log g c = sym c.give_segments.ensures.back.gave.log ∙ ap (λ (segs : SegsView). segs.log) c.join_roster.ensures.step

pub returns-clause-back : goal.returns-clause-back
returns-clause-back g c =
    subst (λ (given : SegsView). GivesBack c.args.me given (g.H.Hall.state c.args.hall.now) (g.H.Hall.state c.give_segments.new.hall))
    c.join_roster.ensures.step c.give_segments.ensures.back

pub returns-then-is_member-clause-log : goal.returns-then-is_member-clause-log
returns-then-is_member-clause-log g c = sym c.put_back.ensures.back.back.gave.log

pub returns-then-is_member-clause-part : goal.returns-then-is_member-clause-part
returns-then-is_member-clause-part g c = c.put_back.ensures.back.parts.part

pub returns-then-is_member-clause-back : goal.returns-then-is_member-clause-back
returns-then-is_member-clause-back g c =
    subst (λ (given : SegsView). GivesBack c.args.me given (g.H.Hall.state c.args.hall.now) (g.H.Hall.state c.put_back.new.hall))
    (joined_same c.args.me c.args.segs (sym c.is_member.ensures ∙ c.if-is_member.true)) c.put_back.ensures.back.back
