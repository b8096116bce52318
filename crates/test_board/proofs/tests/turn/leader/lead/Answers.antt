use Rattle.std.proofs.Common.{sym, ap, subst, ◌∙◌}
use Rattle.hp_segs.specs.SegsView.{SegsView, is_member}
use Rattle.hp_hall.specs.Giving.{GivesSegments}
use Rattle.hp_board.specs.Knowing.{knows_of}
use Rattle.test_board.specs.Playing.{HoldsSegs}
use Rattle.test_board.proofs.PlayLemmas.{come_has, turned}
use Rattle.test_board.proofs.tests.turn.leader.lead.Goals as goal

pub event_of-event-requires-clause-first : goal.event_of-event-requires-clause-first
event_of-event-requires-clause-first g c = c.take_segs-segs.ensures.has.who ∙ c.requires.first

pub handed-next-requires-clause-sound : goal.handed-next-requires-clause-sound
handed-next-requires-clause-sound g c = c.event_of-event.ensures.holds.sound

pub give_segs-requires-clause-holds : goal.give_segs-requires-clause-holds
give_segs-requires-clause-holds g c =
    subst (λ (segs : SegsView). HoldsSegs c.args.board.now.id segs c.event_of-event.new.seat c.event_of-event.new.maps) (sym c.of-taken.ensures) c.event_of-event.ensures.holds

pub give_segs-requires-clause-gives : goal.give_segs-requires-clause-gives
give_segs-requires-clause-gives g c =
    subst (λ (segs : SegsView). GivesSegments (knows_of c.event_of-event.new.seat.mine) segs c.handed-next.new.segs) (sym c.of-taken.ensures)
    (c.handed-next.ensures.gives (knows_of c.event_of-event.new.seat.mine) c.event_of-event.ensures.known)

pub give_segs-requires-clause-member : goal.give_segs-requires-clause-member
give_segs-requires-clause-member g c =
    ap (λ roster. is_member roster c.event_of-event.new.seat.mine.who) c.handed-next.ensures.roster ∙ c.event_of-event.ensures.holds.member

pub returns-clause-turned : goal.returns-clause-turned
returns-clause-turned g c =
    turned c.args.seat.now.mine c.event_of-event.new.seat.mine c.give_segs.new.seat.mine c.take_segs-segs.result c.handed-next.new.segs
    (come_has c.take_segs-segs.new.seat.mine c.event_of-event.new.seat.mine c.event_of-event.ensures.comes c.args.seat.now.mine c.take_segs-segs.result c.take_segs-segs.ensures.has)
    c.event_of-event.ensures.holds.standing c.handed-next.ensures.leaves c.give_segs.ensures.given
