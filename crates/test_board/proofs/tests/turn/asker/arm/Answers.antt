use Rattle.std.proofs.Common.{sym, ap, subst, ◌∙◌}
use Rattle.hp_segs.specs.SegsView.{SegsView, is_member}
use Rattle.hp_hall.specs.Giving.{GivesSegments}
use Rattle.hp_board.specs.Knowing.{knows_of}
use Rattle.test_board.specs.Playing.{HoldsSegs}
use Rattle.test_board.proofs.AskLemmas.{asks_either, from_either, gives_either, roster_either, unarmed}
use Rattle.test_board.proofs.tests.turn.asker.arm.Goals as goal

pub armed-ask-requires-clause-asks : goal.armed-ask-requires-clause-asks
armed-ask-requires-clause-asks g c = c.take_segs-segs.ensures.holds.standing.sound

pub armed-ask-requires-clause-unarmed : goal.armed-ask-requires-clause-unarmed
armed-ask-requires-clause-unarmed g c =
    let holds = c.take_segs-segs.ensures.holds in
    unarmed c.args.seat.now.mine c.take_segs-segs.new.seat.mine c.take_segs-segs.result c.requires.asks.0 c.requires.asks.1 c.take_segs-segs.ensures.has holds.sound holds.standing

pub give_segs-requires-clause-holds : goal.give_segs-requires-clause-holds
give_segs-requires-clause-holds g c =
    subst (λ (segs : SegsView). HoldsSegs c.args.board.now.id segs c.take_segs-segs.new.seat c.args.maps.now) (sym c.of-taken.ensures) c.take_segs-segs.ensures.holds

pub give_segs-requires-clause-gives : goal.give_segs-requires-clause-gives
give_segs-requires-clause-gives g c =
    let holds = c.take_segs-segs.ensures.holds in
    subst (λ (segs : SegsView). GivesSegments (knows_of c.take_segs-segs.new.seat.mine) segs c.armed-ask.new.segs) (sym c.of-taken.ensures)
    (gives_either c.args.seat.now.mine c.take_segs-segs.new.seat.mine c.take_segs-segs.result c.armed-ask.new.segs c.requires.asks c.take_segs-segs.ensures.has holds.sound holds.standing
    c.armed-ask.result c.armed-ask.ensures.some c.armed-ask.ensures.none)

pub give_segs-requires-clause-member : goal.give_segs-requires-clause-member
give_segs-requires-clause-member g c =
    ap (λ roster. is_member roster c.take_segs-segs.new.seat.mine.who)
    (roster_either c.take_segs-segs.result c.armed-ask.new.segs c.armed-ask.result c.armed-ask.ensures.some c.armed-ask.ensures.none) ∙ c.take_segs-segs.ensures.holds.member

pub returns-clause-asks : goal.returns-clause-asks
returns-clause-asks g c =
    let holds = c.take_segs-segs.ensures.holds in
    asks_either c.args.seat.now.mine c.take_segs-segs.new.seat.mine c.take_segs-segs.result c.armed-ask.new.segs c.requires.asks c.take_segs-segs.ensures.has holds.sound holds.standing
    c.give_segs.new.seat.mine c.armed-ask.result c.armed-ask.ensures.some c.give_segs.ensures.given

pub returns-clause-from : goal.returns-clause-from
returns-clause-from g c = from_either c.take_segs-segs.result c.armed-ask.new.segs c.armed-ask.result c.armed-ask.ensures.some
