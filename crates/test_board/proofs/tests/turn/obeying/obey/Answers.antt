use Rattle.std.proofs.Common.{◌∙◌, ℕ, List, sym, ap, subst}
use Rattle.hp_segs.specs.SegsView.{SegsView, is_member}
use Rattle.hp_segs.specs.declared.outcome.AskLog.{AskLog}
use Rattle.hp_board.specs.Knowing.{knows_of}
use Rattle.test_board.specs.Asking.{IsRefusedIn}
use Rattle.test_board.specs.Playing.{HoldsSegs}
use Rattle.test_board.proofs.PlayLemmas.{turned_noted}
use Rattle.test_board.proofs.tests.turn.obeying.obey.Goals as goal

pub give_segs-requires-clause-holds : goal.give_segs-requires-clause-holds
give_segs-requires-clause-holds g c =
    subst (λ (segs : SegsView). HoldsSegs c.args.board.now.id segs c.taken_in-given.new.seat c.taken_in-given.new.maps) (sym c.of-taken.ensures) c.taken_in-given.ensures.holds

pub give_segs-requires-clause-gives : goal.give_segs-requires-clause-gives
give_segs-requires-clause-gives g c =
    subst (λ (segs : SegsView). Rattle.hp_hall.specs.Giving.GivesSegments (knows_of c.taken_in-given.new.seat.mine) segs c.taken_in-given.result) (sym c.of-taken.ensures)
    (c.taken_in-given.ensures.noted.gives (knows_of c.taken_in-given.new.seat.mine))

pub give_segs-requires-clause-member : goal.give_segs-requires-clause-member
give_segs-requires-clause-member g c =
    ap (λ roster. is_member roster c.taken_in-given.new.seat.mine.who) c.taken_in-given.ensures.noted.roster ∙ c.taken_in-given.ensures.holds.member

pub returns-clause-turned : goal.returns-clause-turned
returns-clause-turned g c =
    turned_noted c.args.board.now.id c.args.seat.now c.take_segs-segs.new.seat c.taken_in-given.new.seat c.give_segs.new.seat c.taken_in-given.new.maps c.take_segs-segs.result
    c.taken_in-given.result c.take_segs-segs.ensures.has c.taken_in-given.ensures.holds c.taken_in-given.ensures.comes c.taken_in-given.ensures.noted c.give_segs.ensures.given

pub returns-clause-refused : goal.returns-clause-refused
returns-clause-refused g c = λ refused.
    let asks = c.give_segs.ensures.given.heard ∙ c.taken_in-given.ensures.noted.asks in
    let who = c.participant-who.ensures ∙ c.take_segs-segs.ensures.has.who in
    subst (λ (heard : List AskLog). IsRefusedIn heard c.args.seat.now.mine.who c.args.number) (sym asks)
    (subst (λ (who : ℕ). IsRefusedIn c.take_segs-segs.result.asks who c.args.number) who (c.is_refused-refused.ensures refused))
