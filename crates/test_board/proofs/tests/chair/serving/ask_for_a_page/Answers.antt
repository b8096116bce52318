-- The heap is in its hand, and it was armed with no ask before.
use Rattle.std.proofs.Common.{ℕ, sym, subst}
use Rattle.test_board.proofs.Taking.{TookFirst, can_ask, holds_it, none_open}
use Rattle.test_board.proofs.tests.chair.serving.ask_for_a_page.Goals as goal

pub take-requires-clause-serves : goal.take-requires-clause-serves
take-requires-clause-serves g c =
    subst (λ (n : ℕ). (g.H.Hall.state c.args.hall.now).serves n) (sym c.number.ensures) c.requires.can.may.serves

pub ask-requires : goal.ask-requires
ask-requires g c =
    let me = c.args.party.now.me in
    let old = g.H.Hall.state c.args.hall.now in
    let mid = g.H.Hall.state c.take.new.self in
    let kept = c.take.result in
    let is : TookFirst me kept old mid =
    subst (λ (n : ℕ). TookFirst n kept old mid) c.number.ensures
    (record { took = c.take.ensures.took; slots = c.take.ensures.slots; others = c.take.ensures.others }) in
    record {
      may_ask = tt;
      can = can_ask me old mid kept is c.args.party.now c.requires.can;
      holds = holds_it me old mid kept is;
      settled = none_open me old mid kept is c.requires.unarmed;
    }
