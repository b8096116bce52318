use Rattle.std.proofs.Common.{◌∙◌, arith}
use Rattle.test_board.proofs.PlayLemmas.{come_who, noted_first}
use Rattle.test_board.proofs.tests.turn.leader.mapped_of.Goals as goal

pub returns-clause-known : goal.returns-clause-known
returns-clause-known c = λ none.
    let mine = c.take_in.new.seat.mine in
    let own = noted_first mine (come_who c.args.seat.now.mine mine c.take_in.ensures.comes ∙ c.requires.first) in
    let number = c.in-Some.ensures.done none in
    omega (arith, own, number)
