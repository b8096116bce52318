use Rattle.std.proofs.Common.{inl, sym, ◌∙◌, arith}
use Rattle.test_board.proofs.PlayLemmas.{ack_comes, ack_own, partial_comes, partial_own}
use Rattle.test_board.proofs.tests.turn.member.tell.Goals as goal

pub ack-requires-clause-hand : goal.ack-requires-clause-hand
ack-requires-clause-hand c = inl c.requires.joined

pub ack-requires-clause-seen : goal.ack-requires-clause-seen
ack-requires-clause-seen c = let seen = c.requires.seen in omega (arith, seen)

pub returns-then-is_done-clause-comes : goal.returns-then-is_done-clause-comes
returns-then-is_done-clause-comes c = ack_comes c.args.seat.now.mine c.ack.new.seat.mine c.args.records c.ack.ensures.acked

pub returns-then-is_done-clause-own : goal.returns-then-is_done-clause-own
returns-then-is_done-clause-own c =
    ack_own c.args.seat.now.mine c.ack.new.seat.mine c.args.caught.now c.args.records (sym c.is_done.ensures ∙ c.if-is_done.true) c.ack.ensures.acked

pub returns-clause-comes : goal.returns-clause-comes
returns-clause-comes c = partial_comes c.args.seat.now.mine c.note_unmapped.new.seat.mine c.note_unmapped.ensures.unmapped

pub returns-clause-own : goal.returns-clause-own
returns-clause-own c =
    partial_own c.args.seat.now.mine c.note_unmapped.new.seat.mine c.args.caught.now c.args.records (sym c.is_done.ensures ∙ c.if-is_done.false) c.requires.seen c.note_unmapped.ensures.unmapped
