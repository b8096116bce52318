use Rattle.std.proofs.Common.{ap}
use Rattle.hp_board.specs.Parts.{part_of}
use Rattle.hp_board.specs.Steps.{Sat}
use Rattle.hp_board.proofs.Restored.{restored_by}
use Rattle.hp_board.proofs.board.Board.ack.Goals as goal

pub returns-clause-restored : goal.returns-clause-restored
returns-clause-restored c =
    restored_by (part_of c.seat.inside.token.me.0) (part_of c.ack_word.new.token.me.0) c.args.number
    (ap (λ (m : Sat). part_of m.0) c.ack_word.ensures.acked) c.ack_word.ensures.formed
