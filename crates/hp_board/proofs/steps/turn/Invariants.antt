use Rattle.std.proofs.Common.{◌≡◌}
use Rattle.hp_board.specs.Turns.{turned_by}
use Rattle.hp_board.proofs.steps.turn.Given as goal

abbrev pub invariant-loop : goal.invariant-loop
invariant-loop l =
    (l.token.table_id ≡ l.initial.token.table_id) × (l.token.me.0 ≡ l.initial.token.me.0) × (l.token.me.1 ≡ turned_by l.counter l.initial.token.me.1)
