use Rattle.std.proofs.Common.{ap, sym, ◌∙◌}
use Rattle.atomic_table.specs.Table.{turned}
use Rattle.hp_board.specs.Steps.{Sat}
use Rattle.hp_board.proofs.Turning.{turned_by-more}
use Rattle.hp_board.proofs.steps.turn.Goals as goal

pub loop-preserved : goal.loop-preserved
loop-preserved c = (
  c.turn.ensures.0 ∙ c.loop.invariant.0,
  ap (λ (m : Sat). m.0) c.turn.ensures.2 ∙ c.loop.invariant.1,
  ap (λ (m : Sat). m.1) c.turn.ensures.2 ∙ ap turned c.loop.invariant.2 ∙ sym (turned_by-more c.loop.counter c.args.token.now.me.1),
)
