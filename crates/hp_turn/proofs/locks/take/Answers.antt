use Rattle.std.proofs.Common.{refl, ◌∙◌}
use Rattle.hp_hall.specs.Slots.{slot_number}
use Rattle.hp_board.proofs.Finds.{finds_none, finds_one, handed_after, taken_after}
use Rattle.hp_turn.proofs.locks.take.Goals as goal

pub loop-init : goal.loop-init
loop-init g c = (refl, finds_none c.args.seat.now.mine)

pub loop-preserved : goal.loop-preserved
loop-preserved g c = (
  c.try_take.ensures.board ∙ c.loop.invariant.0,
  finds_one c.args.seat.now.mine c.loop.seat.mine c.try_take.new.seat.mine (slot_number c.args.slot) c.in_default.field-0.word c.loop.invariant.1 c.in_default.ensures.noted,
)

pub returns-in-Ok-clause-handed : goal.returns-in-Ok-clause-handed
returns-in-Ok-clause-handed g c =
    handed_after c.args.seat.now.mine c.loop.seat.mine (slot_number c.args.slot) c.in-Ok.kept c.try_take.new.seat.mine c.loop.invariant.1 c.in-Ok.ensures.handed

pub returns-in-Ok-clause-taken : goal.returns-in-Ok-clause-taken
returns-in-Ok-clause-taken g c =
    taken_after c.args.seat.now.mine c.loop.seat.mine c.try_take.new.seat.mine (slot_number c.args.slot) c.in-Ok.kept c.loop.invariant.1 c.in-Ok.ensures.taken
