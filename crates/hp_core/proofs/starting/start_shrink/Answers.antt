-- The move is the drops and this call.
use Rattle.std.proofs.Common.{ap, ◌∙◌}
use Rattle.hp_segs.specs.Steps.{after_freed}
use Rattle.hp_core.specs.declared.asked.Asked.TheVariants.{Shrink}
use Rattle.hp_core.specs.Moves.{frees}
use Rattle.hp_core.proofs.StepLemmas.{may_drop, may_log_freed}
use Rattle.hp_core.proofs.starting.start_shrink.Goals as goal

pub returns-clause-moves : goal.returns-clause-moves
returns-clause-moves c =
    let asked = Shrink c.args.from c.args.number in
    frees c.args.from c.args.number (may_drop asked c.args.segs.now c.requires.may)
    (may_log_freed asked c.args.segs.now c.requires.may c.requires.above)
    (c.log_freed.ensures.step ∙ ap (after_freed c.args.from c.args.number) c.drop_retiring.ensures.step)
