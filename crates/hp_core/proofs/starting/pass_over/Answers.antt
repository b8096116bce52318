-- The move is this call.
use Rattle.std.proofs.Common.{◌≡◌}
use Rattle.hp_segs.specs.LaterSteps.{after_stale}
use Rattle.hp_core.specs.Asks.{asker, number_of}
use Rattle.hp_core.specs.Moves.{stale}
use Rattle.hp_core.proofs.StepLemmas.{may_log_stale}
use Rattle.hp_core.proofs.starting.pass_over.Goals as goal

pub returns-clause-moves : goal.returns-clause-moves
returns-clause-moves c =
    let asked = c.args.asked.now in
    let step : c.log_stale.new.self ≡ after_stale (asker asked) (number_of asked) c.args.segs.now = cc in
    stale (asker asked) (number_of asked) (may_log_stale asked c.args.segs.now c.requires.may c.requires.closed) step
