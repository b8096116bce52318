-- Participant 0's own failure is noted first.
use Rattle.std.proofs.Common.{[], subst}
use Rattle.hp_core.specs.Moves.{IsRoundMove, waits}
use Rattle.hp_core.proofs.StepLemmas.{catch_moves}
use Rattle.hp_core.proofs.mapped.go_on.Goals as goal

pub returns-then-members-eq0-clause-moves : goal.returns-then-members-eq0-clause-moves
returns-then-members-eq0-clause-moves c =
    catch_moves c.args.times c.args.segs.now c.settle.new.segs c.args.caught.now c.records-records.ensures.sound.places.primary
    (subst (λ behind. IsRoundMove c.args.times [] behind c.settle.new.segs) c.note.ensures.step c.settle.ensures.moves)

pub returns-else-members-eq0-clause-moves : goal.returns-else-members-eq0-clause-moves
returns-else-members-eq0-clause-moves c =
    catch_moves c.args.times c.args.segs.now c.note.new.segs c.args.caught.now c.records-records.ensures.sound.places.primary
    (waits c.note.ensures.step)
