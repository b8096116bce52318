use Rattle.std.proofs.Common.{length}
use Rattle.hp_proc.proofs.LeavingOn.{IsLeaving}
use Rattle.hp_proc.proofs.participant.Participant.leave_held.Given as goal

abbrev pub invariant-leaving : goal.invariant-leaving
invariant-leaving g l = IsLeaving l.fn.self l.self l.fn.heap l.heap

abbrev pub decreases-leaving : goal.decreases-leaving
decreases-leaving g l = length l.self.context.standing.chunks
