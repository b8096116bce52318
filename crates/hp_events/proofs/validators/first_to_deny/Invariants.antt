-- Those so far allow the bytes.
use Rattle.std.proofs.Common.{take}
use Rattle.std.specs.List.{All}
use Rattle.hp_events.specs.Validators.{Allows}
use Rattle.hp_events.proofs.validators.first_to_deny.Given as goal

abbrev pub invariant-loop-own : goal.invariant-loop-own
invariant-loop-own g l = All (Allows (goal.F-post g) l.socket l.total) (take l.own-index l.list)
