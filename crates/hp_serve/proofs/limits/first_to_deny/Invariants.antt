-- Those so far allow the bytes.
use Rattle.std.proofs.Common.{take}
use Rattle.std.specs.List.{All}
use Rattle.hp_events.specs.Validators.{Allows}
use Rattle.hp_serve.specs.Denials.{AnswersSo}
use Rattle.hp_serve.proofs.limits.first_to_deny.Given as goal

abbrev pub invariant-loop-own : goal.invariant-loop-own
invariant-loop-own g l = All (Allows AnswersSo l.socket l.total) (take l.own-index l.kept)
