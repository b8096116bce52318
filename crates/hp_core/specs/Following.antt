-- A failed mapping that a participant notes, and its reply.
use Rattle.std.specs.Prelude.{ℕ, length, Option, Some, None, is_some, if◌then◌else◌}
use Rattle.hp_base.specs.declared.caught.Caught.{Caught}
use Rattle.hp_base.specs.declared.caught.Caught.TheVariants.{Done, Refused, Elsewhere}
use Rattle.hp_base.specs.declared.map_answer.MapAnswer.TheVariants as answer
use Rattle.hp_frame.specs.declared.message.Body.{Body}
use Rattle.hp_frame.specs.declared.message.Body.TheVariants.{Answer}
use Rattle.hp_segs.specs.LaterSteps.{after_note, is_failure}
use Rattle.hp_segs.specs.SegsView.{SegsView}
use Rattle.hp_core.specs.declared.following.Failure.{Failure}

-- the mapping that failed, where one did
abbrev pub failure_of : Caught → Option Failure
failure_of Done = None
failure_of (Refused row call) = Some (record { row = row; call = call; got = answer.Refused })
failure_of (Elsewhere row call got) = if is_failure row got then Some (record { row = row; call = call; got = got }) else None

-- the failure is noted for the open growth, where it is one of it
abbrev pub noted : ℕ → SegsView → Option Failure → SegsView
noted participant segs None = segs
noted participant segs (Some failure) = after_note participant failure.call failure.row failure.got segs

-- a participant that has caught up, or failed to
abbrev pub after_catching : ℕ → Caught → SegsView → SegsView
after_catching participant caught segs = noted participant segs (failure_of caught)

-- the reply: the number of records, and 1 where a mapping failed
abbrev pub reply_of : ℕ → Caught → SegsView → Body
reply_of me caught segs = Answer me (length segs.log) 1 (if is_some (failure_of caught) then 1 else 0)
