-- A step of the coordinator, whole.
use Rattle.std.specs.Prelude.{ℕ, List, Option, Some, None, is_some, position, slice_index_or, slice_set, if◌then◌else◌}
use Rattle.hp_base.specs.declared.caught.Caught.{Caught}
use Rattle.hp_segs.specs.SegsView.{SegsView}
use Rattle.hp_core.specs.Asks.{asker, is_unarmed}
use Rattle.hp_core.specs.Core.{Core, Stepped, going_on, is_foreign, is_idle, unchanged}
use Rattle.hp_core.specs.Mapped.{mapped}
use Rattle.hp_core.specs.Rounds.{polled}
use Rattle.hp_core.specs.Starting.{started}
use Rattle.hp_core.specs.declared.asked.Asked.{Asked}
use Rattle.hp_core.specs.declared.asked.Asked.TheVariants as asked
use Rattle.hp_core.specs.declared.event.CoreEvent.{CoreEvent}
use Rattle.hp_core.specs.declared.event.CoreEvent.TheVariants.{Grow, Shrink, SelfMapped, Poll}
use Rattle.hp_core.specs.declared.phase.Phase.{Phase}
use Rattle.hp_core.specs.declared.phase.Phase.TheVariants.{Idle, Mapping, Waiting}

-- the ask is held for its participant, in place of an earlier one
abbrev pub holding : Asked → Core → Core
holding asked core = record core { held = slice_set core.held (asker asked) (Some asked) }

-- an ask that comes while no growth of another's is open: it is started where nothing is under way, and else held; one that its
-- participant is not armed with is dropped
abbrev pub taken : (ℕ → ℕ → Option (List ℕ × ℕ)) → Asked → Core → SegsView → Stepped
taken denial asked core segs =
    if is_idle core.phase then going_on core (started denial asked segs)
    else (if is_unarmed asked segs then unchanged core segs else unchanged (holding asked core) segs)

-- an ask that comes: while a growth is open that the coordinator did not open, it is dropped
abbrev pub came : (ℕ → ℕ → Option (List ℕ × ℕ)) → Asked → Core → SegsView → Stepped
came denial asked core segs = if is_foreign core.phase segs.growth then unchanged core segs else taken denial asked core segs

-- the lowest participant for which an ask is held
abbrev pub lowest_held : List (Option Asked) → Option ℕ
lowest_held held = position is_some held

abbrev pub released : Core → ℕ → Core
released core place = record core { held = slice_set core.held place None }

abbrev pub served_ask : (ℕ → ℕ → Option (List ℕ × ℕ)) → Core → SegsView → Option Asked → Stepped
served_ask denial core segs None = unchanged core segs
served_ask denial core segs (Some asked) = came denial asked core segs

-- the held ask of a participant is started, as if it came now
abbrev pub served : (ℕ → ℕ → Option (List ℕ × ℕ)) → Core → SegsView → Option ℕ → Stepped
served denial core segs None = unchanged core segs
served denial core segs (Some place) = served_ask denial (released core place) segs (slice_index_or core.held place None)

abbrev pub caught_in : Core → SegsView → Caught → ℕ → Phase → Stepped
caught_in core segs caught now Idle = unchanged core segs
caught_in core segs caught now (Mapping round) = going_on core (mapped round caught now segs)
caught_in core segs caught now (Waiting round since) = unchanged core segs

abbrev pub polled_in : (ℕ → ℕ → Option (List ℕ × ℕ)) → Core → SegsView → ℕ → List ℕ → Phase → Stepped
polled_in denial core segs now acks Idle = served denial core segs (lowest_held core.held)
polled_in denial core segs now acks (Mapping round) = unchanged core segs
polled_in denial core segs now acks (Waiting round since) =
    going_on core (polled round (record { deadline = core.deadline; since = since; present = now }) acks segs)

-- what a step leaves and answers, where that is what a validator denies of a socket's bytes
abbrev pub stepped : (ℕ → ℕ → Option (List ℕ × ℕ)) → CoreEvent → Core → SegsView → Stepped
stepped denial (Grow ask) core segs = came denial (asked.Grow ask) core segs
stepped denial (Shrink from number) core segs = came denial (asked.Shrink from number) core segs
stepped denial (SelfMapped caught now) core segs = caught_in core segs caught now core.phase
stepped denial (Poll now acks) core segs = polled_in denial core segs now acks core.phase
