-- What the judge is asked at a step of the coordinator, and what it may answer.
use Rattle.std.specs.Prelude.{◌≡◌, ℕ, List, Option, Some, None, Result, Ok, Err, slice_index_or, if◌then◌else◌}
use Rattle.hp_base.specs.declared.row.Run.{Run}
use Rattle.hp_segs.specs.Plan.{plan_of}
use Rattle.hp_segs.specs.SegsView.{SegsView}
use Rattle.hp_segs.specs.Steps.{after_drop}
use Rattle.hp_segs.specs.declared.ask.Ask.{Ask}
use Rattle.hp_segs.specs.declared.plan_refusal.PlanRefusal.{PlanRefusal}
use Rattle.hp_core.specs.Asks.{is_armed, is_closed}
use Rattle.hp_core.specs.Core.{Core, Done, IsDone, IsStepped, Stepped, is_foreign, is_idle}
use Rattle.hp_core.specs.Starting.{total_with}
use Rattle.hp_core.specs.Stepping.{lowest_held, released}
use Rattle.hp_core.specs.declared.asked.Asked.{Asked}
use Rattle.hp_core.specs.declared.asked.Asked.TheVariants as asked
use Rattle.hp_core.specs.declared.event.CoreEvent.{CoreEvent}
use Rattle.hp_core.specs.declared.event.CoreEvent.TheVariants.{Grow, Shrink, SelfMapped, Poll}
use Rattle.hp_core.specs.declared.out.Out.{Out}
use Rattle.hp_core.specs.declared.phase.Next.{Next}
use Rattle.hp_core.specs.declared.phase.Phase.{Phase}
use Rattle.hp_core.specs.declared.phase.Phase.TheVariants.{Idle, Mapping, Waiting}

-- the judge is asked of a planned run: the ask's socket, and the bytes that it would have with the run
abbrev pub plan_judged : Ask → SegsView → Result Run PlanRefusal → Option (ℕ × ℕ)
plan_judged ask segs (Ok run) = Some (ask.socket, total_with ask run segs)
plan_judged ask segs (Err refusal) = None

-- of an ask for memory the run is planned after the drops
abbrev pub grow_judged : Ask → SegsView → Option (ℕ × ℕ)
grow_judged ask segs = plan_judged ask segs (plan_of ask segs)

-- of an ask that is not closed: one for memory, with which its participant is armed
abbrev pub fresh_judged : SegsView → Asked → Option (ℕ × ℕ)
fresh_judged segs (asked.Grow ask) = if is_armed ask segs then grow_judged ask (after_drop segs) else None
fresh_judged segs (asked.Shrink from number) = None

-- of an ask that is started
abbrev pub start_judged : Asked → SegsView → Option (ℕ × ℕ)
start_judged asked segs = if is_closed asked segs then None else fresh_judged segs asked

-- of an ask that comes: it is started while nothing is under way
abbrev pub ask_judged : Asked → Core → SegsView → Option (ℕ × ℕ)
ask_judged asked core segs =
    if is_foreign core.phase segs.growth then None else (if is_idle core.phase then start_judged asked segs else None)

-- of the held ask of a participant
abbrev pub held_ask_judged : Core → SegsView → Option Asked → Option (ℕ × ℕ)
held_ask_judged core segs None = None
held_ask_judged core segs (Some asked) = ask_judged asked core segs

abbrev pub held_judged : Core → SegsView → Option ℕ → Option (ℕ × ℕ)
held_judged core segs None = None
held_judged core segs (Some place) = held_ask_judged (released core place) segs (slice_index_or core.held place None)

-- at a poll: of the lowest held ask, while nothing is under way
abbrev pub poll_judged : Core → SegsView → Phase → Option (ℕ × ℕ)
poll_judged core segs Idle = held_judged core segs (lowest_held core.held)
poll_judged core segs (Mapping round) = None
poll_judged core segs (Waiting round since) = None

-- the socket and the bytes of which the judge is asked at a step, where it is asked
abbrev pub judged_at : CoreEvent → Core → SegsView → Option (ℕ × ℕ)
judged_at (Grow ask) core segs = ask_judged (asked.Grow ask) core segs
judged_at (Shrink from number) core segs = ask_judged (asked.Shrink from number) core segs
judged_at (SelfMapped caught now) core segs = None
judged_at (Poll now acks) core segs = poll_judged core segs core.phase

-- an answer that the judge may give where it is asked; where it is not, nothing is denied
abbrev pub MayAnswer : (ℕ → ℕ → Option (List ℕ × ℕ) → Type 0) → Option (ℕ × ℕ) → Option (List ℕ × ℕ) → Type 0
MayAnswer denies None answer = answer ≡ None
MayAnswer denies (Some (socket, total)) answer = denies socket total answer

-- an ask is started so for some answer that the judge may give
abbrev pub IsDoneBy : (ℕ → ℕ → Option (List ℕ × ℕ) → Type 0) → Option (ℕ × ℕ) → SegsView → Next
    → ((ℕ → ℕ → Option (List ℕ × ℕ)) → Done) → Type 0
IsDoneBy denies judged segs next done =
    (answer : Option (List ℕ × ℕ)) × MayAnswer denies judged answer × IsDone segs next (done (λ _ _. answer))

abbrev pub IsSteppedBy : (ℕ → ℕ → Option (List ℕ × ℕ) → Type 0) → Option (ℕ × ℕ) → Core → SegsView → Out
    → ((ℕ → ℕ → Option (List ℕ × ℕ)) → Stepped) → Type 0
IsSteppedBy denies judged core segs out after =
    (answer : Option (List ℕ × ℕ)) × MayAnswer denies judged answer × IsStepped core segs out (after (λ _ _. answer))
