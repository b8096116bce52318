-- What participant 0 does when it serves: the rule "Coordinating" of docs/PARTICIPANTS.md.
use Rattle.std.specs.Prelude.{◌≡◌, ◌≢◌, ℕ, zero, suc, ◌+◌, ◌-◌, ◌^◌, ◌≤◌, ◌<◌, ⊤, Bool, true, false, ◌==◌, nat_lt, List, [], ◌∷◌, ◌++◌, length, Option, Some, None, slice_index, if◌then◌else◌}
use Rattle.hp_base.specs.Requests.{raised_align, refusal_of, rounded_size}
use Rattle.hp_base.specs.declared.caught.Caught.{Caught}
use Rattle.hp_base.specs.declared.request.BadRequest.{BadRequest}
use Rattle.hp_base.specs.declared.request.Request.{Request}
use Rattle.hp_core.specs.Core.{Core, Stepped, holds_ask}
use Rattle.hp_core.specs.Following.{failure_of}
use Rattle.hp_core.specs.Judging.{MayAnswer, judged_at}
use Rattle.hp_core.specs.Stepping.{stepped}
use Rattle.hp_core.specs.declared.event.CoreEvent.{CoreEvent}
use Rattle.hp_core.specs.declared.event.CoreEvent.TheVariants.{Grow, Shrink, SelfMapped, Poll}
use Rattle.hp_core.specs.declared.out.Out.{Out}
use Rattle.hp_core.specs.declared.out.Out.TheVariants.{MapSelf}
use Rattle.hp_frame.specs.declared.frame.Frame.{Frame}
use Rattle.hp_frame.specs.declared.message.Body.{Body}
use Rattle.hp_frame.specs.declared.message.Body.TheVariants.{Alloc, Free, Sync, Answer}
use Rattle.hp_hall.specs.Mail.{MailStep, Fetches, Notes}
use Rattle.hp_hall.specs.declared.note.Note.TheVariants.{Loaded, Read}
use Rattle.hp_maps.specs.MapsView.{MapsView}
use Rattle.hp_segs.specs.SegsView.{SegsView}
use Rattle.hp_segs.specs.Steps.{after_reserve}
use Rattle.hp_segs.specs.declared.ask.Ask.{Ask}
use Rattle.hp_serve.specs.Denials.{Denials, nobody_denies}
use Rattle.hp_serve.specs.Falling.{IsDue}
use Rattle.hp_serve.specs.Frames.{Says, SaysNothing}
use Rattle.hp_serve.specs.Party.{Party, due_in}
use Rattle.hp_serve.specs.Posting.{IsPosted}
use Rattle.hp_serve.specs.Serving.{CatchesUp, MayStopMapping, after_catching_up, answer_after, gives_segments, hearing, takes_segments, tells_after_catching, IsMemberServed}

-- the segment value with places for a step: one for each Retiring run, and three
abbrev pub with_room : SegsView → SegsView
with_room segs = after_reserve (length segs.retiring + 3) segs

-- what a step makes of the coordinator and of the segment value that participant 0 has taken, where that is what the judge answers
abbrev pub stepping : Option (List ℕ × ℕ) → CoreEvent → Core → SegsView → Stepped
stepping denied event core taken = stepped (λ socket total. denied) event core (with_room taken)

-- the judge may answer so at a step with room: where it is not asked, nothing is denied
abbrev pub MayDeny : Denials → CoreEvent → Core → SegsView → Option (List ℕ × ℕ) → Type 0
MayDeny denies event core taken denied = MayAnswer denies (judged_at event core (with_room taken)) denied

-- what became of an event that the coordinator was to be handed, with the segment value that participant 0 has taken; the last part is
-- the coordinator's answer
pub data IsHanded (denies : Denials) (event : CoreEvent) (core after : Core) (taken : SegsView) (steps : List MailStep)
    (answer : Option Out)
    : Type 0 where
  -- the coordinator makes its step, with an answer that the judge may give, and the value is given back as the step leaves it
  handed : (denied : Option (List ℕ × ℕ)) → MayDeny denies event core taken denied
      → steps ≡ gives_segments (stepping denied event core taken).segs ∷ [] → after ≡ (stepping denied event core taken).core
      → answer ≡ Some (stepping denied event core taken).out → IsHanded denies event core after taken steps answer
  -- there was no memory for the places, and the value is given back as it was taken
  no_room : steps ≡ gives_segments taken ∷ [] → after ≡ core → answer ≡ None → IsHanded denies event core after taken steps answer

-- the numbers that an event names are acknowledged: those of a poll, by the numbers that participant 0 knows of; and that of participant 0
-- itself, where it says that no mapping failed
abbrev pub IsTrueOf : (ℕ → ℕ) → ℕ → CoreEvent → Type 0
IsTrueOf noted records (Grow ask) = ⊤
IsTrueOf noted records (Shrink from number) = ⊤
IsTrueOf noted records (SelfMapped caught now) = failure_of caught ≡ None → records ≤ noted 0
IsTrueOf noted records (Poll now acks) = (member : ℕ) → member < 16 → slice_index acks member ≤ noted member

-- an event that participant 0 doesn't have to map for
abbrev pub IsOutside : CoreEvent → Type 0
IsOutside (Grow ask) = ⊤
IsOutside (Shrink from number) = ⊤
IsOutside (SelfMapped caught now) = ⊥
IsOutside (Poll now acks) = ⊤

-- participant 0 takes the segment value and hands its coordinator an event
pub record Hands (denies : Denials) (event : CoreEvent) (core after : Core) (steps : List MailStep) (answer : Option Out) : Type 0 where
  pub taken : SegsView
  pub more : List MailStep
  pub begins : steps ≡ takes_segments taken ∷ more
  pub is_handed : IsHanded denies event core after taken more answer

-- a participant with a coordinator
abbrev pub with_core : Core → Party → Party
with_core core party = record party { core = Some core }

-- participant 0 catches up for a round: with the log as it stands, whatever generation is named; it acknowledges that, looks up its own
-- number, reads its clock, and says to its coordinator what became of it; no judge is asked then
pub data IsMapped (party after : Party) (steps : List MailStep) (answer : Option Out) : Type 0 where
  maps : (core next : Core) (taken : SegsView) (caught : Caught) (table : MapsView) (own now : ℕ) (more : List MailStep)
      → party.core ≡ Some core
      → steps ≡ takes_segments taken ∷ (tells_after_catching caught (length taken.log) ++ (Notes (Loaded 0 own) ∷ Notes (Read now) ∷ more))
      → CatchesUp taken.log party.maps table caught
      → IsHanded nobody_denies (SelfMapped caught now) core next taken more answer
      → after ≡ with_core next (after_catching_up taken.log caught table party) → IsMapped party after steps answer
  -- it stops where it would catch up
  worn : (taken : SegsView) → MayStopMapping party.maps party.listeners → steps ≡ takes_segments taken ∷ gives_segments taken ∷ [] → after ≡ party → answer ≡ None
      → IsMapped party after steps answer

-- participant 0 is told to catch up
abbrev pub MustMap : Out → Type 0
MustMap (MapSelf generation) = ⊤
MustMap _ = ⊥

-- what the coordinator answers is done: what is to be posted is posted, or participant 0 is to catch up and could not, and stops
pub data IsSettled (count : ℕ) (party after : Party) (answer : Out) (steps : List MailStep) (goes : Bool) : Type 0 where
  posts : IsPosted count party after answer steps → goes ≡ true → IsSettled count party after answer steps goes
  stops : MustMap answer → IsMapped party after steps None → goes ≡ false → IsSettled count party after answer steps goes

-- it catches up as often as the coordinator tells it to, each time with what it was before, and then what is answered is settled
abbrev pub IsCarried : ℕ → List Party → Party → Party → Out → List MailStep → Bool → Type 0
IsCarried count [] party after answer steps goes = IsSettled count party after answer steps goes
IsCarried count (mid ∷ path) party after answer steps goes =
    (next : Out) × (first : List MailStep) × (more : List MailStep) × (steps ≡ first ++ more) × MustMap answer
    × IsMapped party mid first (Some next) × IsCarried count path mid after next more goes

-- an event is handed to the coordinator, and its answers are carried out
pub data IsHandled (denies : Denials) (count : ℕ) (event : CoreEvent) (party after : Party) (steps : List MailStep)
    (goes : Bool) : Type 0 where
  carries : (core next : Core) (answer : Out) (path : List Party) (first more : List MailStep) → party.core ≡ Some core
      → Hands denies event core next first (Some answer) → IsCarried count path (with_core next party) after answer more goes
      → steps ≡ first ++ more → IsHandled denies count event party after steps goes
  stops : (core next : Core) → party.core ≡ Some core → Hands denies event core next steps None → after ≡ with_core next party
      → goes ≡ false
      → IsHandled denies count event party after steps goes

-- participant 0 looks up the numbers of the first participants, so many, one after another, as far as the hall has them
unfoldable pub loads_of : ℕ → List ℕ → ℕ → List MailStep
loads_of count acks zero = []
loads_of count acks (suc n) = loads_of count acks n ++ (if nat_lt n count then Notes (Loaded n (slice_index acks n)) ∷ [] else [])

-- these are the numbers of all participants, as it looked them up, and 0 for those that the hall doesn't have
pub record AreLookedUp (count : ℕ) (acks : List ℕ) (steps : List MailStep) : Type 0 where
  pub looked_up : steps ≡ loads_of count acks 16
  pub nobody : (member : ℕ) → count ≤ member → member < 16 → slice_index acks member ≡ 0

-- it polls its coordinator at a reading of its clock, with these numbers
pub record IsPolled (denies : Denials) (count now : ℕ) (party after : Party) (steps : List MailStep) (goes : Bool) : Type 0 where
  pub acks : List ℕ
  pub looks : List MailStep
  pub more : List MailStep
  pub looked_up : AreLookedUp count acks looks
  pub handled : IsHandled denies count (Poll now acks) party after more goes
  pub are : steps ≡ looks ++ more

-- an accepted request has the numbers of the message: the size in whole lines, and an alignment of a line at least
pub record IsRequestOf (size align bound flags : ℕ) (request : Request) : Type 0 where
  pub accepted : refusal_of size align bound ≡ None
  pub size_is : request.size ≡ rounded_size size
  pub align_is : request.align ≡ raised_align align
  pub bound_is : request.bound ≡ bound
  pub flags_are : request.flags ≡ flags

-- an ALLOC or a FREE of a declared participant is an ask of it
pub data IsAskIn (count : ℕ) (body : Body) (event : CoreEvent) : Type 0 where
  asks : (ask : Ask) (size align bound flags : ℕ)
      → body ≡ Alloc ask.from ask.number ask.heap ask.socket ask.page size align bound flags → ask.from < count
      → IsRequestOf size align bound flags ask.request → event ≡ Grow ask → IsAskIn count body event
  frees : (from number heap address len : ℕ) → body ≡ Free from number heap address len → from < count → event ≡ Shrink from number
      → IsAskIn count body event

-- why a message is no ask: it is of another kind, of a participant that isn't declared, or its numbers make no request
pub data IsNoAsk (count : ℕ) (body : Body) : Type 0 where
  syncs : (generation round : ℕ) → body ≡ Sync generation round → IsNoAsk count body
  answers : (from number what code : ℕ) → body ≡ Answer from number what code → IsNoAsk count body
  undeclared_asker : (from number heap socket page size align bound flags : ℕ) → body ≡ Alloc from number heap socket page size align bound flags
      → count ≤ from → IsNoAsk count body
  undeclared_giver : (from number heap address len : ℕ) → body ≡ Free from number heap address len → count ≤ from → IsNoAsk count body
  no_request : (from number heap socket page size align bound flags : ℕ) (why : BadRequest)
      → body ≡ Alloc from number heap socket page size align bound flags → refusal_of size align bound ≡ Some why → IsNoAsk count body

-- a member's reply to a SYNC
abbrev pub is_sync_reply : Body → Bool
is_sync_reply (Answer from number what code) = what == 1
is_sync_reply _ = false

-- what a message that is no ask makes of participant 0: a reply to a SYNC is a poll where a round is under way, an answer to its own last
-- ask is noted, and anything else is dropped
pub data IsAnswered (denies : Denials) (count : ℕ) (party after : Party) (body : Body) (steps : List MailStep) (goes : Bool) : Type 0 where
  polls : (due now : ℕ) (more : List MailStep) → is_sync_reply body ≡ true → due_in party.core ≡ Some due
      → steps ≡ Notes (Read now) ∷ more → IsPolled denies count now party after more goes
      → IsAnswered denies count party after body steps goes
  rests : is_sync_reply body ≡ true → due_in party.core ≡ None → steps ≡ [] → after ≡ party → goes ≡ true
      → IsAnswered denies count party after body steps goes
  hears : is_sync_reply body ≡ false → steps ≡ [] → after ≡ hearing body party → goes ≡ true
      → IsAnswered denies count party after body steps goes

-- what a frame makes of participant 0; the last part tells whether it goes on, or stopped
pub data IsFrameHandled (denies : Denials) (count : ℕ) (party after : Party) (frame : Frame) (steps : List MailStep) (goes : Bool) : Type 0 where
  -- it says nothing to it, and is dropped
  drops : SaysNothing frame → steps ≡ [] → after ≡ party → goes ≡ true → IsFrameHandled denies count party after frame steps goes
  -- each ask of a declared participant is handed to the coordinator
  asks : (body : Body) (event : CoreEvent) → Says frame body → IsAskIn count body event
      → IsHandled denies count event party after steps goes
      → IsFrameHandled denies count party after frame steps goes
  others : (body : Body) → Says frame body → IsNoAsk count body → IsAnswered denies count party after body steps goes
      → IsFrameHandled denies count party after frame steps goes

-- a participant's coordinator holds an ask that can be started
abbrev pub core_holds : Option Core → Bool
core_holds None = false
core_holds (Some core) = holds_ask core

-- a deadline is still to come at a reading, or is one that never passes
abbrev pub IsToComeAt : ℕ → Option ℕ → Type 0
IsToComeAt now due = (deadline : ℕ) → due ≡ Some deadline → deadline < 2 ^ 64 - 1 → now < deadline

-- what is done at an empty mailbox, by a reading of the clock
pub data IsRested (denies : Denials) (count : ℕ) (party after : Party) (steps : List MailStep) (answer : Option Bool) : Type 0 where
  -- no held ask can be started, and the deadline of no round has passed
  rests : (now : ℕ) → core_holds party.core ≡ false → IsToComeAt now (due_in party.core) → steps ≡ Notes (Read now) ∷ [] → after ≡ party
      → answer ≡ Some false → IsRested denies count party after steps answer
  -- a poll is due
  polls : (now : ℕ) (more : List MailStep) (goes : Bool) → IsDue party.core (Poll now []) → steps ≡ Notes (Read now) ∷ more
      → IsPolled denies count now party after more goes → answer ≡ answer_after goes → IsRested denies count party after steps answer

-- what serving makes of participant 0, by what it did, and its answer: whether it did something, or that it stopped
pub data IsCoreServed (denies : Denials) (count : ℕ) (party after : Party) (steps : List MailStep) (answer : Option Bool) : Type 0 where
  -- its mailbox was empty
  rests : (more : List MailStep) → steps ≡ Fetches None ∷ more → IsRested denies count party after more answer
      → IsCoreServed denies count party after steps answer
  -- it fetched a frame
  heeds : (frame : Frame) (more : List MailStep) (goes : Bool) → steps ≡ Fetches (Some frame) ∷ more
      → IsFrameHandled denies count party after frame more goes → answer ≡ answer_after goes → IsCoreServed denies count party after steps answer

-- what serving makes of a participant
pub data IsServed (denies : Denials) (count : ℕ) (party after : Party) (steps : List MailStep) (answer : Option Bool) : Type 0 where
  coordinates : party.me ≡ 0 → IsCoreServed denies count party after steps answer → IsServed denies count party after steps answer
  follows : party.me ≢ 0 → IsMemberServed party after steps answer → IsServed denies count party after steps answer
