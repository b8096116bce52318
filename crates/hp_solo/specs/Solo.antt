-- A hall in which participants take turns in one thread, as contracts see it: the rule "Turns in one thread" of docs/RUNS.md.
use Rattle.std.specs.Prelude.{◌≡◌, ◌≢◌, ℕ, zero, suc, ◌+◌, ◌<◌, ◌≤◌, ◌⊎◌, ◌^◌, ◌-◌, Bool, true, false, List, [], ◌∷◌, ◌++◌, length, Option, Some, None, IsSome, slice_get, sum_by, if◌then◌else◌, ⊤}
use Rattle.std.specs.List.{list_any}
use Rattle.std.specs.Global.{Box}
use Rattle.hp_base.specs.declared.chunk.Chunk.{Chunk}
use Rattle.hp_base.specs.declared.limits.TheConstants.{MAX_HEAPS}
use Rattle.hp_plain.specs.Course.{IsCourse}
use Rattle.hp_plain.specs.HallView.{HallView, HasDone, IsHome, joined_in, lines_at, marks_in, own_at, part_in, seen_in, slot_at, taken_from}
use Rattle.hp_hall.specs.Mail.{Fetches, MailStep, Notes}
use Rattle.hp_plain.specs.Boxes.{box_of}
use Rattle.hp_hall.specs.Measures.{boxes_measure, pending_at}
use Rattle.hp_hall.specs.declared.note.Note.TheVariants.{Read}
use Rattle.hp_events.specs.declared.validator.Validator.{Validator}
use Rattle.hp_serve.specs.Denials.{Denials, denials_by, nobody_denies}
use Rattle.hp_serve.specs.declared.judged_server.JudgedServer.{JudgedServer}
use Rattle.hp_serve.specs.Falling.{own_measure}
use Rattle.hp_serve.specs.Party.{IsSameParty, Party, due_in}
use Rattle.hp_serve.specs.Tied.{IsTiedAs}
use Rattle.hp_solo.specs.Served.{HasServedAt}

-- who serves while others do their lines: a participant with its validators, which is away while its own line is done, and whether it has met
-- a refusal of memory, and does no further line
pub record AloneView : Type 0 where
  pub party : Option Party
  pub validators : List (Validator Bool)
  pub stopped : Bool

-- the plain values, and who serves, by number
pub record SoloView : Type 0 where
  pub plain : HallView
  pub servers : List AloneView

-- a participant that is there, in its box, and its validators
abbrev pub party_of : {M F : Type 0} → Option (Box (JudgedServer M F)) → Option Party
party_of None = None
party_of (Some judged) = Some judged.value.server

abbrev pub limits_of : {M F : Type 0} → Option (Box (JudgedServer M F)) → List (Validator Bool)
limits_of None = []
limits_of (Some judged) = judged.value.limits

-- a place whose participant is away
abbrev pub nobody : AloneView
nobody = record { party = None; validators = []; stopped = false }

-- what is denied by whoever serves at a place: the first of its validators that does
abbrev pub denials_in : Option AloneView → Denials
denials_in None = nobody_denies
denials_in (Some server) = denials_by server.validators

-- a place once its participant has gone with its validators, or one has come with its own; whether it has stopped stays
abbrev pub with_party : Option Party → List (Validator Bool) → AloneView → AloneView
with_party party validators server = record server { party = party; validators = validators }

abbrev pub server_at : List AloneView → ℕ → Option AloneView
server_at servers who = slice_get servers who

abbrev pub party_in : Option AloneView → Option Party
party_in None = None
party_in (Some server) = server.party

-- the participant of a number that is there to serve
abbrev pub party_at : List AloneView → ℕ → Option Party
party_at servers who = party_in (server_at servers who)

-- the validators of the participant of a number that is there
abbrev pub limits_in : Option AloneView → List (Validator Bool)
limits_in None = []
limits_in (Some server) = server.validators

abbrev pub limits_at : List AloneView → ℕ → List (Validator Bool)
limits_at servers who = limits_in (server_at servers who)

-- the participant of a number is away
abbrev pub IsAway : Option AloneView → Type 0
IsAway None = ⊥
IsAway (Some server) = server.party ≡ None

-- the chunks of a heap that have a participant's mark, as far as the heap was given back
abbrev pub marked_at : HallView → ℕ → ℕ → List Chunk
marked_at hall who heap = marks_in who (slot_at hall heap)

-- a participant's table is tied to what the hall knows of that number
abbrev pub IsTiedFor : HallView → ℕ → Party → Type 0
IsTiedFor hall who party = IsTiedAs (seen_in hall) (own_at hall who) (marked_at hall who) (joined_in hall who) party.joined party.maps

-- a participant has that number, and its table is tied to what the hall knows of it
pub record IsTiedAt (hall : HallView) (who : ℕ) (party : Party) : Type 0 where
  pub number : party.me ≡ who
  pub tied : IsTiedFor hall who party

-- each that is there to serve is tied
abbrev pub AreTied : HallView → List AloneView → Type 0
AreTied hall servers = (who : ℕ) (party : Party) → party_at servers who ≡ Some party → IsTiedAt hall who party

-- what holds of every such hall: each participant of its values is there to serve, and tied, or is away
pub record IsSolo (hall : SoloView) : Type 0 where
  pub count : length hall.servers ≡ length hall.plain.owns
  pub tied : AreTied hall.plain hall.servers

-- one that does a line may wait: it is away from its place, nobody holds the segment value, and its table is tied
pub record MayWait (hall : SoloView) (party : Party) : Type 0 where
  pub declared : party.me < length hall.plain.owns
  pub away : IsAway (server_at hall.servers party.me)
  pub home : IsHome (slot_at hall.plain MAX_HEAPS)
  pub tied : IsTiedFor hall.plain party.me party

-- what a participant's round and held asks weigh
abbrev pub party_measure : (ℕ → ℕ) → Option Party → ℕ
party_measure pending None = 0
party_measure pending (Some party) = own_measure 1 pending party.core

-- who has not stopped weighs 1 besides, since it may
abbrev pub server_measure : (ℕ → ℕ) → AloneView → ℕ
server_measure pending server = (if server.stopped then 0 else 1) + party_measure pending server.party

abbrev pub servers_measure : (ℕ → ℕ) → List AloneView → ℕ
servers_measure pending servers = sum_by (server_measure pending) servers

-- the measure by which serving ends: what the mailboxes weigh, and all that serve
abbrev pub solo_measure : SoloView → ℕ
solo_measure hall = boxes_measure hall.plain.boxes + servers_measure (pending_at hall.plain.clock) hall.servers

abbrev pub IsLaterParty : Option Party → Option Party → Type 0
IsLaterParty None None = ⊤
IsLaterParty None (Some new) = ⊥
IsLaterParty (Some old) None = ⊥
IsLaterParty (Some old) (Some new) = IsSameParty old new

-- who serves is later on the same participant with the same validators, or as before away; one that has stopped stays so, and one that has
-- not came to what it is by servings alone
pub record IsLaterServer (old new : HallView) (who : ℕ) (server after : AloneView) : Type 0 where
  pub party : IsLaterParty server.party after.party
  pub validators : after.validators ≡ server.validators
  pub stopped : server.stopped ≡ true → after.stopped ≡ true
  pub served : after.stopped ≡ false → HasServedAt (denials_in (Some server)) old new who server.party after.party

abbrev pub IsLaterAt : HallView → HallView → ℕ → Option AloneView → Option AloneView → Type 0
IsLaterAt old new who None None = ⊤
IsLaterAt old new who None (Some after) = ⊥
IsLaterAt old new who (Some server) None = ⊥
IsLaterAt old new who (Some server) (Some after) = IsLaterServer old new who server after

abbrev pub AreLater : SoloView → SoloView → Type 0
AreLater old new = (who : ℕ) → IsLaterAt old.plain new.plain who (server_at old.servers who) (server_at new.servers who)

-- what serving leaves of the values and slots, and of those who are apart from it
pub record IsServing (apart : ℕ → Type 0) (old new : HallView) : Type 0 where
  pub course : IsCourse old new
  pub taken : (number : ℕ) → taken_from (slot_at new number) ≡ taken_from (slot_at old number)
  pub home : (number : ℕ) → IsHome (slot_at old number) → IsHome (slot_at new number)
  pub part : (who heap : ℕ) → part_in new who heap ≡ part_in old who heap
  pub joined : (who : ℕ) → joined_in new who ≡ joined_in old who
  pub lines : (who : ℕ) → lines_at new who ≡ lines_at old who
  pub own : (who : ℕ) → apart who → own_at new who ≡ own_at old who
  pub did : (who : ℕ) → apart who → HasDone old new who []
  pub clock : new.clock ≡ old.clock

-- a participant that is there may serve: it is one of the hall's, and its table is tied to what the hall knows of it
abbrev pub IsTiedIn : HallView → Option Party → Type 0
IsTiedIn hall None = ⊤
IsTiedIn hall (Some party) = (party.me < length hall.owns) × IsTiedFor hall party.me party

-- what serving makes of one participant
pub record IsPartyServed (old new : HallView) (party after : Party) : Type 0 where
  pub serving : IsServing (λ who. who ≢ party.me) old new
  pub same : IsSameParty party after
  pub tied : IsTiedFor new party.me after

-- what serving makes of one that is there, and nothing of one that is away
abbrev pub IsServedAs : HallView → HallView → Option Party → Option Party → Type 0
IsServedAs old new None None = new ≡ old
IsServedAs old new None (Some after) = ⊥
IsServedAs old new (Some party) None = ⊥
IsServedAs old new (Some party) (Some after) = IsPartyServed old new party after

-- what a participant does that looks into its mailbox and finds nothing: participant 0 then reads its clock, to see whether the deadline of
-- its round has passed
abbrev pub looks_and_finds_nothing : ℕ → ℕ → List MailStep
looks_and_finds_nothing zero clock = Fetches None ∷ Notes (Read clock) ∷ []
looks_and_finds_nothing (suc who) clock = Fetches None ∷ []

-- a participant looks into its mailbox, which is empty, and does nothing else
pub record FindsNothing (old new : HallView) (who : ℕ) : Type 0 where
  pub did : HasDone old new who (looks_and_finds_nothing who new.clock)
  pub boxes : new.boxes ≡ old.boxes
  pub empty : box_of new.boxes who ≡ []

-- one that is there finds its mailbox empty and does nothing else, and nothing is done for one that is away
abbrev pub HasNothingToDo : HallView → HallView → Option Party → Type 0
HasNothingToDo old new None = new ≡ old
HasNothingToDo old new (Some party) = FindsNothing old new party.me

-- a participant looks last into its mailbox, which is empty then
abbrev pub LooksLast : HallView → HallView → ℕ → Type 0
LooksLast old new who = (steps : List MailStep) × HasDone old new who (steps ++ looks_and_finds_nothing who new.clock)

-- one that is there looks last into its mailbox, which is empty then
abbrev pub HasLookedLast : HallView → HallView → Option Party → Type 0
HasLookedLast old new None = ⊤
HasLookedLast old new (Some party) = LooksLast old new party.me

-- one that is there and serves still looks last into its mailbox, which is empty then
abbrev pub LooksLastAt : HallView → HallView → ℕ → Option AloneView → Type 0
LooksLastAt old new who None = ⊤
LooksLastAt old new who (Some server) = server.stopped ≡ false → IsSome server.party → LooksLast old new who

-- a number stands between two others, the first of them counted in
abbrev pub IsBetween : ℕ → ℕ → ℕ → Type 0
IsBetween from to who = (from ≤ who) × (who < to)

-- a number does not stand between two others
abbrev pub IsOutside : ℕ → ℕ → ℕ → Type 0
IsOutside from to who = (who < from) ⊎ (to ≤ who)

-- who stands below one that waits, or above it
abbrev pub IsBeside : ℕ → Bool → ℕ → Type 0
IsBeside me false who = who < me
IsBeside me true who = me < who

-- who does not stand on that side of one that waits
abbrev pub IsNotBeside : ℕ → Bool → ℕ → Type 0
IsNotBeside me above who = IsBeside me above who → ⊥

-- when the deadline of a participant's round passes
abbrev pub due_at : Option Party → Option ℕ
due_at None = None
due_at (Some party) = due_in party.core

-- nothing is left for a participant: the deadline of its round is still to come, or is one that never passes
abbrev pub IsResting : ℕ → Party → Type 0
IsResting clock party = (due : ℕ) → due_in party.core ≡ Some due → due < 2 ^ 64 - 1 → pending_at clock due ≡ 1

-- nothing is left for one that is there
abbrev pub IsAtRest : ℕ → Option Party → Type 0
IsAtRest clock None = ⊤
IsAtRest clock (Some party) = IsResting clock party

-- nothing is left for one that serves still
abbrev pub IsServerAtRest : ℕ → Option AloneView → Type 0
IsServerAtRest clock None = ⊤
IsServerAtRest clock (Some server) = server.stopped ≡ false → IsAtRest clock server.party

-- of those on a side nobody has met a refusal of memory
abbrev pub HaveNotStopped : (ℕ → Type 0) → List AloneView → Type 0
HaveNotStopped beside servers = (who : ℕ) (server : AloneView) → beside who → server_at servers who ≡ Some server → server.stopped ≡ false

-- a place is as it was, and the participant that is there looked into its mailbox, found it empty, and did nothing else
pub record IsIdle (old new : SoloView) (who : ℕ) (server : AloneView) : Type 0 where
  pub stays : server_at new.servers who ≡ Some server
  pub looked : IsSome server.party → HasDone old.plain new.plain who (looks_and_finds_nothing who new.plain.clock)

-- nothing moved on a side: those there that had met no refusal of memory were idle; and if nobody had, the mailboxes are as they were, and
-- those of the side are empty
pub record IsQuiet (beside : ℕ → Type 0) (old new : SoloView) : Type 0 where
  pub idle : (who : ℕ) (server : AloneView) → beside who → server_at old.servers who ≡ Some server → server.stopped ≡ false
      → IsIdle old new who server
  pub boxes : HaveNotStopped beside old.servers → new.plain.boxes ≡ old.plain.boxes
  pub empty : HaveNotStopped beside old.servers → (who : ℕ) → beside who → IsSome (party_at old.servers who)
      → box_of new.plain.boxes who ≡ []

-- a deadline of a participant is still to come
abbrev pub IsPendingDue : ℕ → List AloneView → ℕ → Type 0
IsPendingDue clock servers due = (who : ℕ) × (due_at (party_at servers who) ≡ Some due) × (clock < due)

-- the least of a deadline and those of participants that are still to come
pub record IsNextDue (clock : ℕ) (servers : List AloneView) (until next : ℕ) : Type 0 where
  pub later : clock < next
  pub within : next ≤ until
  pub whose : (next ≡ until) ⊎ IsPendingDue clock servers next
  pub least : (due : ℕ) → IsPendingDue clock servers due → next ≤ due

-- the lesser of a deadline that is still to come and another one, where that is still to come too
pub record IsSooner (clock next : ℕ) (due : Option ℕ) (sooner : ℕ) : Type 0 where
  pub later : clock < sooner
  pub within : sooner ≤ next
  pub whose : (sooner ≡ next) ⊎ (due ≡ Some sooner)
  pub least : (other : ℕ) → due ≡ Some other → clock < other → sooner ≤ other

-- one of them has stopped
abbrev pub has_stopped : List AloneView → Bool
has_stopped servers = list_any (λ server. server.stopped) servers
