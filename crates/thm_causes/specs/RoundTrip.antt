-- What stands while participants of one thread wait for the answer to an ask or a notice. The rule "Reasons" of docs/RUNS.md.
use Rattle.std.specs.Prelude.{◌≡◌, ◌≢◌, ℕ, ◌+◌, ◌-◌, ◌*◌, ◌<◌, ◌≤◌, ◌⊎◌, ⊤, Bool, true, false, ◌&&◌, ◌||◌, ◌==◌, List, [], ◌∷◌, length, replicate, count_by, Option, Some, None, is_some, if◌then◌else◌, slice_get, slice_index_or, slice_set}
use Rattle.std.specs.List.{All, list_any}
use Rattle.hp_base.specs.declared.limits.TheConstants.{MAX_COUNT, MAX_DEADLINE}
use Rattle.hp_base.specs.declared.map_answer.MapAnswer.{MapAnswer}
use Rattle.hp_base.specs.declared.plan_entry.MsgKind.TheVariants as message
use Rattle.hp_base.specs.declared.plan_entry.PlanEntry.{PlanEntry}
use Rattle.hp_base.specs.declared.plan_entry.PlanEntry.TheVariants.{Mapping, Message}
use Rattle.hp_core.specs.Asks.{asker, is_armed, number_of}
use Rattle.hp_core.specs.Core.{Core, is_growth, is_open_for}
use Rattle.hp_core.specs.declared.asked.Asked.{Asked}
use Rattle.hp_core.specs.declared.asked.Asked.TheVariants as want
use Rattle.hp_core.specs.declared.phase.Phase.{Phase}
use Rattle.hp_core.specs.declared.phase.Phase.TheVariants.{Idle, Waiting}
use Rattle.hp_core.specs.declared.phase.Round.{Round}
use Rattle.hp_core.specs.declared.phase.RoundKind.TheVariants as kind
use Rattle.hp_frame.specs.declared.frame.Frame.{Frame}
use Rattle.hp_frame.specs.declared.message.Body.{Body}
use Rattle.hp_frame.specs.declared.message.Body.TheVariants.{Alloc, Answer, Free, Sync}
use Rattle.hp_segs.specs.Standing.{IsArmed}
use Rattle.hp_plain.specs.Boxes.{box_of}
use Rattle.hp_plain.specs.declared.mailbox.TheConstants.{MAILBOX_FRAMES}
use Rattle.hp_maps.specs.MapsView.{calls_of}
use Rattle.hp_segs.specs.LaterSteps.{has_failed_from, noted_failure}
use Rattle.hp_segs.specs.SegsView.{closed_number, grants_or_refuses, is_member, is_outcome_for}
use Rattle.hp_segs.specs.Sound.{IsSound}
use Rattle.hp_segs.specs.declared.outcome.AskLog.{AskLog}
use Rattle.hp_segs.specs.declared.outcome.Cause.{Cause}
use Rattle.hp_segs.specs.declared.outcome.Cause.TheVariants.{MapFailed}
use Rattle.hp_serve.specs.Asking.{alloc_body}
use Rattle.hp_serve.specs.Frames.{Says}
use Rattle.hp_serve.specs.Party.{Party}
use Rattle.hp_serve.specs.Posting.{times_sent}
use Rattle.thm_causes.specs.Counting.{LosesNothing, doubled_among, lost_among}
use Rattle.thm_causes.specs.Outcomes.{IsApart, late_outcomes, stale_outcomes, withdrawn_outcomes, unanswered_among}
use Rattle.thm_causes.specs.Failing.{AreGrantsWithin}
use Rattle.thm_causes.specs.Shared.{Shared}

-- what does not change while a line is done: how many participants there are, their deadline, and the plan of their messages; and which
-- outcomes there were when it began, and how many asks and notices each participant had made then
pub record Setting : Type 0 where
  pub count : ℕ
  pub deadline : ℕ
  pub plan : List PlanEntry
  pub was : List AskLog
  pub made : ℕ → ℕ

-- an entry of a plan names a message by a number that a workload may have
abbrev pub IsCounted : PlanEntry → Type 0
IsCounted (Message kind party k twice line) = k ≤ MAX_COUNT
IsCounted (Mapping party call elsewhere line) = ⊤

pub record IsSetting (set : Setting) : Type 0 where
  pub some : 0 < set.count
  pub few : set.count ≤ 16
  pub waits : 0 < set.deadline
  pub within : set.deadline ≤ MAX_DEADLINE
  pub counted : All IsCounted set.plan

-- frames say these bodies, one by one
abbrev pub AreSaid : List Frame → List Body → Type 0
AreSaid [] [] = ⊤
AreSaid [] (body ∷ bodies) = ⊥
AreSaid (frame ∷ frames) [] = ⊥
AreSaid (frame ∷ frames) (body ∷ bodies) = Says frame body × AreSaid frames bodies

-- all that counts at a moment at which nobody is in the midst of something: what is shared, what the mailboxes say, and the participants
pub record RunState : Type 0 where
  pub shared : Shared
  pub mail : List (List Body)
  pub parties : List Party

abbrev pub mail_of : RunState → ℕ → List Body
mail_of world who = slice_index_or world.mail who []

abbrev pub number_of_party : RunState → ℕ → ℕ
number_of_party world who = slice_index_or world.shared.numbers who 0

-- a participant in its place: it has taken in what it has acknowledged, all granted records where it is a member, and none of its mappings
-- by its next call or a later one is logged as failed
pub record IsInPlace (set : Setting) (world : RunState) (who : ℕ) (party : Party) : Type 0 where
  pub me : party.me ≡ who
  pub deadline : party.deadline ≡ set.deadline
  pub plan : party.plan ≡ set.plan
  pub joined : is_member world.shared.segs.roster who ≡ party.joined
  pub number : party.joined ≡ true → party.maps.number ≡ number_of_party world who
  pub within : number_of_party world who ≤ length world.shared.segs.log
  pub granted : party.joined ≡ true → AreGrantsWithin (number_of_party world who) world.shared.segs.asks
  pub failed : has_failed_from world.shared.segs.asks who (calls_of party.maps + 1) ≡ false
  pub closed : closed_number world.shared.segs.asks who ≤ party.asked
  pub follower : who ≢ 0 → party.core ≡ None
  pub syncs : length party.sent.syncs ≡ 16

-- what was refused as late or taken back so far has its reason in messages that were lost
pub record IsExcused (set : Setting) (world : RunState) (who : ℕ) (primary party : Party) : Type 0 where
  pub late : late_outcomes who world.shared.segs.asks ≤ lost_among set.plan message.Sync who (times_sent primary.sent.syncs who)
  pub withdrawn : withdrawn_outcomes who world.shared.segs.asks ≤ lost_among set.plan message.Alloc who party.sent.allocs

-- how many of a participant's asks and notices came twice so far
abbrev pub doubles : Setting → ℕ → Party → ℕ
doubles set who party =
    doubled_among set.plan message.Alloc who party.sent.allocs + doubled_among set.plan message.Free who party.sent.frees

-- a failure that is noted is one of a mapping call that its participant has made
pub record IsNotedCall (world : RunState) (cause : Cause) : Type 0 where
  pub who : ℕ
  pub call : ℕ
  pub addr : ℕ
  pub got : MapAnswer
  pub is : cause ≡ MapFailed who call addr got
  pub made : (party : Party) → slice_get world.parties who ≡ Some party → call ≤ calls_of party.maps

-- what holds at every such moment
pub record IsBase (set : Setting) (world : RunState) : Type 0 where
  pub boxes : length world.shared.boxes ≡ set.count
  pub numbers : length world.shared.numbers ≡ set.count
  pub mail : length world.mail ≡ set.count
  pub parties : length world.parties ≡ set.count
  pub said : (who : ℕ) → AreSaid (box_of world.shared.boxes who) (mail_of world who)
  pub sound : IsSound world.shared.segs
  pub armed : IsArmed world.shared.segs
  pub primary : is_member world.shared.segs.roster 0 ≡ true
  pub declared : (who : ℕ) → is_member world.shared.segs.roster who ≡ true → who < set.count
  pub places : (who : ℕ) (party : Party) → slice_get world.parties who ≡ Some party → IsInPlace set world who party
  pub noted : (cause : Cause) → noted_failure world.shared.segs ≡ Some cause → IsNotedCall world cause
  pub excused : (who : ℕ) (primary party : Party) → slice_get world.parties 0 ≡ Some primary → slice_get world.parties who ≡ Some party
      → IsExcused set world who primary party
  pub apart : All (IsApart set.deadline) world.shared.segs.asks

-- the body is that ask, or that notice
abbrev pub IsCopy : Asked → Body → Type 0
IsCopy (want.Grow ask) body = body ≡ alloc_body ask
IsCopy (want.Shrink from number) body = (heap : ℕ) × (address : ℕ) × (len : ℕ) × (body ≡ Free from number heap address len)

-- it is an ask or a notice, a SYNC, or an answer
abbrev pub is_call : Body → Bool
is_call (Alloc from number heap socket page size align bound flags) = true
is_call (Free from number heap address len) = true
is_call (Sync generation round) = false
is_call (Answer from number what code) = false

abbrev pub is_sync : Body → Bool
is_sync (Alloc from number heap socket page size align bound flags) = false
is_sync (Free from number heap address len) = false
is_sync (Sync generation round) = true
is_sync (Answer from number what code) = false

abbrev pub is_answer : Body → Bool
is_answer (Alloc from number heap socket page size align bound flags) = false
is_answer (Free from number heap address len) = false
is_answer (Sync generation round) = false
is_answer (Answer from number what code) = true

-- each body is an answer, or that ask
abbrev pub AreAnswersOrCopies : Asked → List Body → Type 0
AreAnswersOrCopies call bodies = All (λ body. (is_answer body ≡ true) ⊎ IsCopy call body) bodies

-- a coordinator in this phase, which holds the ask, or nothing
pub record IsCoordinator (set : Setting) (phase : Phase) (call : Asked) (holds : Bool) (core : Option Core) : Type 0 where
  pub its : Core
  pub there : core ≡ Some its
  pub deadline : its.deadline ≡ set.deadline
  pub phase_is : its.phase ≡ phase
  pub held : its.held ≡ (if holds then slice_set (replicate 16 None) (asker call) (Some call) else replicate 16 None)

-- the coordinator of a world
pub record HasCoordinator (set : Setting) (world : RunState) (phase : Phase) (call : Asked) (holds : Bool) : Type 0 where
  pub primary : Party
  pub there : slice_get world.parties 0 ≡ Some primary
  pub is : IsCoordinator set phase call holds primary.core

-- the ask is closed, or not yet; and a growth's asker is armed with it
abbrev pub IsClosed : Asked → RunState → Type 0
IsClosed call world = number_of call ≤ closed_number world.shared.segs.asks (asker call)

abbrev pub IsToDo : Asked → RunState → Type 0
IsToDo (want.Grow ask) world = (closed_number world.shared.segs.asks ask.from < ask.number) × (is_armed ask world.shared.segs ≡ true)
IsToDo (want.Shrink from number) world = closed_number world.shared.segs.asks from < number

-- how many copies of asks lie in mailbox 0 and are held
abbrev pub copies_left : RunState → Bool → ℕ
copies_left world holds = count_by is_call (mail_of world 0) + (if holds then 1 else 0)

-- how many of a participant's notices were lost so far
abbrev pub notices_lost : Setting → ℕ → Party → ℕ
notices_lost set who party = lost_among set.plan message.Free who party.sent.frees

-- how many asks and notices a participant made, but for this one, where it is its own
abbrev pub made_before : Asked → ℕ → Party → ℕ
made_before call who party = if asker call == who then number_of call - 1 else party.asked

-- none of the asks and notices that a participant had made when a line began, of so many by now, has an outcome that had none then
pub record IsInTime (set : Setting) (asks : List AskLog) (who asked : ℕ) : Type 0 where
  pub before : set.made who ≤ asked
  pub still : (number : ℕ) → 0 < number → number ≤ set.made who → list_any (is_outcome_for who number) asks ≡ true
      → list_any (is_outcome_for who number) set.was ≡ true

-- each ask and notice that a participant made, but for this one, has an outcome, or is a notice that was lost; and this one is of the line
pub record IsToldBefore (set : Setting) (asks : List AskLog) (call : Asked) (who : ℕ) (party : Party) : Type 0 where
  pub answered : unanswered_among asks who (made_before call who party) ≤ notices_lost set who party
  pub last : who ≡ asker call → party.asked ≡ number_of call
  pub fresh : who ≡ asker call → set.made who < number_of call
  pub in_time : IsInTime set asks who party.asked

-- each ask that was stale so far came twice; those of the asker that are still to come are counted in, but for the first one of a fresh
-- ask. All others were answered, or lost
pub record AreDoubled (set : Setting) (world : RunState) (call : Asked) (holds fresh : Bool) : Type 0 where
  pub asker_is : (party : Party) → slice_get world.parties (asker call) ≡ Some party
      → stale_outcomes (asker call) world.shared.segs.asks + copies_left world holds ≤ doubles set (asker call) party + (if fresh then 1 else 0)
  pub others : (who : ℕ) (party : Party) → who ≢ asker call → slice_get world.parties who ≡ Some party
      → stale_outcomes who world.shared.segs.asks ≤ doubles set who party
  pub told : (who : ℕ) (party : Party) → slice_get world.parties who ≡ Some party
      → IsToldBefore set world.shared.segs.asks call who party

-- no mailbox but that of participant 0 has anything
abbrev pub AreOthersEmpty : RunState → Type 0
AreOthersEmpty world = (who : ℕ) → who ≢ 0 → mail_of world who ≡ []

-- a member of a growth's round has it, or will have it in its mailbox, or a failure is noted, or it did not get its SYNC
pub data FollowsGrowth (set : Setting) (world : RunState) (generation since member : ℕ) : Type 0 where
  told : world.shared.clock ≡ since → list_any is_sync (mail_of world member) ≡ true → FollowsGrowth set world generation since member
  has : generation ≤ number_of_party world member → FollowsGrowth set world generation since member
  fails : is_some (noted_failure world.shared.segs) ≡ true → FollowsGrowth set world generation since member
  lost : (primary : Party) → slice_get world.parties 0 ≡ Some primary
      → late_outcomes member world.shared.segs.asks < lost_among set.plan message.Sync member (times_sent primary.sent.syncs member)
      → FollowsGrowth set world generation since member

-- a member whose SYNC of a growth lies in its mailbox has not acknowledged the growth
pub record IsAwaited (world : RunState) (generation member : ℕ) : Type 0 where
  pub is_member : is_member world.shared.segs.roster member ≡ true
  pub below : number_of_party world member < generation

-- a member whose SYNC of a settling round lies in its mailbox: the clock stands, and either the member has not acknowledged the round, or
-- no answer lies in mailbox 0 by which participant 0 would poll
pub record WaitsToSettle (call : Asked) (world : RunState) (generation since member : ℕ) : Type 0 where
  pub stands : world.shared.clock ≡ since
  pub is_member : is_member world.shared.segs.roster member ≡ true
  pub unsettled : (number_of_party world member < generation) ⊎ All (IsCopy call) (mail_of world 0)

-- the coordinator's answer to that ask
abbrev pub is_result_of : Asked → Body → Bool
is_result_of call (Answer from number what code) = ((what == 2) || (what == 3)) && (number == number_of call)
is_result_of call (Alloc from number heap socket page size align bound flags) = false
is_result_of call (Free from number heap address len) = false
is_result_of call (Sync generation round) = false

-- its asker has not heard of its answer, which is in no mailbox
pub record IsUnanswered (call : Asked) (world : RunState) : Type 0 where
  pub asked : (party : Party) → slice_get world.parties (asker call) ≡ Some party → party.asked ≡ number_of call
  pub unheard : (party : Party) → slice_get world.parties (asker call) ≡ Some party → party.answered ≡ false
  pub nowhere : (who : ℕ) → list_any (is_result_of call) (mail_of world who) ≡ false

-- a growth's ask that is closed was granted or refused
abbrev pub IsAnsweredFor : Asked → RunState → Type 0
IsAnsweredFor (want.Grow ask) world = list_any (grants_or_refuses ask.from ask.number) world.shared.segs.asks ≡ true
IsAnsweredFor (want.Shrink from number) world = ⊤

-- there is room for one more without an outcome: this one
abbrev pub MayMissOne : Setting → ℕ → ℕ → RunState → Type 0
MayMissOne set who number world = (party : Party) → slice_get world.parties who ≡ Some party
    → unanswered_among world.shared.segs.asks who (number - 1) < notices_lost set who party

-- where a growth's ask was lost there is room for one more that is taken back
abbrev pub HasRoomBack : Setting → ℕ → RunState → Type 0
HasRoomBack set who world = (party : Party) → slice_get world.parties who ≡ Some party
    → withdrawn_outcomes who world.shared.segs.asks < lost_among set.plan message.Alloc who party.sent.allocs

-- an ask that was lost may be taken back, and a notice that was lost has no outcome
abbrev pub MayBeTakenBack : Setting → Asked → RunState → Type 0
MayBeTakenBack set (want.Grow ask) world = HasRoomBack set ask.from world
MayBeTakenBack set (want.Shrink from number) world = MayMissOne set from number world

-- all members have taken in all records
abbrev pub HaveCaughtUp : RunState → Type 0
HaveCaughtUp world = (who : ℕ) → is_member world.shared.segs.roster who ≡ true → number_of_party world who ≡ length world.shared.segs.log

-- before an ask for pages nothing is left of what was given up
abbrev pub IsGoneBefore : Asked → RunState → Type 0
IsGoneBefore (want.Grow ask) world = world.shared.segs.retiring ≡ []
IsGoneBefore (want.Shrink from number) world = ⊤

-- where the plan loses no message an ask starts with all members level, and one for pages once nothing is left of what was given up
abbrev pub StartsLevel : Setting → Asked → RunState → Type 0
StartsLevel set call world = LosesNothing set.plan → HaveCaughtUp world × IsGoneBefore call world

-- while a growth waits nothing is left of what was given up, and there is room in each mailbox but participant 0's
pub record GrowsLevel (world : RunState) : Type 0 where
  pub gone : world.shared.segs.retiring ≡ []
  pub room : (who : ℕ) → who ≢ 0 → length (mail_of world who) < MAILBOX_FRAMES

-- a round that settles is for all records there are, and nothing is left of what was given up; where the plan loses no message each member
-- has its SYNC in its mailbox, or has taken in these records
pub record SettlesLevel (set : Setting) (world : RunState) (generation : ℕ) : Type 0 where
  pub gone : world.shared.segs.retiring ≡ []
  pub whole : generation ≡ length world.shared.segs.log
  pub follows : LosesNothing set.plan → (member : ℕ) → is_member world.shared.segs.roster member ≡ true
      → (list_any is_sync (mail_of world member) ≡ true) ⊎ (generation ≤ number_of_party world member)

-- an ask that is over leaves nothing of what was given up, and where the plan loses no message all members level
pub record EndsLevel (set : Setting) (world : RunState) : Type 0 where
  pub gone : world.shared.segs.retiring ≡ []
  pub level : LosesNothing set.plan → HaveCaughtUp world

-- how far an ask is, which was sent at a reading, while participant 0 may serve, or while only others do before the turn is over
pub data AskPhase (set : Setting) (call : Asked) (sent : ℕ) (leads : Bool) (world : RunState) : Type 0 where
  -- it lies in mailbox 0, and all else is quiet
  fresh : world.shared.clock ≡ sent → IsUnanswered call world → HasCoordinator set world Idle call false
      → world.shared.segs.growth ≡ None → IsToDo call world → All (IsCopy call) (mail_of world 0) → 0 < length (mail_of world 0)
      → AreOthersEmpty world → AreDoubled set world call false true → StartsLevel set call world → AskPhase set call sent leads world
  -- it was lost
  lost : world.shared.clock ≤ sent + 3 * set.deadline → IsUnanswered call world → HasCoordinator set world Idle call false → world.shared.segs.growth ≡ None → IsToDo call world
      → mail_of world 0 ≡ [] → AreOthersEmpty world → AreDoubled set world call false false → MayBeTakenBack set call world
      → (LosesNothing set.plan → ⊥) → AskPhase set call sent leads world
  -- its growth waits for its members
  growing : (round : Round) (holds : Bool) → round.kind ≡ kind.Growth → round.from ≡ asker call → round.number ≡ number_of call
      → IsUnanswered call world → HasCoordinator set world (Waiting round sent) call holds
      → is_open_for round world.shared.segs.growth ≡ true → IsToDo call world → world.shared.clock ≤ sent + set.deadline
      → AreAnswersOrCopies call (mail_of world 0) → AreDoubled set world call holds false
      → ((member : ℕ) → is_member world.shared.segs.roster member ≡ true → FollowsGrowth set world round.generation sent member)
      → (leads ≡ true → (member : ℕ) → list_any is_sync (mail_of world member) ≡ true → IsAwaited world round.generation member)
      → GrowsLevel world → AskPhase set call sent leads world
  -- it is closed, and a rollback or the drops wait for their members
  settling : (round : Round) (since : ℕ) (holds : Bool) → is_growth round.kind ≡ false → round.from ≡ asker call
      → round.number ≡ number_of call → IsUnanswered call world → HasCoordinator set world (Waiting round since) call holds
      → world.shared.segs.growth ≡ None → IsClosed call world → since ≤ sent + set.deadline → world.shared.clock ≤ since + set.deadline
      → round.generation ≤ length world.shared.segs.log → AreAnswersOrCopies call (mail_of world 0)
      → AreDoubled set world call holds false
      → (leads ≡ true → (member : ℕ) → list_any is_sync (mail_of world member) ≡ true → WaitsToSettle call world round.generation since member)
      → IsAnsweredFor call world → SettlesLevel set world round.generation → AskPhase set call sent leads world
  -- it is closed, and nothing is under way
  over : (holds : Bool) → HasCoordinator set world Idle call holds → world.shared.segs.growth ≡ None → IsClosed call world
      → AreAnswersOrCopies call (mail_of world 0) → AreDoubled set world call holds false
      → ((member : ℕ) → list_any is_sync (mail_of world member) ≡ false) → IsAnsweredFor call world → EndsLevel set world
      → AskPhase set call sent leads world
