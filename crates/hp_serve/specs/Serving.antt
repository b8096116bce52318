-- What a participant does when it serves: the rule "Serving" of docs/PARTICIPANTS.md.
use Rattle.std.specs.Prelude.{◌≡◌, ◌≢◌, ◌⊎◌, ℕ, ◌<◌, ◌^◌, Bool, true, false, ◌||◌, ◌&&◌, ◌==◌, List, [], ◌∷◌, ◌++◌, length, Option, Some, None}
use Rattle.hp_base.specs.Mapping.{is_done}
use Rattle.hp_base.specs.Plans.{action_of}
use Rattle.hp_base.specs.Telling.{Listener}
use Rattle.hp_base.specs.declared.caught.Caught.{Caught}
use Rattle.hp_base.specs.declared.caught.Caught.TheVariants as caught
use Rattle.hp_base.specs.declared.limits.TheConstants.{MAX_HEAPS}
use Rattle.hp_base.specs.declared.plan_entry.MsgKind.TheVariants as message
use Rattle.hp_core.specs.Following.{after_catching, reply_of}
use Rattle.hp_frame.specs.declared.frame.Frame.{Frame}
use Rattle.hp_frame.specs.declared.message.Body.{Body}
use Rattle.hp_frame.specs.declared.message.Body.TheVariants.{Sync, Answer}
use Rattle.hp_hall.specs.Mail.{MailStep, Fetches, Gives, Notes, Posts, Takes}
use Rattle.hp_hall.specs.declared.kept.Kept.TheVariants.{Segments}
use Rattle.hp_hall.specs.declared.note.Note.TheVariants.{Acked, Unmapped}
use Rattle.hp_mail.specs.declared.posted.Posted.{Posted}
use Rattle.hp_log.specs.declared.log_record.LogRecord.{LogRecord}
use Rattle.hp_maps.specs.Catching.{HasAnswered, HasReason, kept, new_rows, newer, number_after, rows_after}
use Rattle.hp_maps.specs.Events.{all_told, caught_events}
use Rattle.hp_maps.specs.MapsView.{MapsView, calls_of}
use Rattle.hp_segs.specs.SegsView.{SegsView, is_member}
use Rattle.hp_serve.specs.Frames.{Says, SaysNothing}
use Rattle.hp_serve.specs.Party.{Party, after_reply, one_more}

-- the segment value is taken out of its slot, and given back
abbrev pub takes_segments : SegsView → MailStep
takes_segments segs = Takes MAX_HEAPS (Segments segs)

abbrev pub gives_segments : SegsView → MailStep
gives_segments segs = Gives MAX_HEAPS (Segments segs)

-- a table catches up with a log, or fails to, by these calls of its mapper: it has the rows that none of the newer records drops, and those
-- that these bring, where all of them are mapped; one that fails is a call at which the mapper may fail
pub record CatchesUp (log : List LogRecord) (old new : MapsView) (caught : Caught) : Type 0 where
  pub rows : new.rows
      ≡ rows_after (kept (newer log old.number (length log)) old.rows) (new_rows old.number (newer log old.number (length log))) caught
  pub answered : HasAnswered (new_rows old.number (newer log old.number (length log))) old.answers new.answers caught
  pub number : new.number ≡ number_after old.number (length log) caught
  pub reason : HasReason old.may_fail caught
  pub stays : new.may_fail ≡ old.may_fail

-- what a participant that attaches tells after a catch-up with so many records: it acknowledges all of them, or nothing where a mapping
-- failed, since its table is then empty as before
abbrev pub acks_after : Caught → ℕ → List MailStep
acks_after caught.Done records = Notes (Acked records) ∷ []
acks_after (caught.Refused row call) records = []
acks_after (caught.Elsewhere row call got) records = []

-- what a participant that has a table tells after a catch-up with so many records: it acknowledges all of them, or where a mapping
-- failed tells that its table has lost what they drop
abbrev pub tells_after_catching : Caught → ℕ → List MailStep
tells_after_catching caught.Done records = Notes (Acked records) ∷ []
tells_after_catching (caught.Refused row call) records = Notes Unmapped ∷ []
tells_after_catching (caught.Elsewhere row call got) records = Notes Unmapped ∷ []

-- a reply is posted to participant 0, as the plan has it for the next reply
pub record Replies (party : Party) (body : Body) (step : MailStep) : Type 0 where
  pub frame : Frame
  pub posted : Posted
  pub says : Says frame body
  pub posts : step ≡ Posts 0 frame (action_of party.plan message.Reply party.me (one_more party.sent.replies)) posted

-- what watchers have been told once a table has caught up with a log, or failed to: a record's rows that went, and those that came where
-- all of these were mapped
abbrev pub told_of : List LogRecord → Caught → MapsView → List Listener → List Listener
told_of log caught maps listeners = all_told (caught_events maps.rows maps.number (newer log maps.number (length log)) caught) listeners

-- how many events are told of a catch-up with a log at most
abbrev pub most_told : List LogRecord → MapsView → ℕ
most_told log maps = length (caught_events maps.rows maps.number (newer log maps.number (length log)) caught.Done)

-- a participant that has caught up with a log, or failed to: it has a table, if it had one or has caught up, and its watchers were told
abbrev pub after_catching_up : List LogRecord → Caught → MapsView → Party → Party
after_catching_up log caught maps party = record party {
  maps = maps;
  listeners = told_of log caught party.maps party.listeners;
  joined = party.joined || is_done caught;
}

-- a member that holds the segment value follows a SYNC: it catches up with the log as it stands, whatever generation is named, acknowledges
-- that or notes a mapping that failed, gives the value back and posts its reply
pub record FollowsAndReplies (party after : Party) (taken : SegsView) (steps : List MailStep) : Type 0 where
  pub caught : Caught
  pub caught_up : CatchesUp taken.log party.maps after.maps caught
  pub reply : MailStep
  pub replied : Replies party (reply_of party.me caught taken) reply
  pub done : steps
      ≡ tells_after_catching caught (length taken.log) ++ (gives_segments (after_catching party.me caught taken) ∷ reply ∷ [])
  pub after_is : after ≡ after_reply (after_catching_up taken.log caught after.maps party)

-- a mapper has made so many calls that its participant stops
abbrev pub HasUsedUpCalls : MapsView → Type 0
HasUsedUpCalls maps = 2 ^ 63 < calls_of maps

-- a participant may stop where it would catch up: its mapper has made too many calls, or somebody watches and there is no room to tell
abbrev pub MayStopMapping : MapsView → List Listener → Type 0
MayStopMapping maps listeners = HasUsedUpCalls maps ⊎ (listeners ≢ [])

-- what a SYNC makes of its receiver, by the segment value that it takes; the last part tells whether it goes on, or stopped
pub data IsFollowed (party after : Party) (taken : SegsView) (steps : List MailStep) (goes : Bool) : Type 0 where
  obeys : is_member taken.roster party.me ≡ true → FollowsAndReplies party after taken steps → goes ≡ true → IsFollowed party after taken steps goes
  -- it is not in the roster
  is_out : is_member taken.roster party.me ≡ false → steps ≡ gives_segments taken ∷ [] → after ≡ party → goes ≡ true
      → IsFollowed party after taken steps goes
  -- it is in the roster, and stops where it would catch up
  is_worn : is_member taken.roster party.me ≡ true → MayStopMapping party.maps party.listeners → steps ≡ gives_segments taken ∷ [] → after ≡ party → goes ≡ false
      → IsFollowed party after taken steps goes

-- a RESULT to the participant's last ask came
abbrev pub is_answer_to : Party → Body → Bool
is_answer_to party (Answer from number what code) = ((what == 2) || (what == 3)) && (number == party.asked)
is_answer_to party _ = false

-- a participant has heard that
abbrev pub hearing : Body → Party → Party
hearing body party = record party { answered = party.answered || is_answer_to party body }

-- it is a RESULT
abbrev pub is_reply : Body → Bool
is_reply (Answer from number what code) = true
is_reply _ = false

-- it is a SYNC
abbrev pub is_sync : Body → Bool
is_sync (Sync generation round) = true
is_sync _ = false

-- what a message to the handler makes of a participant without a coordinator; the last part tells whether it goes on, or stopped
pub data IsTold (party after : Party) (body : Body) (steps : List MailStep) (goes : Bool) : Type 0 where
  -- it is no SYNC: an answer to its last ask is noted, anything else is dropped
  hears : is_sync body ≡ false → steps ≡ [] → after ≡ hearing body party → goes ≡ true → IsTold party after body steps goes
  -- a SYNC makes it take the segment value
  follows : (taken : SegsView) (more : List MailStep) → is_sync body ≡ true → steps ≡ takes_segments taken ∷ more
      → IsFollowed party after taken more goes → IsTold party after body steps goes

-- what a frame makes of it
pub data IsDispatched (party after : Party) (frame : Frame) (steps : List MailStep) (goes : Bool) : Type 0 where
  -- it says nothing to it, and is dropped
  drops : SaysNothing frame → steps ≡ [] → after ≡ party → goes ≡ true → IsDispatched party after frame steps goes
  tells : (body : Body) → Says frame body → IsTold party after body steps goes → IsDispatched party after frame steps goes

-- what serving answers after a frame: that it did something, or that it stopped
abbrev pub answer_after : Bool → Option Bool
answer_after true = Some true
answer_after false = None

-- what serving makes of a participant without a coordinator, by what it did, and its answer: whether it did something, or that it stopped
pub data IsMemberServed (party after : Party) (steps : List MailStep) (answer : Option Bool) : Type 0 where
  -- its mailbox was empty
  rests : steps ≡ Fetches None ∷ [] → after ≡ party → answer ≡ Some false → IsMemberServed party after steps answer
  -- it fetched a frame
  heeds : (frame : Frame) (more : List MailStep) (goes : Bool) → steps ≡ Fetches (Some frame) ∷ more → IsDispatched party after frame more goes
      → answer ≡ answer_after goes → IsMemberServed party after steps answer
