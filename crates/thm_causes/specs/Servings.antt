-- What one serving makes of a participant and of what all share, while it alone does something. The rule "Reasons" of docs/RUNS.md.
use Rattle.std.specs.Prelude.{◌≡◌, ℕ, zero, suc, ◌≤◌, ◌<◌, Bool, true, false, List, [], ◌∷◌, length, Option, Some, None, slice_index, if◌then◌else◌}
use Rattle.hp_base.specs.Plans.{action_of}
use Rattle.hp_base.specs.declared.caught.Caught.{Caught}
use Rattle.hp_base.specs.declared.caught.Caught.TheVariants as caught
use Rattle.hp_base.specs.declared.plan_entry.MsgKind.TheVariants as message
use Rattle.hp_core.specs.Core.{Core}
use Rattle.hp_core.specs.Following.{after_catching, reply_of}
use Rattle.hp_core.specs.declared.event.CoreEvent.{CoreEvent}
use Rattle.hp_core.specs.declared.event.CoreEvent.TheVariants.{Poll, SelfMapped}
use Rattle.hp_core.specs.declared.out.Out.{Out}
use Rattle.hp_core.specs.declared.out.Out.TheVariants as out
use Rattle.hp_frame.specs.declared.frame.Frame.{Frame}
use Rattle.hp_frame.specs.declared.message.Body.{Body}
use Rattle.hp_frame.specs.declared.message.Body.TheVariants.{Sync}
use Rattle.hp_segs.specs.Standing.{IsArmed}
use Rattle.hp_hall.specs.Mail.{MailStep}
use Rattle.hp_plain.specs.Boxes.{box_of}
use Rattle.hp_maps.specs.MapsView.{MapsView}
use Rattle.hp_segs.specs.SegsView.{is_member}
use Rattle.hp_segs.specs.Sound.{IsSound}
use Rattle.hp_serve.specs.Denials.{Denials, nobody_denies}
use Rattle.hp_serve.specs.Coordinating.{IsAskIn, IsCoreServed, IsNoAsk, IsToComeAt, MayDeny, MustMap, core_holds, is_sync_reply, stepping, with_core}
use Rattle.hp_serve.specs.Falling.{IsDue}
use Rattle.hp_serve.specs.Frames.{Says, SaysNothing}
use Rattle.hp_serve.specs.Party.{Party, after_reply, due_in, one_more}
use Rattle.hp_serve.specs.Posting.{after_answer, after_syncs, is_asker, is_told, result_body, syncs_after, times_sent}
use Rattle.hp_serve.specs.Serving.{CatchesUp, IsMemberServed, after_catching_up, hearing, is_sync}
use Rattle.thm_causes.specs.Shared.{MakesAll, Shared, fetched_by, posted_to, with_number, with_segs}

-- the numbers after a catch-up: who has caught up has acknowledged all records
abbrev pub numbered : ℕ → Caught → Shared → Shared
numbered who caught.Done at = with_number who (length at.segs.log) at
numbered who (caught.Refused row call) at = at
numbered who (caught.Elsewhere row call got) at = at

-- what is shared once a participant has caught up, or failed to
abbrev pub caught_up : ℕ → Caught → Shared → Shared
caught_up who caught at = with_segs (after_catching who caught at.segs) (numbered who caught at)

-- a member follows a SYNC that it has fetched: it catches up with the log as it stands, acknowledges that or notes a mapping that failed,
-- and replies
pub record FollowsIn (old new : Shared) (party after : Party) : Type 0 where
  pub caught : Caught
  pub caught_up_is : CatchesUp old.segs.log party.maps after.maps caught
  pub frame : Frame
  pub says : Says frame (reply_of party.me caught old.segs)
  pub shared : new
      ≡ posted_to 0 frame (action_of party.plan message.Reply party.me (one_more party.sent.replies)) (caught_up party.me caught old)
  pub after_is : after ≡ after_reply (after_catching_up old.segs.log caught after.maps party)
  pub sound : IsSound new.segs
  pub armed : IsArmed old.segs → IsArmed new.segs

-- what one serving makes of a participant without a coordinator, and whether it did something
pub data MemberServes (old new : Shared) (party after : Party) : Bool → Type 0 where
  -- its mailbox was empty
  rests : box_of old.boxes party.me ≡ [] → new ≡ old → after ≡ party → MemberServes old new party after false
  -- a frame said nothing to it
  drops : (frame : Frame) (more : List Frame) → box_of old.boxes party.me ≡ frame ∷ more → SaysNothing frame → new ≡ fetched_by party.me old
      → after ≡ party → MemberServes old new party after true
  -- it was told something else than to catch up
  hears : (frame : Frame) (more : List Frame) (body : Body) → box_of old.boxes party.me ≡ frame ∷ more → Says frame body → is_sync body ≡ false
      → new ≡ fetched_by party.me old → after ≡ hearing body party → MemberServes old new party after true
  -- it was told to catch up, and is not in the roster
  is_out : (frame : Frame) (more : List Frame) (body : Body) → box_of old.boxes party.me ≡ frame ∷ more → Says frame body → is_sync body ≡ true
      → is_member old.segs.roster party.me ≡ false → new ≡ fetched_by party.me old → after ≡ party → MemberServes old new party after true
  -- it was told to catch up, and is in the roster
  obeys : (frame : Frame) (more : List Frame) (body : Body) → box_of old.boxes party.me ≡ frame ∷ more → Says frame body → is_sync body ≡ true
      → is_member old.segs.roster party.me ≡ true → FollowsIn (fetched_by party.me old) new party after → MemberServes old new party after true

-- whatever is shared, what one serving of a member makes of it and of the member is this, exactly
abbrev pub MembersServeSo : Type 0
MembersServeSo = (old new : Shared) (party after : Party) (steps : List MailStep) (moved : Bool) → party.me < length old.boxes
    → IsMemberServed party after steps (Some moved) → MakesAll party.me steps old new → MemberServes old new party after moved

-- the coordinator makes a step, by an answer that its judge may give
pub record Steps (denies : Denials) (event : CoreEvent) (core : Core) (answer : Out) (next : Core) (old new : Shared) : Type 0 where
  pub denied : Option (List ℕ × ℕ)
  pub may : MayDeny denies event core old.segs denied
  pub core_is : next ≡ (stepping denied event core old.segs).core
  pub answer_is : answer ≡ (stepping denied event core old.segs).out
  pub shared : new ≡ with_segs (stepping denied event core old.segs).segs old
  pub sound : IsSound new.segs
  pub armed : IsArmed old.segs → IsArmed new.segs

-- participant 0 catches up for a round, and says so to its coordinator at the present reading
pub record MapsItself (old new : Shared) (party after : Party) (answer : Out) : Type 0 where
  pub core : Core
  pub next : Core
  pub caught : Caught
  pub table : MapsView
  pub there : party.core ≡ Some core
  pub caught_up_is : CatchesUp old.segs.log party.maps table caught
  -- the numbers change before the step, and the segment value by the step alone; no judge is asked then
  pub steps : Steps nobody_denies (SelfMapped caught old.clock) core answer next (numbered 0 caught old) new
  pub after_is : after ≡ with_core next (after_catching_up old.segs.log caught table party)

-- the SYNCs to the participants 1 to n of those that are told, one after another, as the plan has each
unfoldable pub synced : (ℕ → Bool) → Party → Frame → ℕ → Shared → Shared
synced told party frame zero at = at
synced told party frame (suc n) at =
    if told (suc n)
    then posted_to (suc n) frame (action_of party.plan message.Sync (suc n) (one_more (times_sent (syncs_after told party.sent.syncs n) (suc n))))
    (synced told party frame n at)
    else synced told party frame n at

-- what participant 0 posts for its coordinator
pub data PostsFor (count : ℕ) (old new : Shared) (party after : Party) : Out → Type 0 where
  nothing : new ≡ old → after ≡ party → PostsFor count old new party after out.Nothing
  syncs : (generation round members : ℕ) (frame : Frame) → Says frame (Sync generation round)
      → new ≡ synced (is_told count members) party frame 15 old → after ≡ after_syncs (is_told count members) party
      → PostsFor count old new party after (out.Sync generation round members)
  answers : (to number what : ℕ) (good : Bool) (frame : Frame) → is_asker count to ≡ true → Says frame (result_body number what good)
      → new ≡ posted_to to frame (action_of party.plan message.Answer to (one_more (times_sent party.sent.answers to))) old
      → after ≡ after_answer to party → PostsFor count old new party after (out.Answer to number what good)
  nobody : (to number what : ℕ) (good : Bool) → is_asker count to ≡ false → new ≡ old → after ≡ party
      → PostsFor count old new party after (out.Answer to number what good)

-- an answer of the coordinator is carried out: where that is to catch up it does so, as often as it is told, and then what is to be posted
-- is
pub data CarriesOut (count : ℕ) : Shared → Shared → Party → Party → Out → Type 0 where
  posts : (old new : Shared) (party after : Party) (answer : Out) → PostsFor count old new party after answer
      → CarriesOut count old new party after answer
  maps : (old mid new : Shared) (party between after : Party) (answer next : Out) → MustMap answer → MapsItself old mid party between next
      → CarriesOut count mid new between after next → CarriesOut count old new party after answer

-- an event is handed to the coordinator of a participant, and what it answers is carried out
pub record Handles (denies : Denials) (count : ℕ) (event : CoreEvent) (old new : Shared) (party after : Party) : Type 0 where
  pub core : Core
  pub next : Core
  pub answer : Out
  pub mid : Shared
  pub there : party.core ≡ Some core
  pub steps : Steps denies event core answer next old mid
  pub carries : CarriesOut count mid new (with_core next party) after answer

-- it polls at the present reading, by the numbers as they are: those of declared participants that are shared, and 0 for others
pub record Polls (denies : Denials) (count : ℕ) (old new : Shared) (party after : Party) : Type 0 where
  pub acks : List ℕ
  pub known : (who : ℕ) → who < count → who < 16 → slice_index acks who ≡ slice_index old.numbers who
  pub nobody : (who : ℕ) → count ≤ who → who < 16 → slice_index acks who ≡ 0
  pub handles : Handles denies count (Poll old.clock acks) old new party after

-- what one serving makes of participant 0, and whether it did something
pub data CoreServes (denies : Denials) (count : ℕ) (old new : Shared) (party after : Party) : Bool → Type 0 where
  -- its mailbox was empty, no ask that it holds can be started, and the deadline of no round has passed
  rests : box_of old.boxes party.me ≡ [] → core_holds party.core ≡ false → IsToComeAt old.clock (due_in party.core) → new ≡ old → after ≡ party
      → CoreServes denies count old new party after false
  -- its mailbox was empty, and it polled: an ask that it holds can be started, or the deadline of its round has passed
  polls : box_of old.boxes party.me ≡ [] → IsDue party.core (Poll old.clock []) → Polls denies count old new party after
      → CoreServes denies count old new party after true
  -- a frame said nothing to it
  drops : (frame : Frame) (more : List Frame) → box_of old.boxes party.me ≡ frame ∷ more → SaysNothing frame → new ≡ fetched_by party.me old
      → after ≡ party → CoreServes denies count old new party after true
  -- an ask came
  asks : (frame : Frame) (more : List Frame) (body : Body) (event : CoreEvent) → box_of old.boxes party.me ≡ frame ∷ more → Says frame body
      → IsAskIn count body event → Handles denies count event (fetched_by party.me old) new party after
      → CoreServes denies count old new party after true
  -- a reply came while a round was under way: that is a poll
  replied : (frame : Frame) (more : List Frame) (body : Body) (due : ℕ) → box_of old.boxes party.me ≡ frame ∷ more → Says frame body
      → is_sync_reply body ≡ true → due_in party.core ≡ Some due → Polls denies count (fetched_by party.me old) new party after
      → CoreServes denies count old new party after true
  -- a reply came while no round was under way
  late_reply : (frame : Frame) (more : List Frame) (body : Body) → box_of old.boxes party.me ≡ frame ∷ more → Says frame body
      → is_sync_reply body ≡ true → due_in party.core ≡ None → new ≡ fetched_by party.me old → after ≡ party
      → CoreServes denies count old new party after true
  -- anything else, as the answer to its own ask
  hears : (frame : Frame) (more : List Frame) (body : Body) → box_of old.boxes party.me ≡ frame ∷ more → Says frame body → IsNoAsk count body
      → is_sync_reply body ≡ false → new ≡ fetched_by party.me old → after ≡ hearing body party
      → CoreServes denies count old new party after true

-- whatever is shared, what one serving of participant 0 makes of it and of the participant is this, exactly, by a judge that denies so
abbrev pub CoordinatesSo : Denials → Type 0
CoordinatesSo denies = (count : ℕ) (old new : Shared) (party after : Party) (steps : List MailStep) (moved : Bool) → party.me ≡ 0
    → length old.boxes ≡ count → length old.numbers ≡ count → 0 < count → count ≤ 16
    → IsCoreServed denies count party after steps (Some moved) → MakesAll 0 steps old new
    → CoreServes denies count old new party after moved
