-- What a serving comes to, said of what is fetched, taken, given back and posted: the rules "Serving" and "Coordinating" of
-- docs/PARTICIPANTS.md.
use Rattle.std.specs.Prelude.{◌≡◌, ◌≢◌, ℕ, ◌<◌, ⊤, Bool, true, false, List, [], ◌∷◌, ◌++◌, length, Option, Some, None}
use Rattle.hp_base.specs.Plans.{action_of}
use Rattle.hp_base.specs.declared.caught.Caught.{Caught}
use Rattle.hp_base.specs.declared.plan_entry.MsgKind.TheVariants as message
use Rattle.hp_core.specs.Core.{Core}
use Rattle.hp_core.specs.Following.{after_catching, reply_of}
use Rattle.hp_core.specs.declared.event.CoreEvent.{CoreEvent}
use Rattle.hp_frame.specs.declared.frame.Frame.{Frame}
use Rattle.hp_frame.specs.declared.message.Body.{Body}
use Rattle.hp_frame.specs.declared.message.Body.TheVariants.{Sync}
use Rattle.hp_hall.specs.Mail.{MailStep, Fetches, Gives, Notes, Posts, Takes}
use Rattle.hp_mail.specs.declared.posted.Posted.{Posted}
use Rattle.hp_segs.specs.SegsView.{SegsView, is_member}
use Rattle.hp_serve.specs.Coordinating.{IsAskIn, MayDeny, stepping}
use Rattle.hp_serve.specs.Denials.{Denials}
use Rattle.hp_serve.specs.Frames.{Says}
use Rattle.hp_serve.specs.Party.{Party, one_more}
use Rattle.hp_serve.specs.Posting.{is_asker, result_body}
use Rattle.hp_serve.specs.Serving.{MayStopMapping, gives_segments, takes_segments, tells_after_catching}

-- what is said of a post, of its receiver and its frame, holds of each post among these steps
abbrev pub EachPost : (ℕ → Frame → Type 0) → List MailStep → Type 0
EachPost P [] = ⊤
EachPost P (Posts to frame action posted ∷ steps) = P to frame × EachPost P steps
EachPost P (Fetches found ∷ steps) = EachPost P steps
EachPost P (Takes slot kept ∷ steps) = EachPost P steps
EachPost P (Gives slot kept ∷ steps) = EachPost P steps
EachPost P (Notes note ∷ steps) = EachPost P steps

-- A SYNC makes a member take the segment value. In its roster it catches up with the log as it stands, acknowledges it or not, gives the
-- value back, with a mapping that failed noted, and posts its reply to participant 0, as the plan has its next one
pub data FollowsSync (party : Party) (steps : List MailStep) (answer : Option Bool) : Type 0 where
  replies : (taken : SegsView) (caught : Caught) (frame : Frame) (posted : Posted) → is_member taken.roster party.me ≡ true
      → Says frame (reply_of party.me caught taken)
      → steps ≡ takes_segments taken ∷ (tells_after_catching caught (length taken.log) ++ (gives_segments (after_catching party.me caught taken)
      ∷ Posts 0 frame (action_of party.plan message.Reply party.me (one_more party.sent.replies)) posted ∷ []))
      → answer ≡ Some true → FollowsSync party steps answer
  -- not in the roster it gives the value back as it was
  gives_back : (taken : SegsView) → is_member taken.roster party.me ≡ false → steps ≡ takes_segments taken ∷ gives_segments taken ∷ []
      → answer ≡ Some true → FollowsSync party steps answer
  -- where it may not catch up it gives the value back as it was, and stops
  is_worn : (taken : SegsView) → is_member taken.roster party.me ≡ true → MayStopMapping party.maps party.listeners
      → steps ≡ takes_segments taken ∷ gives_segments taken ∷ [] → answer ≡ None → FollowsSync party steps answer

-- all that a member posts is its reply to a SYNC that it fetched
pub record IsReplyPost (party : Party) (fetched : Option Frame) (to : ℕ) (frame : Frame) : Type 0 where
  pub to_zero : to ≡ 0
  pub caught : Caught
  pub taken : SegsView
  pub says : Says frame (reply_of party.me caught taken)
  pub sync : Frame
  pub behind : fetched ≡ Some sync
  pub generation : ℕ
  pub round : ℕ
  pub is_sync : Says sync (Sync generation round)

-- all that participant 0 posts is SYNCs and RESULTs, to participants that the hall has
pub data IsCorePost (count to : ℕ) (frame : Frame) : Type 0 where
  syncs : (generation round : ℕ) → Says frame (Sync generation round) → 0 < to → to < count → IsCorePost count to frame
  results : (number what : ℕ) (good : Bool) → Says frame (result_body number what good) → is_asker count to ≡ true → IsCorePost count to frame

-- an event is handed to the coordinator: participant 0 takes the segment value, and gives it back as the coordinator's step leaves it, with
-- an answer that the judge may give; or it has no memory for the step, gives the value back as it was, and stops
pub data HandsOver (denies : Denials) (party : Party) (event : CoreEvent) (steps : List MailStep) (answer : Option Bool) : Type 0 where
  steps_on : (core : Core) (taken : SegsView) (denied : Option (List ℕ × ℕ)) (more : List MailStep) → party.core ≡ Some core
      → MayDeny denies event core taken denied
      → steps ≡ takes_segments taken ∷ gives_segments (stepping denied event core taken).segs ∷ more
      → HandsOver denies party event steps answer
  no_room : (taken : SegsView) → steps ≡ takes_segments taken ∷ gives_segments taken ∷ [] → answer ≡ None
      → HandsOver denies party event steps answer

-- one serving: first of all it fetches; the rest is by what it fetched
pub record ServesSo (denies : Denials) (count : ℕ) (party : Party) (steps : List MailStep) (answer : Option Bool) : Type 0 where
  pub fetched : Option Frame
  pub rest : List MailStep
  pub first : steps ≡ Fetches fetched ∷ rest
  pub sync : party.me ≢ 0 → (frame : Frame) (generation round : ℕ) → fetched ≡ Some frame → Says frame (Sync generation round)
      → FollowsSync party rest answer
  pub posts : party.me ≢ 0 → EachPost (IsReplyPost party fetched) rest
  pub core_posts : party.me ≡ 0 → EachPost (IsCorePost count) rest
  pub asks : party.me ≡ 0 → (frame : Frame) (body : Body) (event : CoreEvent) → fetched ≡ Some frame → Says frame body
      → IsAskIn count body event → (handed : CoreEvent) × IsAskIn count body handed × HandsOver denies party handed rest answer
