-- What participant 0 posts for its coordinator: the rule "Coordinating" of docs/PARTICIPANTS.md.
use Rattle.std.specs.Prelude.{◌≡◌, ℕ, zero, suc, Bool, true, false, ◌&&◌, List, [], ◌∷◌, ◌++◌, nat_lt, slice_index_or, slice_set, if◌then◌else◌}
use Rattle.hp_base.specs.Plans.{action_of}
use Rattle.hp_base.specs.declared.plan_entry.MsgKind.TheVariants as message
use Rattle.hp_base.specs.declared.plan_entry.PlanEntry.{PlanEntry}
use Rattle.hp_core.specs.declared.out.Out.{Out}
use Rattle.hp_core.specs.declared.out.Out.TheVariants as out
use Rattle.hp_frame.specs.Spelling.{HasFieldValues}
use Rattle.hp_frame.specs.declared.frame.Frame.{Frame}
use Rattle.hp_frame.specs.declared.message.Body.{Body}
use Rattle.hp_frame.specs.declared.message.Body.TheVariants.{Sync, Answer}
use Rattle.hp_hall.specs.Mail.{MailStep, Posts}
use Rattle.hp_mail.specs.declared.posted.Posted.{Posted}
use Rattle.hp_base.specs.Flags.{has_bit}
use Rattle.hp_serve.specs.Frames.{Says}
use Rattle.hp_serve.specs.Party.{Party, one_more}

-- how often a message was sent to a participant, by the numbers for all
abbrev pub times_sent : List ℕ → ℕ → ℕ
times_sent counts who = slice_index_or counts who 0

-- one more was sent to it
abbrev pub sent_once_more : List ℕ → ℕ → List ℕ
sent_once_more counts who = slice_set counts who (one_more (times_sent counts who))

-- a SYNC goes to a participant that the hall has and that the coordinator names: bit p of its number of members stands for participant p
abbrev pub is_told : ℕ → ℕ → ℕ → Bool
is_told count members who = nat_lt who count && has_bit members who

-- a RESULT goes to a participant of 0 to 15 that the hall has
abbrev pub is_asker : ℕ → ℕ → Bool
is_asker count to = nat_lt to count && nat_lt to 16

-- how many SYNCs were sent to each once those to the participants 1 to n are posted
unfoldable pub syncs_after : (ℕ → Bool) → List ℕ → ℕ → List ℕ
syncs_after told counts zero = counts
syncs_after told counts (suc n) =
    if told (suc n) then sent_once_more (syncs_after told counts n) (suc n) else syncs_after told counts n

-- one post, as the plan has it for the next SYNC to that participant, or none
pub data IsToldOne (plan : List PlanEntry) (frame : Frame) (counts : List ℕ) (who : ℕ) (told : Bool) (steps : List MailStep) : Type 0 where
  tells : (posted : Posted) → told ≡ true
      → steps ≡ Posts who frame (action_of plan message.Sync who (one_more (times_sent counts who))) posted ∷ []
      → IsToldOne plan frame counts who told steps
  passes : told ≡ false → steps ≡ [] → IsToldOne plan frame counts who told steps

-- a SYNC is posted once to each participant of 1 to n that is to be told, in rising number, and to no other
unfoldable pub AreTold : List PlanEntry → List ℕ → Frame → (ℕ → Bool) → ℕ → List MailStep → Type 0
AreTold plan counts frame told zero steps = steps ≡ []
AreTold plan counts frame told (suc n) steps =
    (before : List MailStep) × (last : List MailStep) × AreTold plan counts frame told n before
    × IsToldOne plan frame (syncs_after told counts n) (suc n) (told (suc n)) last × (steps ≡ before ++ last)

-- a participant whose coordinator has sent SYNCs
abbrev pub after_syncs : (ℕ → Bool) → Party → Party
after_syncs told party = record party { sent = record party.sent { syncs = syncs_after told party.sent.syncs 15 } }

-- a participant whose coordinator has sent a RESULT
abbrev pub after_answer : ℕ → Party → Party
after_answer to party = record party { sent = record party.sent { answers = sent_once_more party.sent.answers to } }

-- the RESULT: whether memory was granted, or has gone back
abbrev pub result_body : ℕ → ℕ → Bool → Body
result_body number what good = Answer 0 number what (if good then 0 else 1)

-- what the coordinator has to say is among the values of frames
abbrev pub IsSpoken : Out → Type 0
IsSpoken out.Nothing = Unit {0}
IsSpoken (out.MapSelf generation) = Unit {0}
IsSpoken (out.Sync generation round members) = HasFieldValues (Sync generation round)
IsSpoken (out.Answer to number what good) = HasFieldValues (result_body number what good)

-- what participant 0 posts after an answer of its coordinator
pub data IsPosted (count : ℕ) (party after : Party) (answer : Out) (steps : List MailStep) : Type 0 where
  nothing : answer ≡ out.Nothing → steps ≡ [] → after ≡ party → IsPosted count party after answer steps
  -- a SYNC to each member that is named
  syncs : (generation round members : ℕ) (frame : Frame) → answer ≡ out.Sync generation round members → Says frame (Sync generation round)
      → AreTold party.plan party.sent.syncs frame (is_told count members) 15 steps → after ≡ after_syncs (is_told count members) party
      → IsPosted count party after answer steps
  -- a RESULT to the asker, as the plan has it for the next RESULT to it
  answers : (to number what : ℕ) (good : Bool) (frame : Frame) (posted : Posted) → answer ≡ out.Answer to number what good → is_asker count to ≡ true
      → Says frame (result_body number what good)
      → steps ≡ Posts to frame (action_of party.plan message.Answer to (one_more (times_sent party.sent.answers to))) posted ∷ []
      → after ≡ after_answer to party → IsPosted count party after answer steps
  -- the hall has no such asker
  nobody : (to number what : ℕ) (good : Bool) → answer ≡ out.Answer to number what good → is_asker count to ≡ false → steps ≡ [] → after ≡ party
      → IsPosted count party after answer steps
