-- What a participant does that asks for pages, or tells that it gave some up, step by step: the rule "Asking" of docs/PARTICIPANTS.md.
use Rattle.std.specs.Prelude.{◌≡◌, ℕ, ◌+◌, ◌-◌, ◌*◌, ◌^◌, ◌≤◌, min, Bool, true, false, ◌||◌, List, [], ◌∷◌, ◌++◌, Option, Some, None}
use Rattle.hp_base.specs.Plans.{action_of}
use Rattle.hp_base.specs.declared.limits.TheConstants.{MAX_READING}
use Rattle.hp_base.specs.declared.plan_entry.MsgKind.TheVariants as message
use Rattle.hp_base.specs.declared.row.Run.{Run}
use Rattle.hp_frame.specs.declared.frame.Frame.{Frame}
use Rattle.hp_hall.specs.HallState.{Did, HallState, Stays}
use Rattle.hp_hall.specs.Mail.{MailStep, Notes, Posts}
use Rattle.hp_hall.specs.declared.note.Note.TheVariants.{Read}
use Rattle.hp_mail.specs.declared.posted.Posted.{Posted}
use Rattle.hp_segs.specs.LaterSteps.{after_arm}
use Rattle.hp_segs.specs.SegsView.{SegsView}
use Rattle.hp_segs.specs.declared.ask.Ask.{Ask}
use Rattle.hp_serve.specs.Asking.{GrowsHeld, HasSettledAsks, IsAsked, after_settling, alloc_body, ask_of, free_body, next_number}
use Rattle.hp_serve.specs.Denials.{Denials}
use Rattle.hp_serve.specs.Frames.{Says}
use Rattle.hp_serve.specs.Looking.{IsLookAt}
use Rattle.hp_serve.specs.Party.{Party, after_alloc, after_free, one_more}
use Rattle.hp_serve.specs.Serving.{gives_segments, takes_segments}
use Rattle.hp_serve.specs.Waiting.{IsWaited, IsWaitedOut}
use Rattle.hp_serve.specs.declared.answered.Answered.{Answered}
use Rattle.hp_serve.specs.declared.pages_asked.PagesAsked.{PagesAsked}
use Rattle.hp_serve.specs.declared.settling.Found.TheVariants.{Settled, Open}

-- how long an asker waits that read its clock then: three deadlines, up to the end of the clock's type
abbrev pub waits_until : ℕ → ℕ → ℕ
waits_until since deadline = min (since + 3 * deadline) (2 ^ 64 - 1)

-- a participant is armed with an ask, reads its clock and posts the ask, as the plan has its next one; the ask has the participant's next
-- number, by the outcomes of the value in which it is armed. It waits from the greatest reading that a clock gives at the latest: three
-- deadlines after that the clock's type has not ended
pub record IsSentAs (party : Party) (ask : Ask) (since : ℕ) (steps : List MailStep) : Type 0 where
  pub taken : SegsView
  pub now : ℕ
  pub frame : Frame
  pub posted : Posted
  pub number : ask.number ≡ next_number party.asked taken.asks party.me
  pub read : since ≡ min now MAX_READING
  pub says : Says frame (alloc_body ask)
  pub are : steps ≡ takes_segments taken ∷ gives_segments (after_arm ask taken) ∷ Notes (Read now)
      ∷ Posts 0 frame (action_of party.plan message.Alloc party.me (one_more party.sent.allocs)) posted ∷ []

-- it waits until a reading of its clock has reached its deadline, whatever it is answered, and then settles its ask: what is taken back has
-- that reading, and the one from before it was sent
pub record IsSettledLate (denies : Denials) (count : ℕ) (party after : Party) (ask : Ask) (since : ℕ) (steps : List MailStep) : Type 0 where
  pub waited : List MailStep
  pub taken : SegsView
  pub now : ℕ
  pub waits : IsWaited denies count (waits_until since party.deadline) false party after waited (Some now)
  pub are : steps ≡ waited ++ (takes_segments taken ∷ gives_segments (after_settling ask since now taken) ∷ [])

-- it waits for its answer, for three deadlines at most, and looks; where it finds none, it waits on until they have passed
pub data IsAwaitedBy (denies : Denials) (count : ℕ) (party after : Party) (ask : Ask) (since : ℕ) (steps : List MailStep)
    (run : Option Run) : Type 0 where
  finds : (now : ℕ) (waited looked : List MailStep)
      → IsWaited denies count (waits_until since party.deadline) true party after waited (Some now)
      → IsLookAt ask looked (Settled run) → steps ≡ waited ++ looked → IsAwaitedBy denies count party after ask since steps run
  settles : (mid : Party) (now : ℕ) (waited looked late : List MailStep)
      → IsWaited denies count (waits_until since party.deadline) true party mid waited (Some now) → IsLookAt ask looked Open
      → IsSettledLate denies count mid after ask since late → steps ≡ waited ++ (looked ++ late)
      → IsAwaitedBy denies count party after ask since steps run

-- a participant asks for pages, and is answered with the run, or none
pub record DoesAsk (denies : Denials) (count : ℕ) (party after : Party) (asked : PagesAsked) (steps : List MailStep)
    (run : Option Run) : Type 0 where
  pub since : ℕ
  pub sending : List MailStep
  pub rest : List MailStep
  pub sent : IsSentAs party (ask_of party.me after.asked asked) since sending
  pub awaited : IsAwaitedBy denies count (after_alloc after.asked party) after (ask_of party.me after.asked asked) since rest run
  pub are : steps ≡ sending ++ rest

-- where somebody may stop meanwhile it settles its ask late in these steps: it sees its wait through, so that what is taken back has a
-- reading that has reached its deadline
pub record IsSettledOn (denies : Denials) (count : ℕ) (party after : Party) (ask : Ask) (since : ℕ) (steps : List MailStep)
    (stopped : Bool) : Type 0 where
  pub waited : List MailStep
  pub taken : SegsView
  pub now : ℕ
  pub waits : IsWaitedOut denies count (waits_until since party.deadline) false party after waited now stopped
  pub are : steps ≡ waited ++ (takes_segments taken ∷ gives_segments (after_settling ask since now taken) ∷ [])

-- where somebody may stop meanwhile it awaits its answer in these steps, and sees each wait through
pub data IsAwaitedOn (denies : Denials) (count : ℕ) (party after : Party) (ask : Ask) (since : ℕ) (steps : List MailStep)
    (run : Option Run) (stopped : Bool)
    : Type 0 where
  finds : (now : ℕ) (waited looked : List MailStep)
      → IsWaitedOut denies count (waits_until since party.deadline) true party after waited now stopped → IsLookAt ask looked (Settled run)
      → steps ≡ waited ++ looked → IsAwaitedOn denies count party after ask since steps run stopped
  settles : (mid : Party) (now : ℕ) (waited looked late : List MailStep) (first second : Bool)
      → IsWaitedOut denies count (waits_until since party.deadline) true party mid waited now first → IsLookAt ask looked Open
      → IsSettledOn denies count mid after ask since late second → steps ≡ waited ++ (looked ++ late) → stopped ≡ (first || second)
      → IsAwaitedOn denies count party after ask since steps run stopped

-- a participant asks for pages, and is answered with the run, or none, where somebody may stop meanwhile
pub record DoesAskOn (denies : Denials) (count : ℕ) (party after : Party) (asked : PagesAsked) (steps : List MailStep)
    (run : Option Run) (stopped : Bool)
    : Type 0 where
  pub since : ℕ
  pub sending : List MailStep
  pub rest : List MailStep
  pub sent : IsSentAs party (ask_of party.me after.asked asked) since sending
  pub awaited : IsAwaitedOn denies count (after_alloc after.asked party) after (ask_of party.me after.asked asked) since rest run stopped
  pub are : steps ≡ sending ++ rest

-- a participant asked for pages in a hall, by these steps, also where somebody stopped meanwhile: by the next number, and has its answer;
-- and what was granted came to the heap, which it holds
pub record AsksIn (denies : Denials) (me : ℕ) (old new : Party) (asked : PagesAsked) (from to : HallState)
    (answered : Answered) : Type 0 where
  pub did : (steps : List MailStep) × Did me steps from to × DoesAskOn denies from.count old new asked steps answered.run answered.stopped
  pub answer : IsAsked (to.seen me) (to.heard me) me old.asked new.asked asked answered.run
  pub grows : GrowsHeld asked.heap answered.run (from.part me asked.heap) (to.part me asked.heap)

-- a participant is armed as before, without memory or a number for a new ask: it took the segment value, gave it back as it was, and did
-- nothing else; its asks are settled still
pub record IsArmedAsBefore (me : ℕ) (from to : HallState) : Type 0 where
  pub did : (taken : SegsView) × Did me (takes_segments taken ∷ gives_segments taken ∷ []) from to
  pub stays : Stays me from to
  pub settled : HasSettledAsks (to.part me) (to.heard me)

-- so it asked for nothing, and is as it was
pub record AsksNothing (me : ℕ) (old new : Party) (from to : HallState) : Type 0 where
  pub armed : IsArmedAsBefore me from to
  pub party : new ≡ old

-- a participant tells that it gave up a run of a heap, as the plan has its next notice, reads its clock, and waits for the answer, for three
-- deadlines at most
pub record DoesNotify (denies : Denials) (count : ℕ) (party after : Party) (heap : ℕ) (run : Run) (steps : List MailStep) : Type 0 where
  pub frame : Frame
  pub posted : Posted
  pub since : ℕ
  pub now : ℕ
  pub waited : List MailStep
  pub says : Says frame (free_body party.me (party.asked + 1) heap run)
  pub waits : IsWaited denies count (waits_until since party.deadline) true (after_free (party.asked + 1) party) after waited (Some now)
  pub are : steps ≡ Posts 0 frame (action_of party.plan message.Free party.me (one_more party.sent.frees)) posted
      ∷ Notes (Read since) ∷ waited

-- it stops over that: its numbers have come to an end, and it does nothing; or it tells so, reads its clock and waits, and somebody stops
-- meanwhile
pub data StopsNotifying (denies : Denials) (count : ℕ) (party after : Party) (heap : ℕ) (run : Run) (steps : List MailStep) : Type 0 where
  no_number : 2 ^ 64 ≤ party.asked + 1 → after ≡ party → steps ≡ [] → StopsNotifying denies count party after heap run steps
  stops : (frame : Frame) (posted : Posted) (since : ℕ) (waited : List MailStep) → Says frame (free_body party.me (party.asked + 1) heap run)
      → IsWaited denies count (waits_until since party.deadline) true (after_free (party.asked + 1) party) after waited None
      → steps ≡ Posts 0 frame (action_of party.plan message.Free party.me (one_more party.sent.frees)) posted ∷ Notes (Read since) ∷ waited
      → StopsNotifying denies count party after heap run steps
