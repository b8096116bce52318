-- What was done for an ask, and for a notice, from its parts.
use Rattle.std.proofs.Common.{◌≡◌, ◌∙◌, ℕ, ◌+◌, Bool, true, List, [], ◌∷◌, ◌++◌, Option, Some, None, refl, ap, sym, subst}
use Rattle.std.specs.Prelude.{min}
use Rattle.hp_base.specs.Plans.{action_of}
use Rattle.hp_base.specs.declared.limits.TheConstants.{MAX_READING}
use Rattle.hp_base.specs.declared.plan_entry.MsgKind.TheVariants as message
use Rattle.hp_base.specs.declared.row.Run.{Run}
use Rattle.hp_frame.specs.declared.frame.Frame.{Frame}
use Rattle.hp_hall.specs.Mail.{MailStep, Notes, Posts}
use Rattle.hp_hall.specs.declared.note.Note.TheVariants.{Read}
use Rattle.hp_mail.specs.declared.posted.Posted.{Posted}
use Rattle.hp_segs.specs.LaterSteps.{after_arm}
use Rattle.hp_segs.specs.SegsView.{SegsView}
use Rattle.hp_segs.specs.declared.ask.Ask.{Ask}
use Rattle.hp_serve.specs.AskSteps.{DoesAskOn, DoesNotify, IsAwaitedOn, IsSentAs, StopsNotifying, waits_until}
use Rattle.hp_serve.specs.Asking.{alloc_body, ask_of, free_body, next_number}
use Rattle.hp_serve.specs.Denials.{Denials}
use Rattle.hp_serve.specs.Frames.{Says}
use Rattle.hp_serve.specs.Party.{Party, after_alloc, after_free, one_more}
use Rattle.hp_serve.specs.Serving.{gives_segments, takes_segments}
use Rattle.hp_serve.specs.Waiting.{IsWaited}
use Rattle.hp_serve.specs.declared.pages_asked.PagesAsked.{PagesAsked}

-- a participant's next ALLOC, and its next FREE, as the plan has them
abbrev pub posts_alloc : Party → Frame → Posted → MailStep
posts_alloc party frame posted = Posts 0 frame (action_of party.plan message.Alloc party.me (one_more party.sent.allocs)) posted

abbrev pub posts_free : Party → Frame → Posted → MailStep
posts_free party frame posted = Posts 0 frame (action_of party.plan message.Free party.me (one_more party.sent.frees)) posted

-- the steps of an ask that is sent
abbrev pub sends : Party → Ask → SegsView → ℕ → Frame → Posted → List MailStep
sends party ask taken now frame posted =
    takes_segments taken ∷ gives_segments (after_arm ask taken) ∷ Notes (Read now) ∷ posts_alloc party frame posted ∷ []

-- its ask was sent, by the number that is its last one after that
pub sent_as : (party after : Party) (asked : PagesAsked) (ask : Ask) (since now : ℕ) (taken : SegsView) (frame : Frame) (posted : Posted)
    → ask ≡ ask_of party.me ask.number asked → ask.number ≡ next_number party.asked taken.asks party.me → after.asked ≡ ask.number
    → since ≡ min now MAX_READING → Says frame (alloc_body ask)
    → IsSentAs party (ask_of party.me after.asked asked) since (sends party ask taken now frame posted)
sent_as party after asked ask since now taken frame posted ask_is number after_is read says =
    subst (λ named. IsSentAs party named since (sends party ask taken now frame posted))
    (ask_is ∙ ap (λ number. ask_of party.me number asked) (sym after_is))
    (record { taken = taken; now = now; frame = frame; posted = posted; number = number; read = read; says = says; are = refl })

pub does_ask : {denies : Denials}
    → (count : ℕ) (party mid after : Party) (asked : PagesAsked) (ask : Ask) (since now : ℕ) (taken : SegsView) (frame : Frame)
    (posted : Posted) (rest : List MailStep) (run : Option Run) (stopped : Bool) → ask ≡ ask_of party.me ask.number asked
    → ask.number ≡ next_number party.asked taken.asks party.me → since ≡ min now MAX_READING → after.asked ≡ ask.number
    → mid ≡ after_alloc ask.number party → Says frame (alloc_body ask) → IsAwaitedOn denies count mid after ask since rest run stopped
    → DoesAskOn denies count party after asked (sends party ask taken now frame posted ++ rest) run stopped
does_ask {denies} count party mid after asked ask since now taken frame posted rest run stopped ask_is number read after_is mid_is says
    awaited =
    let named : ask ≡ ask_of party.me after.asked asked = ask_is ∙ ap (λ number. ask_of party.me number asked) (sym after_is) in
    record {
      since = since;
      sending = sends party ask taken now frame posted;
      rest = rest;
      sent = sent_as party after asked ask since now taken frame posted ask_is number after_is read says;
      awaited = subst (λ ask. IsAwaitedOn denies count (after_alloc after.asked party) after ask since rest run stopped) named
          (subst (λ number. IsAwaitedOn denies count (after_alloc number party) after ask since rest run stopped) (sym after_is)
          (subst (λ mid. IsAwaitedOn denies count mid after ask since rest run stopped) mid_is awaited));
      are = refl;
    }

pub does_notify : {denies : Denials}
    → (count : ℕ) (party mid after : Party) (heap number : ℕ) (run : Run) (frame : Frame) (posted : Posted) (since now : ℕ)
    (waited : List MailStep)
    → number ≡ party.asked + 1 → mid ≡ after_free number party → Says frame (free_body party.me number heap run)
    → IsWaited denies count (waits_until since mid.deadline) true mid after waited (Some now)
    → DoesNotify denies count party after heap run (posts_free party frame posted ∷ Notes (Read since) ∷ waited)
does_notify {denies} count party mid after heap number run frame posted since now waited number_is mid_is says waits = record {
  frame = frame;
  posted = posted;
  since = since;
  now = now;
  waited = waited;
  says = subst (λ number. Says frame (free_body party.me number heap run)) number_is says;
  waits = subst (λ mid. IsWaited denies count (waits_until since mid.deadline) true mid after waited (Some now))
      (mid_is ∙ ap (λ number. after_free number party) number_is) waits;
  are = refl;
}

-- it was told so, and somebody stopped while it waited
pub stops_notifying : {denies : Denials}
    → (count : ℕ) (party mid after : Party) (heap number : ℕ) (run : Run) (frame : Frame) (posted : Posted) (since : ℕ)
    (waited : List MailStep) → number ≡ party.asked + 1 → mid ≡ after_free number party → Says frame (free_body party.me number heap run)
    → IsWaited denies count (waits_until since mid.deadline) true mid after waited None
    → StopsNotifying denies count party after heap run (posts_free party frame posted ∷ Notes (Read since) ∷ waited)
stops_notifying {denies} count party mid after heap number run frame posted since waited number_is mid_is says waits =
    StopsNotifying.stops frame posted since waited (subst (λ number. Says frame (free_body party.me number heap run)) number_is says)
    (subst (λ mid. IsWaited denies count (waits_until since mid.deadline) true mid after waited None)
    (mid_is ∙ ap (λ number. after_free number party) number_is) waits)
    refl
