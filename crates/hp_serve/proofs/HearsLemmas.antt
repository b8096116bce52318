-- What serving leaves of a participant's watchers, by cases on what it did: the rule "Serving" of docs/PARTICIPANTS.md.
use Rattle.std.proofs.Common.{◌≡◌, ◌∙◌, ℕ, ◌+◌, zero, suc, Bool, true, false, List, [], ◌∷◌, length, map, Option, Some, None, refl, ap, sym, subst}
use Rattle.hp_base.specs.Telling.{Listener, told_after}
use Rattle.hp_base.specs.declared.caught.Caught.{Caught}
use Rattle.hp_base.specs.declared.event.Event.{Event}
use Rattle.hp_base.specs.declared.event.EventKind.TheVariants.{Free}
use Rattle.hp_base.specs.declared.row.Row.{Row}
use Rattle.hp_base.specs.declared.row.Run.{Run}
use Rattle.hp_core.specs.Core.{Core}
use Rattle.hp_core.specs.declared.event.CoreEvent.{CoreEvent}
use Rattle.hp_core.specs.declared.out.Out.{Out}
use Rattle.hp_frame.specs.declared.frame.Frame.{Frame}
use Rattle.hp_frame.specs.declared.message.Body.{Body}
use Rattle.hp_hall.specs.Mail.{MailStep}
use Rattle.hp_log.specs.declared.log_record.LogRecord.{LogRecord}
use Rattle.hp_maps.specs.Catching.{newer}
use Rattle.hp_maps.specs.Events.{IsToldByAddress, all_told, caught_events, events_of}
use Rattle.hp_maps.specs.MapsView.{MapsView}
use Rattle.hp_segs.specs.SegsView.{SegsView}
use Rattle.hp_segs.specs.declared.ask.Ask.{Ask}
use Rattle.hp_serve.specs.AskSteps.{DoesAskOn, DoesNotify, IsAwaitedOn, StopsNotifying}
use Rattle.hp_serve.specs.Coordinating.{IsAnswered, IsCarried, IsCoreServed, IsHandled, IsMapped, IsFrameHandled, IsPolled, IsRested, IsServed, IsSettled, with_core}
use Rattle.hp_serve.specs.Denials.{Denials}
use Rattle.hp_serve.specs.Party.{Party, after_alloc, after_free}
use Rattle.hp_serve.specs.Posting.{IsPosted}
use Rattle.hp_serve.specs.Serving.{IsFollowed, IsDispatched, IsMemberServed, IsTold, after_catching_up, hearing}
use Rattle.hp_serve.specs.Waiting.{AreServings, AreTurns, AreTurnsOn, HaveServed, IsServedOut, IsTurned, IsWaited, IsWaitedOut}
use Rattle.hp_serve.specs.Watched.{HearsOn, names_of}
use Rattle.hp_serve.specs.declared.pages_asked.PagesAsked.{PagesAsked}

pub hears_same : (party : Party) → HearsOn party party
hears_same party = record { names = refl; since = refl }

pub hears_then : (first second third : Party) → HearsOn first second → HearsOn second third → HearsOn first third
hears_then first second third here there = record { names = there.names ∙ here.names; since = there.since ∙ here.since }

-- one that has become another
hears_to : (party mid after : Party) → after ≡ mid → HearsOn party mid → HearsOn party after
hears_to party mid after is leaves = subst (HearsOn party) (sym is) leaves

hears_here : (party after : Party) → after ≡ party → HearsOn party after
hears_here party after is = hears_to party party after is (hears_same party)

hears_hearing : (body : Body) (party : Party) → HearsOn party (hearing body party)
hears_hearing body party = record { names = refl; since = refl }

hears_core_of : (core : Core) (party : Party) → HearsOn party (with_core core party)
hears_core_of core party = record { names = refl; since = refl }

hears_alloc : (number : ℕ) (party : Party) → HearsOn party (after_alloc number party)
hears_alloc number party = record { names = refl; since = refl }

hears_free : (number : ℕ) (party : Party) → HearsOn party (after_free number party)
hears_free number party = record { names = refl; since = refl }

-- what is told leaves names, and the rows that were mapped at first
told_names : (event : Event) (listeners : List Listener) → names_of (told_after event listeners) ≡ names_of listeners
told_names event [] = refl
told_names event (listener ∷ listeners) = ap (λ (names : List (List ℕ)). listener.name ∷ names) (told_names event listeners)

told_since : (event : Event) (listeners : List Listener)
    → map (λ (listener : Listener). listener.since) (told_after event listeners) ≡ map (λ (listener : Listener). listener.since) listeners
told_since event [] = refl
told_since event (listener ∷ listeners) = ap (λ (tables : List (List Row)). listener.since ∷ tables) (told_since event listeners)

all_names : (events : List Event) (listeners : List Listener) → names_of (all_told events listeners) ≡ names_of listeners
all_names [] listeners = refl
all_names (event ∷ events) listeners = all_names events (told_after event listeners) ∙ told_names event listeners

all_since : (events : List Event) (listeners : List Listener)
    → map (λ (listener : Listener). listener.since) (all_told events listeners) ≡ map (λ (listener : Listener). listener.since) listeners
all_since [] listeners = refl
all_since (event ∷ events) listeners = all_since events (told_after event listeners) ∙ told_since event listeners

-- and so one that has caught up, or failed to, has the watchers that it had
pub hears_caught : (log : List LogRecord) (caught : Caught) (maps : MapsView) (party : Party) → HearsOn party (after_catching_up log caught maps party)
hears_caught log caught maps party =
    let events : List Event = caught_events party.maps.rows party.maps.number (newer log party.maps.number (length log)) caught in
    record { names = all_names events party.listeners; since = all_since events party.listeners }

-- and one that was told of rows as they went
pub hears_rows : (rows : List Row) (old new : List Listener) → IsToldByAddress rows old new → names_of new ≡ names_of old
hears_rows rows old new told =
    ap (λ (listeners : List Listener). names_of listeners) told.told ∙ all_names (events_of Free told.rising) old

-- OF PARTICIPANT 0

hears_posted : (count : ℕ) (party after : Party) (answer : Out) (steps : List MailStep) → IsPosted count party after answer steps
    → HearsOn party after
hears_posted count party after answer steps (IsPosted.nothing is did after_is) = hears_here party after after_is
hears_posted count party after answer steps (IsPosted.syncs generation round members frame is says told after_is) =
    hears_to party _ after after_is (record { names = refl; since = refl })
hears_posted count party after answer steps (IsPosted.answers to number what good frame posted is asker says did after_is) =
    hears_to party _ after after_is (record { names = refl; since = refl })
hears_posted count party after answer steps (IsPosted.nobody to number what good is asker did after_is) = hears_here party after after_is

hears_mapped : (party after : Party) (steps : List MailStep) (answer : Option Out) → IsMapped party after steps answer → HearsOn party after
hears_mapped party after steps answer (IsMapped.maps core next taken caught table own now more core_is did caught_up is after_is) =
    let heard = hears_caught taken.log caught table party in
    hears_to party _ after after_is (record { names = heard.names; since = heard.since })
hears_mapped party after steps answer (IsMapped.worn taken is_worn did after_is none) = hears_here party after after_is

hears_settled : (count : ℕ) (party after : Party) (answer : Out) (steps : List MailStep) (goes : Bool) → IsSettled count party after answer steps goes
    → HearsOn party after
hears_settled count party after answer steps goes (IsSettled.posts posted is) = hears_posted count party after answer steps posted
hears_settled count party after answer steps goes (IsSettled.stops must mapped is) = hears_mapped party after steps None mapped

hears_carried : (count : ℕ) (path : List Party) (party after : Party) (answer : Out) (steps : List MailStep) (goes : Bool)
    → IsCarried count path party after answer steps goes → HearsOn party after
hears_carried count [] party after answer steps goes is = hears_settled count party after answer steps goes is
hears_carried count (mid ∷ path) party after answer steps goes is =
    hears_then party mid after (hears_mapped party mid is.1 (Some is.0) is.5) (hears_carried count path mid after is.0 is.2 goes is.6)

hears_handled : {denies : Denials} → (count : ℕ) (event : CoreEvent) (party after : Party) (steps : List MailStep) (goes : Bool)
    → IsHandled denies count event party after steps goes → HearsOn party after
hears_handled count event party after steps goes (IsHandled.carries core next answer path first more core_is hands carried did) =
    hears_then party _ after (hears_core_of next party) (hears_carried count path _ after answer more goes carried)
hears_handled count event party after steps goes (IsHandled.stops core next core_is hands after_is none) =
    hears_to party _ after after_is (hears_core_of next party)

hears_polled : {denies : Denials} → (count now : ℕ) (party after : Party) (steps : List MailStep) (goes : Bool)
    → IsPolled denies count now party after steps goes
    → HearsOn party after
hears_polled count now party after steps goes polled = hears_handled count _ party after polled.more goes polled.handled

hears_answered : {denies : Denials} → (count : ℕ) (party after : Party) (body : Body) (steps : List MailStep) (goes : Bool)
    → IsAnswered denies count party after body steps goes → HearsOn party after
hears_answered count party after body steps goes (IsAnswered.polls due now more reply due_is did polled) =
    hears_polled count now party after more goes polled
hears_answered count party after body steps goes (IsAnswered.rests reply none did after_is goes_is) = hears_here party after after_is
hears_answered count party after body steps goes (IsAnswered.hears reply did after_is goes_is) =
    hears_to party (hearing body party) after after_is (hears_hearing body party)

hears_obeyed : {denies : Denials} → (count : ℕ) (party after : Party) (frame : Frame) (steps : List MailStep) (goes : Bool)
    → IsFrameHandled denies count party after frame steps goes
    → HearsOn party after
hears_obeyed count party after frame steps goes (IsFrameHandled.drops says did after_is goes_is) = hears_here party after after_is
hears_obeyed count party after frame steps goes (IsFrameHandled.asks body event says ask handled) = hears_handled count event party after steps goes handled
hears_obeyed count party after frame steps goes (IsFrameHandled.others body says none answered) = hears_answered count party after body steps goes answered

hears_rested : {denies : Denials} → (count : ℕ) (party after : Party) (steps : List MailStep) (answer : Option Bool)
    → IsRested denies count party after steps answer
    → HearsOn party after
hears_rested count party after steps answer (IsRested.rests now holds early did after_is is) = hears_here party after after_is
hears_rested count party after steps answer (IsRested.polls now more goes due did polled is) = hears_polled count now party after more goes polled

hears_core : {denies : Denials} → (count : ℕ) (party after : Party) (steps : List MailStep) (answer : Option Bool)
    → IsCoreServed denies count party after steps answer
    → HearsOn party after
hears_core count party after steps answer (IsCoreServed.rests more did rested) = hears_rested count party after more answer rested
hears_core count party after steps answer (IsCoreServed.heeds frame more goes did obeyed is) = hears_obeyed count party after frame more goes obeyed

-- OF ALL OTHERS

hears_followed : (party after : Party) (taken : SegsView) (steps : List MailStep) (goes : Bool) → IsFollowed party after taken steps goes
    → HearsOn party after
hears_followed party after taken steps goes (IsFollowed.obeys member obeys is) =
    let heard = hears_caught taken.log obeys.caught after.maps party in
    hears_to party _ after obeys.after_is (record { names = heard.names; since = heard.since })
hears_followed party after taken steps goes (IsFollowed.is_out member did after_is is) = hears_here party after after_is
hears_followed party after taken steps goes (IsFollowed.is_worn member worn did after_is is) = hears_here party after after_is

hears_told : (party after : Party) (body : Body) (steps : List MailStep) (goes : Bool) → IsTold party after body steps goes → HearsOn party after
hears_told party after body steps goes (IsTold.hears sync did after_is is) =
    hears_to party (hearing body party) after after_is (hears_hearing body party)
hears_told party after body steps goes (IsTold.follows taken more sync did followed) = hears_followed party after taken more goes followed

hears_heeded : (party after : Party) (frame : Frame) (steps : List MailStep) (goes : Bool) → IsDispatched party after frame steps goes
    → HearsOn party after
hears_heeded party after frame steps goes (IsDispatched.drops says did after_is is) = hears_here party after after_is
hears_heeded party after frame steps goes (IsDispatched.tells body says told) = hears_told party after body steps goes told

hears_member : (party after : Party) (steps : List MailStep) (answer : Option Bool) → IsMemberServed party after steps answer → HearsOn party after
hears_member party after steps answer (IsMemberServed.rests did after_is is) = hears_here party after after_is
hears_member party after steps answer (IsMemberServed.heeds frame more goes did heeded is) = hears_heeded party after frame more goes heeded

-- OF EVERY ONE

-- one serving
pub hears_served : {denies : Denials} → (count : ℕ) (party after : Party) (steps : List MailStep) (answer : Option Bool)
    → IsServed denies count party after steps answer
    → HearsOn party after
hears_served count party after steps answer (IsServed.coordinates me served) = hears_core count party after steps answer served
hears_served count party after steps answer (IsServed.follows me served) = hears_member party after steps answer served

-- so many servings
pub hears_servings : (denies : Denials) (count times : ℕ) (party after : Party) (steps : List MailStep)
    → AreServings denies count times party after steps
    → HearsOn party after
unfolding AreServings
hears_servings denies count zero party after steps are = hears_here party after are.0
hears_servings denies count (suc n) party after steps are =
    hears_then party are.0 after (hears_servings denies count n party are.0 are.1 are.3)
    (hears_served count are.0 after are.2 (Some true) are.4)

-- its part of a turn
pub hears_served_out : {denies : Denials} → (count : ℕ) (party after : Party) (steps : List MailStep) (answer : Option Bool)
    → IsServedOut denies count party after steps answer
    → HearsOn party after
hears_served_out {denies} count party after steps answer (IsServedOut.rests times mid first last few are served did is) =
    hears_then party mid after (hears_servings denies count times party mid first are)
    (hears_served count mid after last (Some false) served)
hears_served_out {denies} count party after steps answer (IsServedOut.stops times mid first last few are served did is) =
    hears_then party mid after (hears_servings denies count times party mid first are) (hears_served count mid after last None served)
hears_served_out {denies} count party after steps answer (IsServedOut.enough are is) = hears_servings denies count _ party after steps are

-- all served in a turn
pub hears_have_served : {denies : Denials} → (count : ℕ) (party after : Party) (steps : List MailStep) (answer : Option Bool)
    → HaveServed denies count party after steps answer
    → HearsOn party after
hears_have_served count party after steps answer (HaveServed.below_stops did after_is is) = hears_here party after after_is
hears_have_served count party after steps answer (HaveServed.stops below own served did is) = hears_served_out count party after own None served
hears_have_served count party after steps answer (HaveServed.above_stops below mine own served did is) =
    hears_served_out count party after own (Some mine) served
hears_have_served count party after steps answer (HaveServed.ends below mine above own served did is) =
    hears_served_out count party after own (Some mine) served

-- a turn
pub hears_turned : {denies : Denials} → (count until : ℕ) (party after : Party) (steps : List MailStep) (answer : Option Bool)
    → IsTurned denies count until party after steps answer → HearsOn party after
hears_turned count until party after steps answer (IsTurned.stops served is) = hears_have_served count party after steps None served
hears_turned count until party after steps answer (IsTurned.ends moved served paused have pauses did is) =
    hears_have_served count party after served (Some moved) have

-- so many turns
pub hears_turns : (denies : Denials) (count until : ℕ) (heeds : Bool) (turns : ℕ) (party after : Party) (steps : List MailStep)
    → AreTurns denies count until heeds turns party after steps → HearsOn party after
unfolding AreTurns
hears_turns denies count until heeds zero party after steps are = hears_here party after are.0
hears_turns denies count until heeds (suc n) party after steps are =
    hears_then party are.0 after (hears_turns denies count until heeds n party are.0 are.1 are.5)
    (hears_turned count until are.0 after are.2 (Some are.4) are.7)

-- a wait
pub hears_waited : {denies : Denials} → (count until : ℕ) (heeds : Bool) (party after : Party) (steps : List MailStep) (ended : Option ℕ)
    → IsWaited denies count until heeds party after steps ended → HearsOn party after
hears_waited {denies} count until heeds party after steps ended (IsWaited.ends turns now first are over did is) =
    hears_turns denies count until heeds turns party after first are
hears_waited {denies} count until heeds party after steps ended (IsWaited.stops turns now mid first last are on one did is) =
    hears_then party mid after (hears_turns denies count until heeds turns party mid first are)
    (hears_turned count until mid after last None one)

-- the turns by which it outlasts a wait
hears_turns_on : (denies : Denials) (count until : ℕ) (heeds : Bool) (turns : ℕ) (party after : Party) (steps : List MailStep)
    → AreTurnsOn denies count until heeds turns party after steps → HearsOn party after
unfolding AreTurnsOn
hears_turns_on denies count until heeds zero party after steps are = hears_here party after are.0
hears_turns_on denies count until heeds (suc n) party after steps are =
    hears_then party are.0 after (hears_turns_on denies count until heeds n party are.0 are.1 are.4)
    (hears_served_out count are.0 after are.6.all.own are.6.all.mine are.6.all.served)

hears_waited_out : {denies : Denials} → (count until : ℕ) (heeds : Bool) (party after : Party) (steps : List MailStep) (ended : ℕ)
    (stopped : Bool) → IsWaitedOut denies count until heeds party after steps ended stopped → HearsOn party after
hears_waited_out count until heeds party after steps ended stopped (IsWaitedOut.whole waits is) =
    hears_waited count until heeds party after steps (Some ended) waits
hears_waited_out {denies} count until heeds party after steps ended stopped (IsWaitedOut.outlasts mid first rest waits rests are is) =
    hears_then party mid after (hears_waited count until heeds party mid first None waits)
    (hears_turns_on denies count until heeds rests.turns mid after rests.first rests.are_turns)

-- an ask, whoever stops
hears_awaited : {denies : Denials} → (count : ℕ) (party after : Party) (ask : Ask) (since : ℕ) (steps : List MailStep) (run : Option Run)
    (stopped : Bool) → IsAwaitedOn denies count party after ask since steps run stopped → HearsOn party after
hears_awaited count party after ask since steps run stopped (IsAwaitedOn.finds now waited looked waits look are) =
    hears_waited_out count _ true party after waited now stopped waits
hears_awaited count party after ask since steps run stopped
    (IsAwaitedOn.settles mid now waited looked late first second waits look settled are either) =
    hears_then party mid after (hears_waited_out count _ true party mid waited now first waits)
    (hears_waited_out count _ false mid after settled.waited settled.now second settled.waits)

pub hears_asked : {denies : Denials} → (count : ℕ) (party after : Party) (asked : PagesAsked) (steps : List MailStep) (run : Option Run)
    (stopped : Bool) → DoesAskOn denies count party after asked steps run stopped → HearsOn party after
hears_asked count party after asked steps run stopped asks =
    hears_then party _ after (hears_alloc after.asked party)
    (hears_awaited count _ after _ asks.since asks.rest run stopped asks.awaited)

-- a notice
pub hears_notified : {denies : Denials} → (count : ℕ) (party after : Party) (heap : ℕ) (run : Run) (steps : List MailStep)
    → DoesNotify denies count party after heap run steps → HearsOn party after
hears_notified count party after heap run steps notifies =
    hears_then party _ after (hears_free (party.asked + 1) party)
    (hears_waited count _ true _ after notifies.waited (Some notifies.now) notifies.waits)

pub hears_stopped : {denies : Denials} → (count : ℕ) (party after : Party) (heap : ℕ) (run : Run) (steps : List MailStep)
    → StopsNotifying denies count party after heap run steps → HearsOn party after
hears_stopped count party after heap run steps (StopsNotifying.no_number ends after_is did) = hears_here party after after_is
hears_stopped count party after heap run steps (StopsNotifying.stops frame posted since waited says waits are) =
    hears_then party _ after (hears_free (party.asked + 1) party) (hears_waited count _ true _ after waited None waits)
