-- While a participant serves, and while it does its line, its watchers keep their names and their first tables.
use Rattle.std.proofs.Common.{◌≡◌, ◌∙◌, ℕ, true, false, List, [], ◌∷◌, map, Option, Some, refl, ap, sym, subst}
use Rattle.std.specs.List.{All}
use Rattle.std.proofs.lemmas.List.Elements.{All-cons, All-head, All-nil, All-tail}
use Rattle.hp_base.specs.Telling.{Listener, told_after}
use Rattle.hp_base.specs.declared.event.Event.{Event}
use Rattle.hp_base.specs.declared.event.EventKind.TheVariants as kind
use Rattle.hp_base.specs.declared.row.Row.{Row}
use Rattle.hp_base.specs.declared.row.Run.{Run}
use Rattle.hp_hall.specs.Mail.{MailStep}
use Rattle.hp_maps.specs.Events.{all_told, events_of}
use Rattle.hp_proc.specs.Acting.{Acts}
use Rattle.hp_proc.specs.Doing.{Done}
use Rattle.hp_proc.specs.ParticipantView.{ParticipantView}
use Rattle.hp_segs.specs.declared.ask.Ask.{Ask}
use Rattle.hp_serve.proofs.HearsLemmas.{hears_caught, hears_notified, hears_rows, hears_same, hears_served, hears_then, hears_turned, hears_waited}
use Rattle.hp_serve.specs.AskSteps.{DoesAsk, IsAwaitedBy}
use Rattle.hp_serve.specs.Denials.{Denials}
use Rattle.hp_serve.specs.Party.{Party}
use Rattle.hp_serve.specs.Watched.{HearsOn, names_of}
use Rattle.hp_serve.specs.declared.pages_asked.PagesAsked.{PagesAsked}
use Rattle.hp_solo.specs.Served.{ServesOn}

-- WHILE IT SERVES

pub hears_serves : {denies : Denials} → (count : ℕ) (party after : Party) (steps : List MailStep) → ServesOn denies count party after steps
    → HearsOn party after
hears_serves count _ _ _ (ServesOn.rests party) = hears_same party
hears_serves count _ _ _ (ServesOn.serves party mid after first last moved before served) =
    hears_then party mid after (hears_serves count party mid first before) (hears_served count mid after last (Some moved) served)
hears_serves count _ _ _ (ServesOn.pauses party after first before) = hears_serves count party after first before

-- WHILE IT DOES ITS LINE

awaited_hears : {denies : Denials} → (count : ℕ) (party after : Party) (ask : Ask) (since : ℕ) (steps : List MailStep) (run : Option Run)
    → IsAwaitedBy denies count party after ask since steps run → HearsOn party after
awaited_hears count party after ask since steps run (IsAwaitedBy.finds now waited looked waits look did) =
    hears_waited count _ true party after waited (Some now) waits
awaited_hears count party after ask since steps run (IsAwaitedBy.settles mid now waited looked late waits look settled did) =
    hears_then party mid after (hears_waited count _ true party mid waited (Some now) waits)
    (hears_waited count _ false mid after settled.waited (Some settled.now) settled.waits)

asked_hears : {denies : Denials} → (count : ℕ) (party after : Party) (asked : PagesAsked) (steps : List MailStep) (run : Option Run)
    → DoesAsk denies count party after asked steps run → HearsOn party after
asked_hears count party after asked steps run asks =
    hears_then party _ after (record { names = refl; since = refl }) (awaited_hears count _ after _ asks.since asks.rest run asks.awaited)

since_told : (event : Event) (listeners : List Listener)
    → map (λ (listener : Listener). listener.since) (told_after event listeners) ≡ map (λ (listener : Listener). listener.since) listeners
since_told event [] = refl
since_told event (listener ∷ listeners) = ap (λ (tables : List (List Row)). listener.since ∷ tables) (since_told event listeners)

pub since_all : (events : List Event) (listeners : List Listener)
    → map (λ (listener : Listener). listener.since) (all_told events listeners) ≡ map (λ (listener : Listener). listener.since) listeners
since_all [] listeners = refl
since_all (event ∷ events) listeners = since_all events (told_after event listeners) ∙ since_told event listeners

pub acts_hears : {count : ℕ} {hand last : Option ℕ} {held : List ℕ} {doer after : ParticipantView} {trace : List Done} {steps : List MailStep}
    → Acts count hand last held doer after trace steps → HearsOn doer.party after.party
acts_hears (Acts.nothing hand doer) = hears_same doer.party
acts_hears {count} (Acts.waits_turn until doer after moved steps turned) = hears_turned count until doer.party after steps (Some moved) turned
acts_hears (Acts.takes_heap doer heap pen few) = hears_same doer.party
acts_hears (Acts.gives_heap doer heap pen) = hears_same doer.party
acts_hears (Acts.makes_call doer heap call answer none) = hears_same doer.party
acts_hears (Acts.cuts_run doer heap addr run taken) = hears_same doer.party
acts_hears {count} (Acts.asks_pages doer after asked run steps asks) = asked_hears count doer.party after asked steps run asks
acts_hears {count} (Acts.notifies_run doer after heap run steps notifies) = hears_notified count doer.party after heap run steps notifies
acts_hears (Acts.attaches doer after taken caught attaches) =
    let heard = hears_caught taken.log caught attaches.maps doer.party in
    subst (HearsOn doer.party) (sym attaches.after_is) (record { names = heard.names; since = heard.since })
acts_hears (Acts.detaches doer taken told above left bare heard) = record {
  names = hears_rows doer.party.maps.rows doer.party.listeners told heard;
  since = ap (map (λ (listener : Listener). listener.since)) heard.told ∙ since_all (events_of kind.Free heard.rising) doer.party.listeners;
}
acts_hears (Acts.notes_left doer elements) = hears_same doer.party
acts_hears (Acts.reads_names doer names) = hears_same doer.party
acts_hears (Acts.looks_up_lines doer other lines) = hears_same doer.party
acts_hears (Acts.reads_stats doer heap pair) = hears_same doer.party
acts_hears (Acts.changes_names hand doer change) = hears_same doer.party
acts_hears (Acts.holds_names held doer after taken given trace steps inner changes) = acts_hears inner
acts_hears (Acts.sees_heap doer heap pen few) = hears_same doer.party
acts_hears (Acts.looks_at_segs doer heap taken) = hears_same doer.party
acts_hears (Acts.plans_range doer heap addr len page taken) = hears_same doer.party
acts_hears (Acts.claims doer heap chunk taken plan) = hears_same doer.party
acts_hears (Acts.releases doer heap chunk taken) = hears_same doer.party
acts_hears (Acts.maps_chunk doer heap chunk after ended is) = record { names = refl; since = refl }
acts_hears (Acts.shares doer heap chunk same) = hears_same doer.party
acts_hears (Acts.leaves doer heap chunk after is) = record { names = refl; since = refl }
acts_hears (Acts.and_then hand between last held more doer mid after first rest before later here next) =
    hears_then doer.party mid.party after.party (acts_hears here) (acts_hears next)

-- WHAT HOLDS OF THEM

-- what holds of watchers by their names and their first tables holds as long as these are the same
pub heard_all : (P : List ℕ → List Row → Type 0) (old new : List Listener) → names_of new ≡ names_of old
    → map (λ (listener : Listener). listener.since) new ≡ map (λ (listener : Listener). listener.since) old
    → All (λ (listener : Listener). P listener.name listener.since) old → All (λ (listener : Listener). P listener.name listener.since) new
heard_all P old [] names since all = All-nil (λ (listener : Listener). P listener.name listener.since)
heard_all P [] (listener ∷ new) names since all = absurd (none listener new names)
  where
    none : (listener : Listener) (new : List Listener) → names_of (listener ∷ new) ≡ [] → ⊥
    none listener new is = cc
heard_all P (one ∷ old) (listener ∷ new) names since all =
    let name : one.name ≡ listener.name = cc in
    let rows : one.since ≡ listener.since = cc in
    let more_names : names_of new ≡ names_of old = cc in
    let more_since : map (λ (listener : Listener). listener.since) new ≡ map (λ (listener : Listener). listener.since) old = cc in
    All-cons (λ (listener : Listener). P listener.name listener.since) listener new
    (subst (λ (rows : List Row). P listener.name rows) rows
    (subst (λ (name : List ℕ). P name one.since) name (All-head (λ (listener : Listener). P listener.name listener.since) one old all)))
    (heard_all P old new more_names more_since (All-tail (λ (listener : Listener). P listener.name listener.since) one old all))
