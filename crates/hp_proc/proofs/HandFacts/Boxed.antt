-- A participant that does lines, by what its box lends; and its watchers are those that it had.
use Rattle.std.proofs.Common.{◌≡◌, ◌≢◌, ◌∙◌, ℕ, Bool, List, [], Result, Ok, Err, IfOk, ap, sym, subst}
use Rattle.std.specs.Prelude.{OnErr, OnOk}
use Rattle.hp_base.specs.declared.caught.Caught.{Caught}
use Rattle.hp_base.specs.declared.row.Run.{Run}
use Rattle.hp_events.specs.declared.validator.Validator.{Validator}
use Rattle.hp_hall.specs.HallState.{Did, HallState}
use Rattle.hp_hall.specs.Mail.{MailStep}
use Rattle.hp_serve.specs.AskSteps.{AsksIn, AsksNothing, DoesNotify, StopsNotifying}
use Rattle.hp_serve.specs.Attaching.{AttachesIn, DetachesIn, LooksIn}
use Rattle.hp_serve.specs.Denials.{Denials}
use Rattle.hp_serve.specs.Party.{Party}
use Rattle.hp_serve.specs.Watched.{HearsOn, names_of}
use Rattle.hp_serve.specs.declared.answered.Answered.{Answered}
use Rattle.hp_serve.specs.declared.pages_asked.PagesAsked.{PagesAsked}
use Rattle.hp_serve.proofs.HearsLemmas.{hears_asked, hears_caught, hears_notified, hears_rows, hears_same, hears_stopped}
use Rattle.hp_proc.specs.Contexts.{Context}
use Rattle.hp_proc.specs.ParticipantView.{ParticipantView, knowing, participant_of}

-- what the box lends is what is seen of it
pub boxed_is : (context : Context) {lent held : Party} {mine its : List (Validator Bool)} {doer : ParticipantView} → lent ≡ held → mine ≡ its
    → participant_of held its context ≡ doer → participant_of lent mine context ≡ doer
boxed_is context {lent} {held} {mine} {its} same limits is =
    ap (λ (party : Party). participant_of party mine context) same
    ∙ (ap (λ (validators : List (Validator Bool)). participant_of held validators context) limits ∙ is)

-- what it knows stays where its watchers have the names that they had
pub knows_named : (context : Context) (validators : List (Validator Bool)) (party after : Party) {doer : ParticipantView}
    → names_of after.listeners ≡ names_of party.listeners → participant_of party validators context ≡ doer
    → knowing (names_of after.listeners) validators context ≡ doer.context
knows_named context validators party after named is =
    ap (λ (names : List (List ℕ)). knowing names validators context) named ∙ ap (λ (doer : ParticipantView). doer.context) is

-- and so where they are the same
pub knows_still : (context : Context) (validators : List (Validator Bool)) {party after : Party} {doer : ParticipantView} → HearsOn party after
    → participant_of party validators context ≡ doer → knowing (names_of after.listeners) validators context ≡ doer.context
knows_still context validators {party} {after} hears is = knows_named context validators party after hears.names is

-- they have them where it attaches, or tries to
pub named_attach : (me : ℕ) (party after : Party) (old new : HallState) {E : Type 0} (result : Result Caught E)
    → IfOk result (λ caught. AttachesIn me party after caught old new)
    → OnErr result ((after ≡ party) × (party.listeners ≢ []) × LooksIn me old new) → names_of after.listeners ≡ names_of party.listeners
named_attach me party after old new (Ok caught) ok err =
    ap (λ (party : Party). names_of party.listeners) ok.attaches.after_is
    ∙ (hears_caught ok.segs.log caught ok.attaches.maps party).names
named_attach me party after old new (Err refusal) ok err = ap (λ (party : Party). names_of party.listeners) err.0

-- and where it detaches
pub named_detach : (me : ℕ) (party after : Party) (old new : HallState) (late : Type 0) {A E : Type 0} (result : Result A E)
    → OnOk result (DetachesIn me party after old new) → OnErr result ((after ≡ party) × (party.listeners ≢ []) × late)
    → names_of after.listeners ≡ names_of party.listeners
named_detach me party after old new late (Ok done) ok err = hears_rows party.maps.rows party.listeners after.listeners ok.told
named_detach me party after old new late (Err refusal) ok err = ap (λ (party : Party). names_of party.listeners) err.0

-- its watchers stay where it asks for pages, whatever it is answered
pub hears_ask : (denies : Denials) (me : ℕ) (party after : Party) (asked : PagesAsked) (old new : HallState) {E : Type 0} (result : Result Answered E)
    → IfOk result (AsksIn denies me party after asked old new) → OnErr result (AsksNothing me party after old new) → HearsOn party after
hears_ask denies me party after asked old new (Ok answered) asks none =
    hears_asked old.count party after asked asks.did.0 answered.run answered.stopped asks.did.2
hears_ask denies me party after asked old new (Err refusal) asks none = subst (HearsOn party) (sym none.party) (hears_same party)

-- and where it tells of a run that it gave up
pub hears_tell : (denies : Denials) (me : ℕ) (party after : Party) (heap : ℕ) (run : Run) (old new : HallState) {A E : Type 0} (result : Result A E)
    → OnOk result ((steps : List MailStep) × Did me steps old new × DoesNotify denies old.count party after heap run steps)
    → OnErr result ((steps : List MailStep) × Did me steps old new × StopsNotifying denies old.count party after heap run steps)
    → HearsOn party after
hears_tell denies me party after heap run old new (Ok done) did none = hears_notified old.count party after heap run did.0 did.2
hears_tell denies me party after heap run old new (Err refusal) did none = hears_stopped old.count party after heap run none.0 none.2
