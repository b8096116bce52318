-- The way of a hall of several participants: by its steps, one after another, and by what each does itself, all come to their last seats.
use Rattle.std.proofs.Common.{◌≡◌, ◌≢◌, ◌∙◌, ℕ, Bool, true, false, eqb, ne_eqb, List, ◌∷◌, ◌++◌, length, map, Some, None, refl, sym, ap, subst}
use Rattle.std.specs.Prelude.{slice_get}
use Rattle.std.specs.List.{filter}
use Rattle.std.proofs.lemmas.Bool.{cond-false, cond-true, eq-eqb}
use Rattle.std.proofs.lemmas.Option.{same_Some}
use Rattle.hp_base.specs.declared.limits.TheConstants.{MAX_HEAPS}
use Rattle.hp_frame.specs.declared.frame.Frame.{Frame}
use Rattle.hp_segs.specs.Standing.{IsArmed}
use Rattle.hp_plain.specs.InTurn.{homes_after}
use Rattle.hp_plain.specs.Keeping.{IsGivenBy, ShowsValues, values_after}
use Rattle.hp_hall.specs.Mail.{MailStep, Posts, Fetches, Takes, Gives, Notes, steps_of}
use Rattle.hp_plain.specs.Boxes.{after_step}
use Rattle.hp_hall.specs.declared.kept.Kept.{Kept}
use Rattle.hp_hall.specs.declared.kept.Kept.TheVariants.{Heap, Names, Segments}
use Rattle.hp_hall.specs.declared.note.Note.{Note}
use Rattle.hp_plain.proofs.Slotted.{slice_get-set_other}
use Rattle.hp_serve.specs.Serving.{gives_segments}
use Rattle.hp_heap.specs.History.{HeapView}
use Rattle.hp_segs.specs.SegsView.{SegsView}
use Rattle.hp_stats.specs.StatViews.{PenView}
use Rattle.hp_segs.specs.Sound.{IsSound}
use Rattle.hp_zone.specs.declared.names.Names.{Names as NamesView}
use Rattle.thm_run.specs.Seats.{Handles, IsOfHeapOrNames, Mails, SeatTrace, Seat}
use Rattle.thm_run.specs.Together.{GlobalState, RunsByMail}

-- the steps of who made the first one begin with it, and those of others do not
pub steps_here : (who : ℕ) (step : MailStep) (steps : List (ℕ × MailStep)) → steps_of who ((who, step) ∷ steps) ≡ step ∷ steps_of who steps
steps_here who step steps =
    let rest : List (ℕ × MailStep) = filter (λ (s : ℕ × MailStep). eqb s.0 who) steps in
    ap (map (λ (s : ℕ × MailStep). s.1)) (cond-true (eqb who who) ((who, step) ∷ rest) rest (eq-eqb who who refl))

pub steps_elsewhere : (who maker : ℕ) (step : MailStep) (steps : List (ℕ × MailStep)) → maker ≢ who
    → steps_of who ((maker, step) ∷ steps) ≡ steps_of who steps
steps_elsewhere who maker step steps apart =
    let rest : List (ℕ × MailStep) = filter (λ (s : ℕ × MailStep). eqb s.0 who) steps in
    ap (map (λ (s : ℕ × MailStep). s.1)) (cond-false (eqb maker who) ((maker, step) ∷ rest) rest (ne_eqb maker who apart))

-- a segment value that a slot may keep
pub record IsGood (segs : SegsView) : Type 0 where
  pub sound : IsSound segs
  pub armed : IsArmed segs

-- the slot of the segment value keeps this
abbrev pub Keeps : List Kept → SegsView → Type 0
Keeps values segs = slice_get values MAX_HEAPS ≡ Some (Segments segs)

-- its value is there, or out
abbrev pub IsThere : List Bool → Bool → Type 0
IsThere homes is = slice_get homes MAX_HEAPS ≡ Some is

-- a participant's further way leads to its last seat
pub record Leads (count : ℕ) (lasts : List Seat) (steps : List (ℕ × MailStep)) (who : ℕ) (seat : Seat) : Type 0 where
  pub last : Seat
  pub there : slice_get lasts who ≡ Some last
  pub path : SeatTrace count who seat last (steps_of who steps)

-- so do those of all but one
abbrev pub OthersLead : ℕ → List Seat → List (ℕ × MailStep) → ℕ → List Seat → Type 0
OthersLead count lasts steps who seats = (other : ℕ) (seat : Seat) → other ≢ who → slice_get seats other ≡ Some seat
    → Leads count lasts steps other seat

abbrev pub AllLead : ℕ → List Seat → List (ℕ × MailStep) → List Seat → Type 0
AllLead count lasts steps seats = (who : ℕ) (seat : Seat) → slice_get seats who ≡ Some seat → Leads count lasts steps who seat

-- one of them has taken the segment value, and is to give it back after some notes
pub record IsHolding (count : ℕ) (lasts : List Seat) (steps : List (ℕ × MailStep)) (at : GlobalState) (who : ℕ) : Type 0 where
  pub old : Seat
  pub mid : Seat
  pub last : Seat
  pub given : SegsView
  pub held : List Note
  pub rest : List MailStep
  pub there : slice_get at.seats who ≡ Some old
  pub handles : Handles count who old mid at.segs given
  pub last_is : slice_get lasts who ≡ Some last
  pub path : SeatTrace count who mid last rest
  pub are : steps_of who steps ≡ map Notes held ++ (gives_segments given ∷ rest)

-- where all stand: the value is at home, or one holds it
pub data IsUnderWay (count : ℕ) (lasts : List Seat) (steps : List (ℕ × MailStep)) (at : GlobalState) (homes : List Bool) : Type 0 where
  free : IsThere homes true → AllLead count lasts steps at.seats → IsUnderWay count lasts steps at homes
  held : (who : ℕ) → IsThere homes false → IsHolding count lasts steps at who → OthersLead count lasts steps who at.seats
      → IsUnderWay count lasts steps at homes

-- where a step leads
pub record IsBehind (count : ℕ) (lasts : List Seat) (who : ℕ) (step : MailStep) (steps : List (ℕ × MailStep)) (at : GlobalState)
    (values : List Kept) (homes : List Bool) : Type 0 where
  pub new : GlobalState
  pub runs : RunsByMail count at new
  pub size : length new.seats ≡ length at.seats
  pub keeps : Keeps (values_after step values) new.segs
  pub good : IsGood new.segs
  pub boxes : new.boxes ≡ after_step who step at.boxes
  pub under_way : IsUnderWay count lasts steps new (homes_after step homes)

-- WHAT STEPS LEAVE OF THE SLOT

-- what was taken out of the slot of the segment value is that
pub taken_is : (values : List Kept) (segs taken : SegsView) → Keeps values segs → slice_get values MAX_HEAPS ≡ Some (Segments taken)
    → taken ≡ segs
taken_is values segs taken keeps shows =
    let same : Segments taken ≡ Segments segs = same_Some (Segments taken) (Segments segs) (sym shows ∙ keeps) in
    cc

not_heap : (values : List Kept) (segs : SegsView) (number : ℕ) (heap : HeapView) (pen : PenView) → Keeps values segs
    → slice_get values number ≡ Some (Heap heap pen) → number ≢ MAX_HEAPS
not_heap values segs number heap pen keeps shows same =
    let wrong : Heap heap pen ≡ Segments segs =
    same_Some (Heap heap pen) (Segments segs) (sym shows ∙ ap (slice_get values) same ∙ keeps) in
    cc

not_given_heap : (values : List Kept) (segs : SegsView) (who number : ℕ) (heap : HeapView) (pen : PenView) → Keeps values segs
    → ShowsValues who (Gives number (Heap heap pen)) values → number ≢ MAX_HEAPS
not_given_heap values segs who number heap pen keeps shows same =
    let was : shows.before ≡ Segments segs =
    same_Some shows.before (Segments segs) (sym shows.there ∙ ap (slice_get values) same ∙ keeps) in
    subst (λ (kept : Kept). IsGivenBy who kept (Heap heap pen)) was shows.by

not_names : (values : List Kept) (segs : SegsView) (number : ℕ) (names : NamesView) → Keeps values segs
    → slice_get values number ≡ Some (Names names) → number ≢ MAX_HEAPS
not_names values segs number names keeps shows same =
    let wrong : Names names ≡ Segments segs =
    same_Some (Names names) (Segments segs) (sym shows ∙ ap (slice_get values) same ∙ keeps) in
    cc

not_given_names : (values : List Kept) (segs : SegsView) (who number : ℕ) (names : NamesView) → Keeps values segs
    → ShowsValues who (Gives number (Names names)) values → number ≢ MAX_HEAPS
not_given_names values segs who number names keeps shows same =
    let was : shows.before ≡ Segments segs =
    same_Some shows.before (Segments segs) (sym shows.there ∙ ap (slice_get values) same ∙ keeps) in
    subst (λ (kept : Kept). IsGivenBy who kept (Names names)) was shows.by

-- a step of a heap, or of the names, leaves the segment value, and whether it is there
pub record LeavesSegs (step : MailStep) (values : List Kept) (homes : List Bool) : Type 0 where
  pub keeps : (segs : SegsView) → Keeps values segs → Keeps (values_after step values) segs
  pub there : (is : Bool) → IsThere homes is → IsThere (homes_after step homes) is

apart_from : (number : ℕ) → number ≢ MAX_HEAPS → MAX_HEAPS ≢ number
apart_from number apart same = apart (sym same)

pub heap_leaves : (who : ℕ) (step : MailStep) (values : List Kept) (homes : List Bool) (segs : SegsView) → Keeps values segs
    → ShowsValues who step values → IsOfHeapOrNames step → LeavesSegs step values homes
heap_leaves who (Takes number (Heap heap pen)) values homes segs keeps shows of_heap = record {
  keeps = λ segs keeps. keeps;
  there = λ is there.
      slice_get-set_other homes number MAX_HEAPS false (apart_from number (not_heap values segs number heap pen keeps shows)) ∙ there;
}
heap_leaves who (Gives number (Heap heap pen)) values homes segs keeps shows of_heap =
    let apart = apart_from number (not_given_heap values segs who number heap pen keeps shows) in
    record {
      keeps = λ segs keeps. slice_get-set_other values number MAX_HEAPS (Heap heap pen) apart ∙ keeps;
      there = λ is there. slice_get-set_other homes number MAX_HEAPS true apart ∙ there;
    }
heap_leaves who (Takes number (Segments taken)) values homes segs keeps shows of_heap = absurd of_heap
heap_leaves who (Gives number (Segments given)) values homes segs keeps shows of_heap = absurd of_heap
heap_leaves who (Takes number (Names names)) values homes segs keeps shows of_heap = record {
  keeps = λ segs keeps. keeps;
  there = λ is there.
      slice_get-set_other homes number MAX_HEAPS false (apart_from number (not_names values segs number names keeps shows)) ∙ there;
}
heap_leaves who (Gives number (Names names)) values homes segs keeps shows of_heap =
    let apart = apart_from number (not_given_names values segs who number names keeps shows) in
    record {
      keeps = λ segs keeps. slice_get-set_other values number MAX_HEAPS (Names names) apart ∙ keeps;
      there = λ is there. slice_get-set_other homes number MAX_HEAPS true apart ∙ there;
    }
heap_leaves who (Posts to frame action posted) values homes segs keeps shows of_heap = absurd of_heap
heap_leaves who (Fetches frame) values homes segs keeps shows of_heap = absurd of_heap
heap_leaves who (Notes note) values homes segs keeps shows of_heap = absurd of_heap

-- so does one with mailboxes
leaves_all : (step : MailStep) (values : List Kept) (homes : List Bool) → values_after step values ≡ values → homes_after step homes ≡ homes
    → LeavesSegs step values homes
leaves_all step values homes values_are homes_are = record {
  keeps = λ segs keeps. ap (λ (values : List Kept). slice_get values MAX_HEAPS) values_are ∙ keeps;
  there = λ is there. ap (λ (homes : List Bool). slice_get homes MAX_HEAPS) homes_are ∙ there;
}

pub mail_leaves : (who : ℕ) (old new : Seat) (step : MailStep) (values : List Kept) (homes : List Bool) → Mails who old new step
    → LeavesSegs step values homes
mail_leaves who _ _ _ values homes (Mails.notes seat note) = leaves_all (Notes note) values homes refl refl
mail_leaves who _ _ _ values homes (Mails.finds_nothing seat) = leaves_all (Fetches None) values homes refl refl
mail_leaves who _ _ _ values homes (Mails.fetches seat frame) = leaves_all (Fetches (Some frame)) values homes refl refl
mail_leaves who _ _ _ values homes (Mails.asks seat ask frame action posted is says) =
    leaves_all (Posts 0 frame action posted) values homes refl refl
mail_leaves who _ _ _ values homes (Mails.tells seat heap run frame action posted says) =
    leaves_all (Posts 0 frame action posted) values homes refl refl
mail_leaves who _ _ _ values homes (Mails.speaks seat to frame body action posted nothing says) =
    leaves_all (Posts to frame action posted) values homes refl refl

-- and a step of a heap leaves the mailboxes
pub heap_boxes : (who : ℕ) (step : MailStep) (boxes : List (List Frame)) → IsOfHeapOrNames step → after_step who step boxes ≡ boxes
heap_boxes who (Takes number kept) boxes of_heap = refl
heap_boxes who (Gives number kept) boxes of_heap = refl
heap_boxes who (Posts to frame action posted) boxes of_heap = absurd of_heap
heap_boxes who (Fetches frame) boxes of_heap = absurd of_heap
heap_boxes who (Notes note) boxes of_heap = absurd of_heap
