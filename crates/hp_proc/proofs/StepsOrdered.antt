-- In which order a participant takes slots, and with what in hand it tells of a run that it gave up, by what it did.
use Rattle.std.proofs.Common.{◌≡◌, ◌≢◌, ◌∙◌, ℕ, ◌<◌, Bool, true, false, not, cond, ◌==◌, List, [], ◌∷◌, ◌++◌, filter, length, Option, Some, None, refl, ap, sym, subst, arith, inl, inr}
use Rattle.std.specs.Prelude.{◌⊎◌, ⊤}
use Rattle.std.specs.List.{All}
use Rattle.std.proofs.lemmas.Bool.{eq-eqb, ne_eqb}
use Rattle.std.proofs.lemmas.List.Elements.{All-cons, All-nil}
use Rattle.hp_base.specs.declared.caught.Caught.{Caught}
use Rattle.hp_base.specs.declared.caught.Caught.TheVariants as caught
use Rattle.hp_base.specs.declared.limits.TheConstants.{MAX_HEAPS}
use Rattle.hp_base.specs.declared.row.Run.{Run}
use Rattle.hp_frame.specs.declared.frame.Frame.{Frame}
use Rattle.hp_frame.specs.declared.message.Body.{Body}
use Rattle.hp_hall.specs.Mail.{MailStep, Fetches, Gives, Notes, Posts, Takes}
use Rattle.hp_hall.specs.declared.kept.Kept.{Kept}
use Rattle.hp_hall.specs.declared.kept.Kept.TheVariants.{Names}
use Rattle.hp_hall.specs.declared.note.Note.{Note}
use Rattle.hp_hall.specs.declared.note.Note.TheVariants.{Emptied}
use Rattle.hp_hall.specs.declared.slot.TheConstants.{NAMES_SLOT}
use Rattle.hp_base.specs.declared.plan.Action.{Action}
use Rattle.hp_mail.specs.declared.posted.Posted.{Posted}
use Rattle.hp_segs.specs.LaterSteps.{after_leave}
use Rattle.hp_segs.specs.Ranges.{after_claim_range, after_release_range}
use Rattle.hp_segs.specs.SegsView.{SegsView}
use Rattle.hp_segs.specs.Steps.{after_retire}
use Rattle.hp_serve.specs.AskSteps.{StopsNotifying}
use Rattle.hp_serve.specs.Attaching.{after_attaching}
use Rattle.hp_serve.specs.Frames.{Says}
use Rattle.hp_serve.specs.Serving.{acks_after, gives_segments, takes_segments}
use Rattle.hp_proc.specs.Acting.{Acts}
use Rattle.hp_proc.specs.Denying.{denials_of}
use Rattle.hp_proc.specs.Doing.{Done}
use Rattle.hp_proc.specs.Doing.Done.{GaveUp, NamesRead}
use Rattle.hp_proc.specs.Halting.{ActsOn}
use Rattle.hp_proc.specs.Handing.{shared_of}
use Rattle.hp_proc.specs.LockOrder.{AreInOrderFrom, AreToldEmptyHandedFrom, ComesAfterHand, GivesNamesFirstFrom, IsToldEmptyHanded, TakesNoHeapWith, hand_after, rank}
use Rattle.hp_proc.specs.NamesOfLines.{AreUntold, ChangesNames, names_read}
use Rattle.hp_proc.specs.ParticipantView.{ParticipantView}
use Rattle.hp_proc.specs.SharedNames.{SharedNames}
use Rattle.hp_proc.proofs.ServesAside.{AreAside, IsAside, IsNoNotice, aside_both}
use Rattle.hp_proc.proofs.WaitsAside.{ask_aside, ask_on_aside, turn_aside, wait_aside}
use Rattle.hp_zone.specs.declared.names.Names.{Names as NamesView}

-- steps have a property, each by the slots in hand before it; and these slots are in hand after them
abbrev pub Along : (MailStep → List ℕ → Type 0) → List ℕ → List ℕ → List MailStep → Type 0
Along P hand ends [] = ends ≡ hand
Along P hand ends (step ∷ steps) = P step hand × Along P (hand_after step hand) ends steps

-- THE SLOTS IN HAND

-- what the lock order knows of the place of a slot
pub rank_by : (slot : ℕ) (names segs : Bool) → (slot == NAMES_SLOT) ≡ names → (slot == MAX_HEAPS) ≡ segs → rank slot ≡ cond names 0 (cond segs 2 1)
rank_by slot names segs is also = rw is (rw also refl)

pub rank_of_heap : (slot : ℕ) → slot < MAX_HEAPS → rank slot ≡ 1
rank_of_heap slot few =
    rank_by slot false false (ne_eqb slot NAMES_SLOT (λ is. omega (arith, is, few))) (ne_eqb slot MAX_HEAPS (λ is. omega (arith, is, few)))

rank_low : (slot : ℕ) (names : Bool) → (slot == NAMES_SLOT) ≡ names → slot ≢ MAX_HEAPS → rank slot < 2
rank_low slot true is other = omega (arith, rank_by slot true false is (ne_eqb slot MAX_HEAPS other))
rank_low slot false is other = omega (arith, rank_by slot false false is (ne_eqb slot MAX_HEAPS other))

-- none of them is that one
abbrev pub AreBut : ℕ → List ℕ → Type 0
AreBut slot [] = ⊤
AreBut slot (other ∷ hand) = (other ≢ slot) × AreBut slot hand

pub all_kept : (slot : ℕ) (hand : List ℕ) → AreBut slot hand → filter (λ other. not (other == slot)) hand ≡ hand
all_kept slot [] but = refl
all_kept slot (other ∷ hand) but = rw (ne_eqb other slot but.0) (ap (λ (hand : List ℕ). other ∷ hand) (all_kept slot hand but.1))

-- what was taken last is given back
pub give_back : (slot : ℕ) (hand : List ℕ) → AreBut slot hand → filter (λ other. not (other == slot)) (slot ∷ hand) ≡ hand
give_back slot hand but = rw (eq-eqb slot slot refl) (all_kept slot hand but)

pub low_after : (hand : List ℕ) → AreBut MAX_HEAPS hand → All (λ other. rank other < 2) hand
low_after [] but = All-nil (λ other. rank other < 2)
low_after (slot ∷ hand) but =
    All-cons (λ other. rank other < 2) slot hand (rank_low slot (slot == NAMES_SLOT) refl but.0) (low_after hand but.1)

-- those of a participant that has a heap in hand, and the names
abbrev pub slots : Option ℕ → Bool → List ℕ
slots None false = []
slots None true = NAMES_SLOT ∷ []
slots (Some heap) false = heap ∷ []
slots (Some heap) true = heap ∷ (NAMES_SLOT ∷ [])

abbrev pub IsFewHand : Option ℕ → Type 0
IsFewHand None = ⊤
IsFewHand (Some heap) = heap < MAX_HEAPS

heap_but : (heap : ℕ) → heap < MAX_HEAPS → heap ≢ MAX_HEAPS
heap_but heap few is = omega (arith, is, few)

names_but : NAMES_SLOT ≢ MAX_HEAPS
names_but is = omega (arith, is)

names_apart : (heap : ℕ) → heap < MAX_HEAPS → NAMES_SLOT ≢ heap
names_apart heap few is = omega (arith, is, few)

slots_but : (hand : Option ℕ) (names : Bool) → IsFewHand hand → AreBut MAX_HEAPS (slots hand names)
slots_but None false few = tt
slots_but None true few = (names_but, tt)
slots_but (Some heap) false few = (heap_but heap few, tt)
slots_but (Some heap) true few = (heap_but heap few, (names_but, tt))

heap_taken : (heap : ℕ) (names : Bool) → slots (Some heap) names ≡ heap ∷ slots None names
heap_taken heap false = refl
heap_taken heap true = refl

heap_given : (heap : ℕ) (names : Bool) → heap < MAX_HEAPS
    → slots None names ≡ filter (λ other. not (other == heap)) (slots (Some heap) names)
heap_given heap false few = sym (give_back heap [] tt)
heap_given heap true few = sym (give_back heap (NAMES_SLOT ∷ []) (names_apart heap few, tt))

pub names_given : [] ≡ filter (λ other. not (other == NAMES_SLOT)) (NAMES_SLOT ∷ [])
names_given = sym (give_back NAMES_SLOT [] tt)

-- WHAT IS BESIDE THE NAMES AND THE HEAPS

-- a property of steps that the segment value, mail and notes keep
pub record Suits (P : MailStep → List ℕ → Type 0) : Type 0 where
  pub notes : (note : Note) (hand : List ℕ) → P (Notes note) hand
  pub fetches : (frame : Option Frame) (hand : List ℕ) → P (Fetches frame) hand
  pub gives : (slot : ℕ) (kept : Kept) (hand : List ℕ) → P (Gives slot kept) hand
  pub takes : (kept : Kept) (hand : List ℕ) → AreBut MAX_HEAPS hand → P (Takes MAX_HEAPS kept) hand
  pub names : (kept : Kept) → P (Takes NAMES_SLOT kept) []
  pub posts : (to : ℕ) (frame : Frame) (action : Action) (posted : Posted) (hand : List ℕ) (body : Body) → Says frame body → IsNoNotice body
      → P (Posts to frame action posted) hand
  pub tells : (to : ℕ) (frame : Frame) (action : Action) (posted : Posted) → P (Posts to frame action posted) []

module _ (P : MailStep → List ℕ → Type 0) where
  pub along_both : (hand mid ends : List ℕ) (first last : List MailStep) → Along P hand mid first → Along P mid ends last
      → Along P hand ends (first ++ last)
  along_both hand mid ends [] last here there = subst (λ (hand : List ℕ). Along P hand ends last) here there
  along_both hand mid ends (step ∷ first) last here there = (here.0, along_both (hand_after step hand) mid ends first last here.1 there)

  along_as : (hand ends : List ℕ) (steps did : List MailStep) → steps ≡ did → Along P hand ends did → Along P hand ends steps
  along_as hand ends steps did is along = subst (Along P hand ends) (sym is) along

  module _ (suits : Suits P) (hand : List ℕ) (low : AreBut MAX_HEAPS hand) where
    abbrev with_segs : Bool → List ℕ
    with_segs has = cond has (MAX_HEAPS ∷ hand) hand

    aside_from : (has ends : Bool) (steps : List MailStep) → AreAside has ends steps → Along P (with_segs has) (with_segs ends) steps
    aside_from has ends [] aside = ap with_segs aside
    aside_from has ends (Posts to frame action posted ∷ steps) aside =
        (suits.posts to frame action posted (with_segs has) aside.0.0 aside.0.1 aside.0.2, aside_from has ends steps aside.1)
    aside_from has ends (Fetches frame ∷ steps) aside = (suits.fetches frame (with_segs has), aside_from has ends steps aside)
    aside_from has ends (Notes note ∷ steps) aside = (suits.notes note (with_segs has), aside_from has ends steps aside)
    aside_from false ends (Takes slot kept ∷ steps) aside =
        subst (λ (slot : ℕ). P (Takes slot kept) hand × Along P (slot ∷ hand) (with_segs ends) steps) (sym aside.1)
        (suits.takes kept hand low, aside_from true ends steps aside.3)
    aside_from true ends (Takes slot kept ∷ steps) aside = absurd cc
    aside_from true ends (Gives slot kept ∷ steps) aside =
        subst
        (λ (slot : ℕ). P (Gives slot kept) (MAX_HEAPS ∷ hand)
        × Along P (filter (λ other. not (other == slot)) (MAX_HEAPS ∷ hand)) (with_segs ends) steps)
        (sym aside.1) (
          suits.gives MAX_HEAPS kept (MAX_HEAPS ∷ hand),
          subst (λ (hand : List ℕ). Along P hand (with_segs ends) steps) (sym (give_back MAX_HEAPS hand low)) (aside_from false ends steps aside.3),
        )
    aside_from false ends (Gives slot kept ∷ steps) aside = absurd cc

    pub aside_along : (steps : List MailStep) → IsAside steps → Along P hand hand steps
    aside_along steps aside = aside_from false false steps aside

pub acks_aside : (has : Bool) (caught : Caught) (records : ℕ) → AreAside has has (acks_after caught records)
acks_aside has caught.Done records = refl
acks_aside has (caught.Refused row call) records = refl
acks_aside has (caught.Elsewhere row call got) records = refl

-- the segment value is taken and given back
pub looks_aside : (taken given : SegsView) → IsAside (takes_segments taken ∷ gives_segments given ∷ [])
looks_aside taken given = (refl, refl, tt, (refl, refl, tt, refl))

leaves_aside : (taken given : SegsView) (note : Note) → IsAside (takes_segments taken ∷ Notes note ∷ gives_segments given ∷ [])
leaves_aside taken given note = (refl, refl, tt, (refl, refl, tt, refl))

pub attaches_aside : (taken given : SegsView) (caught : Caught) (records : ℕ)
    → IsAside (takes_segments taken ∷ (acks_after caught records ++ (gives_segments given ∷ [])))
attaches_aside taken given caught records = (
  refl,
  refl,
  tt,
  aside_both true true false (acks_after caught records) (gives_segments given ∷ []) (acks_aside true caught records) (refl, refl, tt, refl),
)

-- WHAT IT DID

-- what a participant with the names in hand, or without, may do that takes these heaps and leaves that trace, so that a property holds along
-- its steps
pub record Allows (P : MailStep → List ℕ → Type 0) (Ok : Bool → List ℕ → List Done → Type 0) : Type 0 where
  pub first : (names : Bool) (held more : List ℕ) (trace rest : List Done) → Ok names (held ++ more) (trace ++ rest) → Ok names held trace
  pub rest : (names : Bool) (held more : List ℕ) (trace rest : List Done) → Ok names (held ++ more) (trace ++ rest) → Ok names more rest
  pub inner : (held : List ℕ) (taken given : NamesView) (trace : List Done) → ChangesNames taken given trace
      → Ok false held (NamesRead (shared_of taken) ∷ trace) → Ok true held trace
  pub once : (held : List ℕ) (names : SharedNames) (trace : List Done) → Ok true held (NamesRead names ∷ trace) → ⊥
  pub heap : (names : Bool) (slot : ℕ) (kept : Kept) (trace : List Done) → slot < MAX_HEAPS → Ok names (slot ∷ []) trace
      → P (Takes slot kept) (slots None names)
  pub notice : (heap : ℕ) (run : Run) → Ok true [] (GaveUp heap run ∷ []) → ⊥

module _ (P : MailStep → List ℕ → Type 0) (suits : Suits P) (Ok : Bool → List ℕ → List Done → Type 0) (allows : Allows P Ok) (count : ℕ) where
  pub aside_by : (hand : Option ℕ) (names : Bool) (steps did : List MailStep) → IsFewHand hand → steps ≡ did → IsAside did
      → Along P (slots hand names) (slots hand names) steps × IsFewHand hand
  aside_by hand names steps did few is aside = (
    along_as P (slots hand names) (slots hand names) steps did is (aside_along P suits (slots hand names) (slots_but hand names few) did aside),
    few,
  )

  -- the segment value was taken and given back
  pub segs_by : (hand : Option ℕ) (names : Bool) (taken given : SegsView) → IsFewHand hand
      → Along P (slots hand names) (slots hand names) (takes_segments taken ∷ gives_segments given ∷ []) × IsFewHand hand
  segs_by hand names taken given few =
      aside_by hand names (takes_segments taken ∷ gives_segments given ∷ []) (takes_segments taken ∷ gives_segments given ∷ []) few refl
      (looks_aside taken given)

  attach_by : (names : Bool) (taken given : SegsView) (caught : Caught) (records : ℕ)
      → Along P (slots None names) (slots None names) (takes_segments taken ∷ (acks_after caught records ++ (gives_segments given ∷ [])))
      × IsFewHand None
  attach_by names taken given caught records =
      aside_by None names (takes_segments taken ∷ (acks_after caught records ++ (gives_segments given ∷ [])))
      (takes_segments taken ∷ (acks_after caught records ++ (gives_segments given ∷ []))) tt refl (attaches_aside taken given caught records)

  detach_by : (names : Bool) (taken given : SegsView) (note : Note)
      → Along P (slots None names) (slots None names) (takes_segments taken ∷ Notes note ∷ gives_segments given ∷ []) × IsFewHand None
  detach_by names taken given note =
      aside_by None names (takes_segments taken ∷ Notes note ∷ gives_segments given ∷ [])
      (takes_segments taken ∷ Notes note ∷ gives_segments given ∷ []) tt refl (leaves_aside taken given note)

  pub acts_along : (names : Bool) (hand last : Option ℕ) (held : List ℕ) (doer after : ParticipantView) (trace : List Done) (steps : List MailStep)
      → Acts count hand last held doer after trace steps → IsFewHand hand → Ok names held trace
      → Along P (slots hand names) (slots last names) steps × IsFewHand last
  acts_along names _ _ _ _ _ _ _ (Acts.nothing hand doer) few ok = (refl, few)
  acts_along names _ _ _ _ _ _ _ (Acts.waits_turn until doer after moved steps turned) few ok =
      aside_by None names steps steps tt refl
      (turn_aside (denials_of doer.context.standing) count until doer.party after steps (Some moved) turned)
  acts_along names _ _ _ _ _ _ _ (Acts.takes_heap doer heap pen within) few ok =
      ((allows.heap names heap.plain.index _ _ within ok, heap_taken heap.plain.index names), within)
  acts_along names _ _ _ _ _ _ _ (Acts.gives_heap doer heap pen) few ok =
      ((suits.notes _ _, (suits.gives heap.plain.index _ _, heap_given heap.plain.index names few)), tt)
  acts_along names _ _ _ _ _ _ _ (Acts.makes_call doer heap call answer none) few ok = (refl, few)
  acts_along names _ _ _ _ _ _ _ (Acts.cuts_run doer heap addr run taken) few ok =
      segs_by (Some heap) names taken (after_retire heap run taken) few
  acts_along names _ _ _ _ _ _ _ (Acts.asks_pages doer after asked run steps does) few ok =
      aside_by (Some asked.heap) names steps steps few refl
      (ask_aside (denials_of doer.context.standing) count doer.party after asked steps run does)
  acts_along true _ _ _ _ _ _ _ (Acts.notifies_run doer after heap run steps does) few ok = absurd (allows.notice heap run ok)
  acts_along false _ _ _ _ _ _ _ (Acts.notifies_run doer after heap run steps does) few ok = (
    along_as P [] [] steps _ does.are (
      suits.tells _ _ _ _,
      (
        suits.notes _ _,
        aside_along P suits [] tt does.waited
            (wait_aside (denials_of doer.context.standing) count _ true _ after does.waited (Some does.now) does.waits),
      ),
    ),
    tt,
  )
  acts_along names _ _ _ _ _ _ _ (Acts.attaches doer after taken caught attached) few ok =
      attach_by names taken (after_attaching doer.party.me caught taken) caught (length taken.log)
  acts_along names _ _ _ _ _ _ _ (Acts.detaches doer taken told above none bare are_told) few ok =
      detach_by names taken (after_leave doer.party.me taken) Emptied
  acts_along names _ _ _ _ _ _ _ (Acts.notes_left doer elements) few ok = (refl, tt)
  acts_along true _ _ _ _ _ _ _ (Acts.reads_names doer view) few ok = absurd (allows.once _ _ _ ok)
  acts_along false _ _ _ _ _ _ _ (Acts.reads_names doer view) few ok = ((suits.names _, (suits.gives NAMES_SLOT _ _, names_given)), tt)
  acts_along names _ _ _ _ _ _ _ (Acts.changes_names hand doer change) few ok = (refl, few)
  acts_along true _ _ _ _ _ _ _ (Acts.holds_names held doer after taken given trace steps acts changes) few ok = absurd (allows.once _ _ _ ok)
  acts_along false _ _ _ _ _ _ _ (Acts.holds_names held doer after taken given trace steps acts changes) few ok =
      let inner = acts_along true None None held doer after trace steps acts tt (allows.inner held taken given trace changes ok) in (
        (
          suits.names _,
          along_both P (NAMES_SLOT ∷ []) (NAMES_SLOT ∷ []) [] steps (Gives NAMES_SLOT (Names given) ∷ []) inner.0 (suits.gives NAMES_SLOT _ _, names_given),
        ),
        tt,
      )
  acts_along names _ _ _ _ _ _ _ (Acts.sees_heap doer heap pen within) few ok =
      ((allows.heap names heap.plain.index _ _ within ok, heap_taken heap.plain.index names), within)
  acts_along names _ _ _ _ _ _ _ (Acts.looks_at_segs doer heap taken) few ok =
      segs_by (Some heap) names taken taken few
  acts_along names _ _ _ _ _ _ _ (Acts.plans_range doer heap addr len page taken) few ok =
      segs_by (Some heap) names taken taken few
  acts_along names _ _ _ _ _ _ _ (Acts.claims doer heap chunk taken plan) few ok =
      segs_by (Some heap) names taken (after_claim_range chunk.list chunk.addr chunk.len chunk.page chunk.socket taken) few
  acts_along names _ _ _ _ _ _ _ (Acts.releases doer heap chunk taken) few ok =
      segs_by (Some heap) names taken (after_release_range chunk.list taken) few
  acts_along names _ _ _ _ _ _ _ (Acts.maps_chunk doer heap chunk after ended maps) few ok = (refl, few)
  acts_along names _ _ _ _ _ _ _ (Acts.shares doer heap chunk its) few ok = (refl, few)
  acts_along names _ _ _ _ _ _ _ (Acts.leaves doer heap chunk after leaves) few ok = (refl, few)
  acts_along names _ _ _ _ _ _ _ (Acts.looks_up_lines doer other lines) few ok = ((suits.notes _ _, refl), tt)
  acts_along names _ _ _ _ _ _ _ (Acts.reads_stats doer heap pair) few ok = ((suits.notes _ _, refl), tt)
  acts_along names _ _ _ _ _ _ _ (Acts.and_then hand between last held more doer mid after first rest before behind here there) few ok =
      let one = acts_along names hand between held doer mid first before here few (allows.first names held more first rest ok) in
      let two = acts_along names between last more mid after rest behind there one.1 (allows.rest names held more first rest ok) in
      (along_both P (slots hand names) (slots between names) (slots last names) before behind one.0 two.0, two.1)
