-- What comes to one heap by a participant's steps, and steps that leave it alone.
use Rattle.std.proofs.Common.{◌≡◌, ◌≢◌, ◌∙◌, ℕ, ◌+◌, Bool, true, false, cond, eq-eqb, ne_eqb, List, [], ◌∷◌, ◌++◌, append_assoc, flat_map, length, Option, Some, None, if◌then◌else◌, ⊎_elim, refl, ap, sym}
use Rattle.std.specs.Prelude.{⊤, ◌==◌}
use Rattle.std.specs.List.{AllByRecursion}
use Rattle.std.proofs.lemmas.Bool.{cases_eq, cond-false, cond-true}
use Rattle.std.proofs.lemmas.Grind.{flat_map-append}
use Rattle.std.proofs.lemmas.Option.{same_Some}
use Rattle.hp_hall.specs.Mail.{Fetches, Gives, MailStep, Notes, Posts, Takes}
use Rattle.hp_hall.specs.declared.kept.Kept.TheVariants.{Heap, Names, Segments}
use Rattle.hp_hall.specs.declared.slot.TheConstants.{NAMES_SLOT}
use Rattle.hp_heap.specs.History.{HeapView}
use Rattle.hp_heap.specs.declared.entry.Entry.{Entry}
use Rattle.hp_proc.specs.Acting.{Acts}
use Rattle.hp_proc.specs.Denying.{denials_of}
use Rattle.hp_proc.specs.Doing.{Done}
use Rattle.hp_proc.specs.ParticipantView.{ParticipantView}
use Rattle.hp_serve.specs.Attaching.{after_attaching}
use Rattle.hp_serve.specs.Serving.{acks_after, gives_segments, takes_segments}
use Rattle.hp_weave.specs.Holds.{Hold}
use Rattle.thm_run.proofs.HeapGivers.{GiveNoHeap, IsNoGive}
use Rattle.thm_run.proofs.ServesNoHeap.{none_both}
use Rattle.thm_run.proofs.WaitsNoHeap.{acks_none, ask_none, notice_none, turn_none}
use Rattle.thm_run.specs.OwnLines.{AreOfNoHeap, added_in, heap_holds_from, hold_ended}
use Rattle.thm_run.specs.Seats.{IsOfHeapOrNames}

-- STEPS BESIDE A HEAP

-- a step takes no heap of that index, and gives none back
abbrev pub IsBeside : ℕ → MailStep → Type 0
IsBeside index (Takes slot (Heap heap pen)) = heap.plain.index ≢ index
IsBeside index (Gives slot (Heap heap pen)) = heap.plain.index ≢ index
IsBeside index _ = ⊤

abbrev pub AreBeside : ℕ → List MailStep → Type 0
AreBeside index steps = AllByRecursion (IsBeside index) steps

module _ (index : ℕ) where
  pub beside_both : (first last : List MailStep) → AreBeside index first → AreBeside index last → AreBeside index (first ++ last)
  beside_both [] last here there = there
  beside_both (step ∷ first) last here there = (here.0, beside_both first last here.1 there)

  not_given : (step : MailStep) → IsNoGive step → IsBeside index step
  not_given (Takes slot (Heap heap pen)) none = absurd none
  not_given (Takes slot (Segments segs)) none = tt
  not_given (Takes slot (Names names)) none = tt
  not_given (Gives slot (Heap heap pen)) none = absurd none
  not_given (Gives slot (Segments segs)) none = tt
  not_given (Gives slot (Names names)) none = tt
  not_given (Posts to frame action posted) none = tt
  not_given (Fetches frame) none = tt
  not_given (Notes note) none = tt

  -- so are those that give no heap, or are of none
  pub none_beside : (steps : List MailStep) → GiveNoHeap steps → AreBeside index steps
  none_beside [] none = tt
  none_beside (step ∷ steps) none = (not_given step none.0, none_beside steps none.1)

  not_of_heap : (step : MailStep) → (IsOfHeapOrNames step → ⊥) → IsBeside index step
  not_of_heap (Takes slot (Heap heap pen)) none = absurd (none tt)
  not_of_heap (Takes slot (Segments segs)) none = tt
  not_of_heap (Takes slot (Names names)) none = tt
  not_of_heap (Gives slot (Heap heap pen)) none = absurd (none tt)
  not_of_heap (Gives slot (Segments segs)) none = tt
  not_of_heap (Gives slot (Names names)) none = tt
  not_of_heap (Posts to frame action posted) none = tt
  not_of_heap (Fetches frame) none = tt
  not_of_heap (Notes note) none = tt

  pub others_beside : (steps : List MailStep) → AreOfNoHeap steps → AreBeside index steps
  others_beside [] none = tt
  others_beside (step ∷ steps) none = (not_of_heap step none.0, others_beside steps none.1)

-- HOW LONG IT IS IN HAND

-- the heap of that index as it is in hand after some steps, before which it was this
abbrev pub held_after : ℕ → Option HeapView → List MailStep → Option HeapView
held_after index taken [] = taken
held_after index taken (Takes slot (Heap heap pen) ∷ steps) = held_after index (cond (heap.plain.index == index) (Some heap) taken) steps
held_after index taken (Gives slot (Heap heap pen) ∷ steps) = held_after index (cond (heap.plain.index == index) None taken) steps
held_after index taken (step ∷ steps) = held_after index taken steps

module _ (index : ℕ) where
  pub held_both : (taken : Option HeapView) (first last : List MailStep)
      → held_after index taken (first ++ last) ≡ held_after index (held_after index taken first) last
  held_both taken [] last = refl
  held_both taken (Takes slot (Heap heap pen) ∷ first) last = held_both (cond (heap.plain.index == index) (Some heap) taken) first last
  held_both taken (Takes slot (Segments segs) ∷ first) last = held_both taken first last
  held_both taken (Takes slot (Names names) ∷ first) last = held_both taken first last
  held_both taken (Gives slot (Heap heap pen) ∷ first) last = held_both (cond (heap.plain.index == index) None taken) first last
  held_both taken (Gives slot (Segments segs) ∷ first) last = held_both taken first last
  held_both taken (Gives slot (Names names) ∷ first) last = held_both taken first last
  held_both taken (Posts to frame action posted ∷ first) last = held_both taken first last
  held_both taken (Fetches frame ∷ first) last = held_both taken first last
  held_both taken (Notes note ∷ first) last = held_both taken first last

  pub held_beside : (taken : Option HeapView) (steps : List MailStep) → AreBeside index steps → held_after index taken steps ≡ taken
  held_beside taken [] beside = refl
  held_beside taken (Takes slot (Heap heap pen) ∷ steps) beside =
      ap (λ (one : Option HeapView). held_after index one steps)
      (cond-false (heap.plain.index == index) (Some heap) taken (ne_eqb heap.plain.index index beside.0))
      ∙ held_beside taken steps beside.1
  held_beside taken (Takes slot (Segments segs) ∷ steps) beside = held_beside taken steps beside.1
  held_beside taken (Takes slot (Names names) ∷ steps) beside = held_beside taken steps beside.1
  held_beside taken (Gives slot (Heap heap pen) ∷ steps) beside =
      ap (λ (one : Option HeapView). held_after index one steps)
      (cond-false (heap.plain.index == index) None taken (ne_eqb heap.plain.index index beside.0))
      ∙ held_beside taken steps beside.1
  held_beside taken (Gives slot (Segments segs) ∷ steps) beside = held_beside taken steps beside.1
  held_beside taken (Gives slot (Names names) ∷ steps) beside = held_beside taken steps beside.1
  held_beside taken (Posts to frame action posted ∷ steps) beside = held_beside taken steps beside.1
  held_beside taken (Fetches frame ∷ steps) beside = held_beside taken steps beside.1
  held_beside taken (Notes note ∷ steps) beside = held_beside taken steps beside.1

-- WHAT COMES TO IT

-- the entries that come to it in its holds by steps
abbrev pub added : ℕ → ℕ → Option HeapView → List MailStep → List Entry
added who index taken steps = flat_map added_in (heap_holds_from who index taken steps)

module _ (who index : ℕ) where
  abbrev holds : Option HeapView → List MailStep → List (Hold HeapView)
  holds taken steps = heap_holds_from who index taken steps

  taken_then : (is : Bool) (heap : HeapView) (taken : Option HeapView) (first last : List MailStep)
      → ((one : Option HeapView) → holds one (first ++ last) ≡ holds one first ++ holds (held_after index one first) last)
      → cond is (holds (Some heap) (first ++ last)) (holds taken (first ++ last))
      ≡ cond is (holds (Some heap) first) (holds taken first) ++ holds (held_after index (cond is (Some heap) taken) first) last
  taken_then true heap taken first last on = on (Some heap)
  taken_then false heap taken first last on = on taken

  given_then : (is : Bool) (heap : HeapView) (taken : Option HeapView) (first last : List MailStep)
      → ((one : Option HeapView) → holds one (first ++ last) ≡ holds one first ++ holds (held_after index one first) last)
      → cond is (hold_ended who taken heap ++ holds None (first ++ last)) (holds taken (first ++ last))
      ≡ cond is (hold_ended who taken heap ++ holds None first) (holds taken first)
      ++ holds (held_after index (cond is None taken) first) last
  given_then true heap taken first last on =
      ap (λ (l : List (Hold HeapView)). hold_ended who taken heap ++ l) (on None)
      ∙ sym (append_assoc (hold_ended who taken heap) (holds None first) (holds (held_after index None first) last))
  given_then false heap taken first last on = on taken

  pub holds_then : (first last : List MailStep) (taken : Option HeapView)
      → holds taken (first ++ last) ≡ holds taken first ++ holds (held_after index taken first) last
  holds_then [] last taken = refl
  holds_then (Takes slot (Heap heap pen) ∷ first) last taken =
      taken_then (heap.plain.index == index) heap taken first last (holds_then first last)
  holds_then (Takes slot (Segments segs) ∷ first) last taken = holds_then first last taken
  holds_then (Takes slot (Names names) ∷ first) last taken = holds_then first last taken
  holds_then (Gives slot (Heap heap pen) ∷ first) last taken =
      given_then (heap.plain.index == index) heap taken first last (holds_then first last)
  holds_then (Gives slot (Segments segs) ∷ first) last taken = holds_then first last taken
  holds_then (Gives slot (Names names) ∷ first) last taken = holds_then first last taken
  holds_then (Posts to frame action posted ∷ first) last taken = holds_then first last taken
  holds_then (Fetches frame ∷ first) last taken = holds_then first last taken
  holds_then (Notes note ∷ first) last taken = holds_then first last taken

  -- where it is not in hand in between
  pub added_then : (first last : List MailStep) → held_after index None first ≡ None
      → added who index None (first ++ last) ≡ added who index None first ++ added who index None last
  added_then first last free =
      ap (flat_map added_in) (holds_then first last None)
      ∙ (flat_map-append added_in (holds None first) (holds (held_after index None first) last)
      ∙ ap (λ (taken : Option HeapView). added who index None first ++ added who index taken last) free)

  -- and by steps beside it nothing comes
  none_held : (steps : List MailStep) → AreBeside index steps → holds None steps ≡ []
  none_held [] beside = refl
  none_held (Takes slot (Heap heap pen) ∷ steps) beside =
      cond-false (heap.plain.index == index) (holds (Some heap) steps) (holds None steps) (ne_eqb heap.plain.index index beside.0)
      ∙ none_held steps beside.1
  none_held (Takes slot (Segments segs) ∷ steps) beside = none_held steps beside.1
  none_held (Takes slot (Names names) ∷ steps) beside = none_held steps beside.1
  none_held (Gives slot (Heap heap pen) ∷ steps) beside =
      cond-false (heap.plain.index == index) (hold_ended who None heap ++ holds None steps) (holds None steps)
      (ne_eqb heap.plain.index index beside.0)
      ∙ none_held steps beside.1
  none_held (Gives slot (Segments segs) ∷ steps) beside = none_held steps beside.1
  none_held (Gives slot (Names names) ∷ steps) beside = none_held steps beside.1
  none_held (Posts to frame action posted ∷ steps) beside = none_held steps beside.1
  none_held (Fetches frame ∷ steps) beside = none_held steps beside.1
  none_held (Notes note ∷ steps) beside = none_held steps beside.1

  pub none_added : (steps : List MailStep) → AreBeside index steps → added who index None steps ≡ []
  none_added steps beside = ap (flat_map added_in) (none_held steps beside)

  pub added_after : (first last : List MailStep) → AreBeside index first
      → added who index None (first ++ last) ≡ added who index None last
  added_after first last beside =
      added_then first last (held_beside index None first beside)
      ∙ ap (λ (l : List Entry). l ++ added who index None last) (none_added first beside)

-- A LINE'S DOINGS

-- what is done of a line leaves it in hand only where it says so
pub acts_free : {count : ℕ} {hand fin : Option ℕ} {held : List ℕ} {doer after : ParticipantView} {trace : List Done} {steps : List MailStep}
    → Acts count hand fin held doer after trace steps → (index : ℕ) (taken : Option HeapView) → (hand ≢ Some index → taken ≡ None)
    → fin ≢ Some index → held_after index taken steps ≡ None
acts_free {count} (Acts.waits_turn until doer after moved steps turned) index taken was apart =
    held_beside index taken steps
    (none_beside index steps (turn_none (denials_of doer.context.standing) count until doer.party after steps moved turned)) ∙ was apart
acts_free (Acts.takes_heap doer heap pen few) index taken was apart =
    cond-false (heap.plain.index == index) (Some heap) taken (ne_eqb heap.plain.index index (λ same. apart (ap Some same)))
    ∙ was (λ same. cc)
acts_free (Acts.sees_heap doer heap pen few) index taken was apart =
    cond-false (heap.plain.index == index) (Some heap) taken (ne_eqb heap.plain.index index (λ same. apart (ap Some same)))
    ∙ was (λ same. cc)
acts_free (Acts.gives_heap doer heap pen) index taken was apart =
    ⊎_elim
    (λ (same : heap.plain.index ≡ index). cond-true (heap.plain.index == index) None taken (eq-eqb heap.plain.index index same))
    (λ (differ : heap.plain.index ≢ index).
    cond-false (heap.plain.index == index) None taken (ne_eqb heap.plain.index index differ)
    ∙ was (λ same. differ (same_Some heap.plain.index index same)))
    (cases_eq heap.plain.index index)
acts_free {count} (Acts.asks_pages doer after asked run steps does) index taken was apart =
    held_beside index taken steps
    (none_beside index steps (ask_none (denials_of doer.context.standing) count doer.party after asked steps run does)) ∙ was apart
acts_free {count} (Acts.notifies_run doer after its run steps does) index taken was apart =
    held_beside index taken steps
    (none_beside index steps (notice_none (denials_of doer.context.standing) count doer.party after its run steps does)) ∙ was apart
acts_free (Acts.attaches doer after segs caught tried) index taken was apart =
    let acks : List MailStep = acks_after caught (length segs.log) in
    let gives : List MailStep = gives_segments (after_attaching doer.party.me caught segs) ∷ [] in
    held_beside index taken (takes_segments segs ∷ (acks ++ gives))
    (none_beside index (takes_segments segs ∷ (acks ++ gives)) (tt, none_both acks gives (acks_none caught (length segs.log)) (tt, tt)))
    ∙ was apart
acts_free (Acts.holds_names held doer after names given trace steps does changes) index taken was apart =
    held_both index taken steps (Gives NAMES_SLOT (Names given) ∷ []) ∙ acts_free does index taken was apart
acts_free (Acts.and_then hand between fin held more doer mid after first rest before behind one two) index taken was apart =
    held_both index taken before behind
    ∙ acts_free two index (held_after index taken before) (λ differ. acts_free one index taken was differ) apart
acts_free _ index taken was apart = was apart
