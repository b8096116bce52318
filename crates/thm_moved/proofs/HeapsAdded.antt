-- What a participant's seat counts as added by some of its steps is what the holds of heaps among these added.
use Rattle.std.proofs.Common.{◌≡◌, ◌≢◌, ◌∙◌, ℕ, ◌<◌, ◌≤◌, cond, eqb, eq-eqb, ne_eqb, List, [], ◌∷◌, ◌++◌, length, drop, flat_map, Option, Some, None, ⊎_elim, refl, sym, ap, ap₂, subst, arith}
use Rattle.std.specs.List.{All}
use Rattle.std.specs.Prelude.{⊤, ◌==◌}
use Rattle.std.proofs.lemmas.Bool.{cases_eq, cases_lt, cond-false, cond-true}
use Rattle.std.proofs.lemmas.Grind.{flat_map-append}
use Rattle.std.proofs.lemmas.List.{append-nil, drop_all}
use Rattle.hp_base.specs.declared.limits.TheConstants.{MAX_HEAPS}
use Rattle.hp_board.proofs.Pairs.{values_of-append, values_of-under, values_of-under_else}
use Rattle.hp_board.specs.KeptValues.{entries_added}
use Rattle.hp_board.specs.MovesKept.{IsMove, Replays, Slotted, slots_after}
use Rattle.hp_board.specs.Views.{under, values_of}
use Rattle.hp_board.specs.declared.view.Move.{Move}
use Rattle.hp_board.specs.declared.view.Move.TheVariants.{Gave, Took}
use Rattle.hp_chair.specs.DoneBy.{entries_by}
use Rattle.hp_chair.specs.Steps.{hand_after, move_in, moves_in}
use Rattle.hp_hall.specs.Mail.{Fetches, Gives, MailStep, Notes, Posts, Takes}
use Rattle.hp_hall.specs.Values.{history_of}
use Rattle.hp_hall.specs.declared.kept.Kept.{Kept}
use Rattle.hp_hall.specs.declared.kept.Kept.TheVariants.{Heap, Names, Segments}
use Rattle.hp_hall.specs.declared.slot.TheConstants.{NAMES_SLOT}
use Rattle.hp_heap.specs.History.{HeapView}
use Rattle.hp_heap.specs.declared.entry.Entry.{Entry}
use Rattle.hp_stats.specs.StatViews.{PenView}
use Rattle.thm_run.specs.OwnLines.{AddsToHeap, added_in, heap_holds_from, hold_ended}
use Rattle.thm_moved.proofs.HeapsHeld.{among_earlier, among_later, heap_moves, heaps_on, steps_heaps}
use Rattle.thm_moved.proofs.MovesHeld.{good_given, good_taken, other_first, own_first}
use Rattle.thm_moved.specs.Adding.{AddsByMoves}

-- SLOTS

-- a value that is taken or given is one of its slot
abbrev pub IsOfItsSlot : ℕ → Kept → Type 0
IsOfItsSlot slot (Heap heap pen) = (slot < MAX_HEAPS) × (heap.plain.index ≡ slot)
IsOfItsSlot slot (Segments segs) = slot ≡ MAX_HEAPS
IsOfItsSlot slot (Names names) = slot ≡ NAMES_SLOT

abbrev pub AreOfTheirSlots : List Move → Type 0
AreOfTheirSlots [] = ⊤
AreOfTheirSlots (Took slot kept ∷ moves) = IsOfItsSlot slot kept × AreOfTheirSlots moves
AreOfTheirSlots (Gave slot kept ∷ moves) = IsOfItsSlot slot kept × AreOfTheirSlots moves

first_slot : (who : ℕ) (move : Move) (slots : Slotted) (rest : List Move) → IsMove who move slots → AreOfTheirSlots rest
    → AreOfTheirSlots (move ∷ rest)
first_slot who (Took slot (Heap heap pen)) slots rest is all =
    let good = good_taken who slot (Heap heap pen) slots is in
    ((good.0, good.1), all)
first_slot who (Took slot (Segments segs)) slots rest is all =
    let last = (good_taken who slot (Segments segs) slots is).0 in
    (last, all)
first_slot who (Took slot (Names names)) slots rest is all =
    let last = (good_taken who slot (Names names) slots is).0 in
    (last, all)
first_slot who (Gave slot (Heap heap pen)) slots rest is all =
    let good = good_given who slot (Heap heap pen) slots is in
    ((good.0, good.1), all)
first_slot who (Gave slot (Segments segs)) slots rest is all =
    let last = (good_given who slot (Segments segs) slots is).0 in
    (last, all)
first_slot who (Gave slot (Names names)) slots rest is all =
    let last = (good_given who slot (Names names) slots is).0 in
    (last, all)

pub slots_on : (moves : List (ℕ × Move)) (slots end : Slotted) → Replays slots moves end → (who : ℕ) → AreOfTheirSlots (values_of who moves)
slots_on [] slots end replay who = tt
slots_on ((w, move) ∷ moves) slots end replay who =
    let rest = slots_on moves (slots_after w move slots) end replay.1 who in
    ⊎_elim
    (λ (same : w ≡ who).
    subst AreOfTheirSlots (sym (ap (λ w. values_of who ((w, move) ∷ moves)) same ∙ own_first who move moves))
    (first_slot w move slots (values_of who moves) replay.0 rest))
    (λ (apart : w ≢ who). subst AreOfTheirSlots (sym (other_first w who move moves (λ same. apart (sym same)))) rest)
    (cases_eq w who)

-- of moves one after another
slots_later : (before moves : List Move) → AreOfTheirSlots (before ++ moves) → AreOfTheirSlots moves
slots_later [] moves all = all
slots_later (Took slot kept ∷ before) moves all = slots_later before moves all.1
slots_later (Gave slot kept ∷ before) moves all = slots_later before moves all.1

slots_earlier : (moves more : List Move) → AreOfTheirSlots (moves ++ more) → AreOfTheirSlots moves
slots_earlier [] more all = tt
slots_earlier (Took slot kept ∷ moves) more all = (all.0, slots_earlier moves more all.1)
slots_earlier (Gave slot kept ∷ moves) more all = (all.0, slots_earlier moves more all.1)

-- ENTRIES

-- the heap in hand is what the slot's value in hand is
abbrev IsInHand : Option HeapView → Option Kept → Type 0
IsInHand None None = ⊤
IsInHand None (Some kept) = ⊥
IsInHand (Some heap) None = ⊥
IsInHand (Some heap) (Some (Heap other pen)) = heap ≡ other
IsInHand (Some heap) (Some (Segments segs)) = ⊥
IsInHand (Some heap) (Some (Names names)) = ⊥

none_added : (taken : Option Kept) (given : Kept) → history_of given ≡ [] → entries_added taken given ≡ []
none_added None given none = refl
none_added (Some taken) given none =
    ap (drop (length (history_of taken))) none ∙ drop_all (length (history_of taken)) [] (omega arith)

abbrev after : ℕ → MailStep → (ℕ → Option Kept) → ℕ → Option Kept
after index step hand slot = hand_after slot step (hand slot)

module _ (label index : ℕ) where
  -- a hold adds what its entries are
  added_so : (taken : Option HeapView) (hand : Option Kept) (heap : HeapView) (pen : PenView) → IsInHand taken hand
      → flat_map added_in (hold_ended label taken heap) ≡ entries_added hand (Heap heap pen)
  added_so None None heap pen is = refl
  added_so None (Some kept) heap pen is = absurd is
  added_so (Some taken) None heap pen is = absurd is
  added_so (Some taken) (Some (Heap other its)) heap pen is =
      append-nil (drop (length taken.history) heap.history) ∙ ap (λ (one : HeapView). drop (length one.history) heap.history) is
  added_so (Some taken) (Some (Segments segs)) heap pen is = absurd is
  added_so (Some taken) (Some (Names names)) heap pen is = absurd is

  abbrev holds : Option HeapView → List MailStep → List Entry
  holds taken steps = flat_map added_in (heap_holds_from label index taken steps)

  abbrev counted : (ℕ → Option Kept) → List MailStep → List Entry
  counted hand steps = values_of index (entries_by hand steps)

  module _ (low : index < MAX_HEAPS) where
    -- a value of another slot is taken or given
    hand_else : (slot : ℕ) (kept hand : Option Kept) (taken : Option HeapView) → slot ≢ index → IsInHand taken hand
        → IsInHand taken (cond (eqb slot index) kept hand)
    hand_else slot kept hand taken apart is =
        subst (IsInHand taken) (sym (cond-false (eqb slot index) kept hand (ne_eqb slot index apart))) is

    hand_here : (slot : ℕ) (kept hand : Option Kept) (taken : Option HeapView) → slot ≡ index → IsInHand taken kept
        → IsInHand taken (cond (eqb slot index) kept hand)
    hand_here slot kept hand taken same is =
        subst (IsInHand taken) (sym (cond-true (eqb slot index) kept hand (eq-eqb slot index same))) is

    -- what a give adds
    given_here : (slot : ℕ) (hand : Option Kept) (kept : Kept) (rest : List (ℕ × Entry)) → slot ≡ index
        → values_of index (under slot (entries_added hand kept) ++ rest) ≡ entries_added hand kept ++ values_of index rest
    given_here slot hand kept rest same =
        values_of-append index (under slot (entries_added hand kept)) rest
        ∙ ap (λ (entries : List Entry). entries ++ values_of index rest)
        (ap (λ (k : ℕ). values_of k (under slot (entries_added hand kept))) (sym same) ∙ values_of-under slot (entries_added hand kept))

    given_else : (slot : ℕ) (hand : Option Kept) (kept : Kept) (rest : List (ℕ × Entry)) → slot ≢ index
        → values_of index (under slot (entries_added hand kept) ++ rest) ≡ values_of index rest
    given_else slot hand kept rest apart =
        values_of-append index (under slot (entries_added hand kept)) rest
        ∙ ap (λ (entries : List Entry). entries ++ values_of index rest)
        (values_of-under_else slot index (entries_added hand kept) (λ same. apart (sym same)))

    -- of a slot below
    same_low : (steps : List MailStep) (taken : Option HeapView) (hand : ℕ → Option Kept) → IsInHand taken (hand index)
        → AreOfTheirSlots (moves_in steps) → holds taken steps ≡ counted hand steps
    same_low [] taken hand is all = refl
    same_low (Posts to frame action posted ∷ steps) taken hand is all = same_low steps taken hand is all
    same_low (Fetches frame ∷ steps) taken hand is all = same_low steps taken hand is all
    same_low (Notes note ∷ steps) taken hand is all = same_low steps taken hand is all
    same_low (Takes slot (Segments segs) ∷ steps) taken hand is all =
        let high = all.0 in
        let step = Takes slot (Segments segs) in
        same_low steps taken (after index step hand)
        (hand_else slot (Some (Segments segs)) (hand index) taken (λ same. omega (arith, same, high, low)) is) all.1
    same_low (Takes slot (Names names) ∷ steps) taken hand is all =
        let high = all.0 in
        let step = Takes slot (Names names) in
        same_low steps taken (after index step hand)
        (hand_else slot (Some (Names names)) (hand index) taken (λ same. omega (arith, same, high, low)) is) all.1
    same_low (Gives slot (Segments segs) ∷ steps) taken hand is all =
        let high = all.0 in
        let apart : slot ≢ index = λ same. omega (arith, same, high, low) in
        let next = after index (Gives slot (Segments segs)) hand in
        same_low steps taken next (hand_else slot None (hand index) taken apart is) all.1
        ∙ sym (given_else slot (hand slot) (Segments segs) (entries_by next steps) apart)
    same_low (Gives slot (Names names) ∷ steps) taken hand is all =
        let high = all.0 in
        let apart : slot ≢ index = λ same. omega (arith, same, high, low) in
        let next = after index (Gives slot (Names names)) hand in
        same_low steps taken next (hand_else slot None (hand index) taken apart is) all.1
        ∙ sym (given_else slot (hand slot) (Names names) (entries_by next steps) apart)
    same_low (Takes slot (Heap heap pen) ∷ steps) taken hand is all =
        let its : heap.plain.index ≡ slot = all.0.1 in
        let next = after index (Takes slot (Heap heap pen)) hand in
        let yes = heap_holds_from label index (Some heap) steps in
        let no = heap_holds_from label index taken steps in
        ⊎_elim
        (λ (same : slot ≡ index).
        ap (flat_map added_in) (cond-true (heap.plain.index == index) yes no (eq-eqb heap.plain.index index (its ∙ same)))
        ∙ same_low steps (Some heap) next (hand_here slot (Some (Heap heap pen)) (hand index) (Some heap) same refl) all.1)
        (λ (apart : slot ≢ index).
        ap (flat_map added_in)
        (cond-false (heap.plain.index == index) yes no (ne_eqb heap.plain.index index (λ same. apart (sym its ∙ same))))
        ∙ same_low steps taken next (hand_else slot (Some (Heap heap pen)) (hand index) taken apart is) all.1)
        (cases_eq slot index)
    same_low (Gives slot (Heap heap pen) ∷ steps) taken hand is all =
        let its : heap.plain.index ≡ slot = all.0.1 in
        let next = after index (Gives slot (Heap heap pen)) hand in
        let late = heap_holds_from label index None steps in
        let yes = hold_ended label taken heap ++ late in
        let no = heap_holds_from label index taken steps in
        ⊎_elim
        (λ (same : slot ≡ index).
        ap (flat_map added_in) (cond-true (heap.plain.index == index) yes no (eq-eqb heap.plain.index index (its ∙ same)))
        ∙ (flat_map-append added_in (hold_ended label taken heap) late
        ∙ (ap₂ (λ (front : List Entry) (rest : List Entry). front ++ rest)
        (added_so taken (hand slot) heap pen (subst (λ (k : ℕ). IsInHand taken (hand k)) (sym same) is))
        (same_low steps None next (hand_here slot None (hand index) None same tt) all.1)
        ∙ sym (given_here slot (hand slot) (Heap heap pen) (entries_by next steps) same))))
        (λ (apart : slot ≢ index).
        ap (flat_map added_in)
        (cond-false (heap.plain.index == index) yes no (ne_eqb heap.plain.index index (λ same. apart (sym its ∙ same))))
        ∙ (same_low steps taken next (hand_else slot None (hand index) taken apart is) all.1
        ∙ sym (given_else slot (hand slot) (Heap heap pen) (entries_by next steps) apart)))
        (cases_eq slot index)

  module _ (high : MAX_HEAPS ≤ index) where
    -- past the slots of heaps nothing is held
    none_held : (steps : List MailStep) (taken : Option HeapView) → AreOfTheirSlots (moves_in steps) → taken ≡ None
        → heap_holds_from label index taken steps ≡ []
    none_held [] taken all none = refl
    none_held (Posts to frame action posted ∷ steps) taken all none = none_held steps taken all none
    none_held (Fetches frame ∷ steps) taken all none = none_held steps taken all none
    none_held (Notes note ∷ steps) taken all none = none_held steps taken all none
    none_held (Takes slot (Segments segs) ∷ steps) taken all none = none_held steps taken all.1 none
    none_held (Takes slot (Names names) ∷ steps) taken all none = none_held steps taken all.1 none
    none_held (Gives slot (Segments segs) ∷ steps) taken all none = none_held steps taken all.1 none
    none_held (Gives slot (Names names) ∷ steps) taken all none = none_held steps taken all.1 none
    none_held (Takes slot (Heap heap pen) ∷ steps) taken all none =
        let below = all.0.0 in
        let its = all.0.1 in
        cond-false (heap.plain.index == index) (heap_holds_from label index (Some heap) steps) (heap_holds_from label index taken steps)
        (ne_eqb heap.plain.index index (λ same. omega (arith, same, its, below, high)))
        ∙ none_held steps taken all.1 none
    none_held (Gives slot (Heap heap pen) ∷ steps) taken all none =
        let below = all.0.0 in
        let its = all.0.1 in
        cond-false (heap.plain.index == index) (hold_ended label taken heap ++ heap_holds_from label index None steps)
        (heap_holds_from label index taken steps) (ne_eqb heap.plain.index index (λ same. omega (arith, same, its, below, high)))
        ∙ none_held steps taken all.1 none

    -- and nothing is added
    none_given : (slot : ℕ) (hand : Option Kept) (kept : Kept) (rest : List (ℕ × Entry)) → IsOfItsSlot slot kept
        → values_of index (under slot (entries_added hand kept) ++ rest) ≡ values_of index rest
    none_given slot hand (Heap heap pen) rest is =
        let below = is.0 in
        values_of-append index (under slot (entries_added hand (Heap heap pen))) rest
        ∙ ap (λ (entries : List Entry). entries ++ values_of index rest)
        (values_of-under_else slot index (entries_added hand (Heap heap pen)) (λ same. omega (arith, same, below, high)))
    none_given slot hand (Segments segs) rest is =
        ap (λ (entries : List Entry). values_of index (under slot entries ++ rest)) (none_added hand (Segments segs) refl)
    none_given slot hand (Names names) rest is =
        ap (λ (entries : List Entry). values_of index (under slot entries ++ rest)) (none_added hand (Names names) refl)

    none_counted : (steps : List MailStep) (hand : ℕ → Option Kept) → AreOfTheirSlots (moves_in steps) → counted hand steps ≡ []
    none_counted [] hand all = refl
    none_counted (Posts to frame action posted ∷ steps) hand all = none_counted steps hand all
    none_counted (Fetches frame ∷ steps) hand all = none_counted steps hand all
    none_counted (Notes note ∷ steps) hand all = none_counted steps hand all
    none_counted (Takes slot kept ∷ steps) hand all = none_counted steps (after index (Takes slot kept) hand) all.1
    none_counted (Gives slot kept ∷ steps) hand all =
        let next = after index (Gives slot kept) hand in
        none_given slot (hand slot) kept (entries_by next steps) all.0 ∙ none_counted steps next all.1

  pub same_added : (steps : List MailStep) → AreOfTheirSlots (moves_in steps) → holds None steps ≡ counted (λ slot. None) steps
  same_added steps all =
      ⊎_elim (λ (low : index < MAX_HEAPS). same_low low steps None (λ slot. None) tt all)
      (λ (high : MAX_HEAPS ≤ index).
      ap (flat_map added_in) (none_held high steps None all refl) ∙ sym (none_counted high steps (λ slot. None) all))
      (cases_lt index MAX_HEAPS)

-- the moves of steps one after another
both_moves : (first last : List MailStep) → moves_in (first ++ last) ≡ moves_in first ++ moves_in last
both_moves first last = flat_map-append move_in first last

pub adds_by_moves : AddsByMoves
adds_by_moves moves first last who label before steps more replay own heap =
    let split : values_of who moves ≡ moves_in before ++ (moves_in steps ++ moves_in more) =
    own ∙ (both_moves before (steps ++ more) ∙ ap (λ rest. moves_in before ++ rest) (both_moves steps more)) in
    let all = subst (λ its. All AddsToHeap (heap_moves label heap None its)) split (heaps_on who label heap moves first last replay None tt) in
    let its = subst AreOfTheirSlots split (slots_on moves first last replay who) in
    record {
      each = subst (All AddsToHeap) (steps_heaps label heap None steps)
          (among_earlier label heap None (moves_in steps) (moves_in more)
          (among_later label heap None (moves_in before) (moves_in steps ++ moves_in more) all));
      are = same_added label heap steps
          (slots_earlier (moves_in steps) (moves_in more) (slots_later (moves_in before) (moves_in steps ++ moves_in more) its));
    }
