-- By the moves of a board each hold of a heap gives it back sound, with a longer history; and so does each among some of a participant's steps.
use Rattle.std.proofs.Common.{◌≡◌, ◌≢◌, ◌∙◌, ℕ, ◌+◌, ◌<◌, ◌≤◌, Bool, true, false, cond, eqb, eq-eqb, ne_eqb, List, [], ◌∷◌, ◌++◌, Option, Some, None, ⊎_elim, refl, sym, ap, ap₂, subst, arith}
use Rattle.std.specs.Prelude.{⊤, ◌==◌}
use Rattle.std.specs.List.{All}
use Rattle.std.proofs.lemmas.Bool.{cases_eq, cond-false, cond-true, eqb-true}
use Rattle.std.proofs.lemmas.List.Elements.{All-append, All-cons, All-head, All-nil, All-tail}
use Rattle.hp_base.specs.declared.limits.TheConstants.{MAX_HEAPS}
use Rattle.hp_board.specs.MovesKept.{HasAdded, IsMove, Replays, Slotted, slots_after}
use Rattle.hp_board.specs.Views.{values_of}
use Rattle.hp_board.specs.declared.view.Move.{Move}
use Rattle.hp_board.specs.declared.view.Move.TheVariants.{Gave, Took}
use Rattle.hp_chair.specs.Steps.{moves_in}
use Rattle.hp_hall.specs.Mail.{Fetches, Gives, MailStep, Notes, Posts, Takes}
use Rattle.hp_hall.specs.declared.kept.Kept.{Kept}
use Rattle.hp_hall.specs.declared.kept.Kept.TheVariants.{Heap, Names, Segments}
use Rattle.hp_heap.specs.History.{HeapView}
use Rattle.hp_stats.specs.StatViews.{PenView}
use Rattle.hp_weave.specs.Holds.{Hold}
use Rattle.thm_run.specs.OwnLines.{AddsToHeap, heap_holds_from, hold_ended}
use Rattle.thm_moved.proofs.MovesHeld.{good_given, good_taken, other_first, own_first}

-- THE HOLDS AMONG MOVES

-- the holds of the heap of that index among moves of a participant, before which it had taken the heap and not given it back, or not
abbrev pub heap_moves : ℕ → ℕ → Option HeapView → List Move → List (Hold HeapView)
heap_moves label index taken [] = []
heap_moves label index taken (Took slot (Heap heap pen) ∷ moves) =
    cond (heap.plain.index == index) (heap_moves label index (Some heap) moves) (heap_moves label index taken moves)
heap_moves label index taken (Took slot (Segments segs) ∷ moves) = heap_moves label index taken moves
heap_moves label index taken (Took slot (Names names) ∷ moves) = heap_moves label index taken moves
heap_moves label index taken (Gave slot (Heap heap pen) ∷ moves) =
    cond (heap.plain.index == index) (hold_ended label taken heap ++ heap_moves label index None moves) (heap_moves label index taken moves)
heap_moves label index taken (Gave slot (Segments segs) ∷ moves) = heap_moves label index taken moves
heap_moves label index taken (Gave slot (Names names) ∷ moves) = heap_moves label index taken moves

-- they are those among its steps
pub steps_heaps : (label index : ℕ) (taken : Option HeapView) (steps : List MailStep)
    → heap_moves label index taken (moves_in steps) ≡ heap_holds_from label index taken steps
steps_heaps label index taken [] = refl
steps_heaps label index taken (Posts to frame action posted ∷ steps) = steps_heaps label index taken steps
steps_heaps label index taken (Fetches frame ∷ steps) = steps_heaps label index taken steps
steps_heaps label index taken (Notes note ∷ steps) = steps_heaps label index taken steps
steps_heaps label index taken (Takes slot (Heap heap pen) ∷ steps) =
    ap₂ (λ (yes : List (Hold HeapView)) (no : List (Hold HeapView)). cond (heap.plain.index == index) yes no)
    (steps_heaps label index (Some heap) steps) (steps_heaps label index taken steps)
steps_heaps label index taken (Takes slot (Segments segs) ∷ steps) = steps_heaps label index taken steps
steps_heaps label index taken (Takes slot (Names names) ∷ steps) = steps_heaps label index taken steps
steps_heaps label index taken (Gives slot (Heap heap pen) ∷ steps) =
    ap₂ (λ (yes : List (Hold HeapView)) (no : List (Hold HeapView)). cond (heap.plain.index == index) (hold_ended label taken heap ++ yes) no)
    (steps_heaps label index None steps) (steps_heaps label index taken steps)
steps_heaps label index taken (Gives slot (Segments segs) ∷ steps) = steps_heaps label index taken steps
steps_heaps label index taken (Gives slot (Names names) ∷ steps) = steps_heaps label index taken steps

-- what a participant has added to a taken value
adds_given : (who slot : ℕ) (kept : Kept) (slots : Slotted) → IsMove who (Gave slot kept) slots → HasAdded who (slots.value slot) kept
adds_given who slot kept slots (within, held, good, adds, later) = adds

taken_is : (who slot : ℕ) (kept : Kept) (slots : Slotted) → IsMove who (Took slot kept) slots → kept ≡ slots.value slot
taken_is who slot kept slots (within, free, is, good) = is

module _ (who label index : ℕ) where
  -- the heap that a participant has in hand is held by it, and is the slot's
  abbrev HasIt : Option HeapView → Slotted → Type 0
  HasIt None slots = ⊤
  HasIt (Some heap) slots =
      (slots.word index ≡ who + 1) × (index < MAX_HEAPS) × (pen : PenView) × (slots.value index ≡ Heap heap pen)

  has_still : (taken : Option HeapView) (slots next : Slotted)
      → ((heap : HeapView) → taken ≡ Some heap → (next.word index ≡ slots.word index) × (next.value index ≡ slots.value index))
      → HasIt taken slots → HasIt taken next
  has_still None slots next same has = tt
  has_still (Some heap) slots next same has =
      let is = same heap refl in
      (is.0 ∙ has.0, has.1, has.2, is.1 ∙ has.3)

  took_else : (slots : Slotted) (w slot : ℕ) (kept : Kept) → index ≢ slot
      → ((slots_after w (Took slot kept) slots).word index ≡ slots.word index)
      × ((slots_after w (Took slot kept) slots).value index ≡ slots.value index)
  took_else slots w slot kept apart = (cond-false (eqb index slot) (w + 1) (slots.word index) (ne_eqb index slot apart), refl)

  gave_else : (slots : Slotted) (w slot : ℕ) (kept : Kept) → index ≢ slot
      → ((slots_after w (Gave slot kept) slots).word index ≡ slots.word index)
      × ((slots_after w (Gave slot kept) slots).value index ≡ slots.value index)
  gave_else slots w slot kept apart = (
    cond-false (eqb index slot) 0 (slots.word index) (ne_eqb index slot apart),
    cond-false (eqb index slot) kept (slots.value index) (ne_eqb index slot apart),
  )

  its_word : (taken : Option HeapView) (slots : Slotted) (heap : HeapView) → HasIt taken slots → taken ≡ Some heap
      → (slots.word index ≡ who + 1) × (index < MAX_HEAPS)
  its_word taken slots heap has is =
      let its = subst (λ (taken : Option HeapView). HasIt taken slots) is has in
      (its.0, its.1)

  -- what is said of moves that go on from such slots
  abbrev GoesOn : Slotted → List Move → Type 0
  GoesOn slots moves = (taken : Option HeapView) → HasIt taken slots → All AddsToHeap (heap_moves label index taken moves)

  -- another one makes the next move
  other_goes : (slots : Slotted) (w : ℕ) (move : Move) (rest : List Move) → w ≢ who → IsMove w move slots → GoesOn (slots_after w move slots) rest
      → GoesOn slots rest
  other_goes slots w (Took slot kept) rest apart is on taken has =
      on taken
      (has_still taken slots (slots_after w (Took slot kept) slots)
      (λ heap in_hand.
      let its = (its_word taken slots heap has in_hand).0 in
      let free = is.1 in
      took_else slots w slot kept (λ same. let words = ap slots.word same in omega (arith, words, its, free))) has)
  other_goes slots w (Gave slot kept) rest apart is on taken has =
      on taken
      (has_still taken slots (slots_after w (Gave slot kept) slots)
      (λ heap in_hand.
      let its = (its_word taken slots heap has in_hand).0 in
      let held = is.1 in
      gave_else slots w slot kept (λ same. let words = ap slots.word same in apart (omega (arith, words, its, held)))) has)

  -- it takes a heap
  module _ (slots : Slotted) (slot : ℕ) (heap : HeapView) (pen : PenView) (rest : List Move) where
    took_heap : IsMove who (Took slot (Heap heap pen)) slots → GoesOn (slots_after who (Took slot (Heap heap pen)) slots) rest
        → GoesOn slots (Took slot (Heap heap pen) ∷ rest)
    took_heap is on taken has = by_index (heap.plain.index == index) refl
      where
        its : heap.plain.index ≡ slot
        its = (good_taken who slot (Heap heap pen) slots is).1

        by_index : (b : Bool) → (heap.plain.index == index) ≡ b
            → All AddsToHeap (cond b (heap_moves label index (Some heap) rest) (heap_moves label index taken rest))
        by_index true same =
            let here : index ≡ slot = sym (eqb-true heap.plain.index index same) ∙ its in
            let below = (good_taken who slot (Heap heap pen) slots is).0 in
            on (Some heap) (
              cond-true (eqb index slot) (who + 1) (slots.word index) (eq-eqb index slot here),
              omega (arith, here, below),
              pen,
              ap slots.value here ∙ sym (taken_is who slot (Heap heap pen) slots is),
            )
        by_index false other =
            on taken
            (has_still taken slots (slots_after who (Took slot (Heap heap pen)) slots)
            (λ one in_hand.
            took_else slots who slot (Heap heap pen)
            (λ same. let yes : true ≡ false = sym (eq-eqb heap.plain.index index (its ∙ sym same)) ∙ other in cc)) has)

    -- it gives one back
    ended : IsMove who (Gave slot (Heap heap pen)) slots → index ≡ slot → (taken : Option HeapView) → HasIt taken slots
        → All AddsToHeap (hold_ended label taken heap)
    ended is here None has = All-nil AddsToHeap
    ended is here (Some early) has =
        let adds : HasAdded who (Heap early has.2) (Heap heap pen) =
        subst (λ (taken : Kept). HasAdded who taken (Heap heap pen)) (ap slots.value (sym here) ∙ has.3)
        (adds_given who slot (Heap heap pen) slots is) in
        All-cons AddsToHeap (record { who = label; taken = early; given = heap }) []
        (record { sound = (good_given who slot (Heap heap pen) slots is).2; more = adds.own; history = adds.history }) (All-nil AddsToHeap)

    gave_heap : IsMove who (Gave slot (Heap heap pen)) slots → GoesOn (slots_after who (Gave slot (Heap heap pen)) slots) rest
        → GoesOn slots (Gave slot (Heap heap pen) ∷ rest)
    gave_heap is on taken has = by_index (heap.plain.index == index) refl
      where
        its : heap.plain.index ≡ slot
        its = (good_given who slot (Heap heap pen) slots is).1

        by_index : (b : Bool) → (heap.plain.index == index) ≡ b
            → All AddsToHeap (cond b (hold_ended label taken heap ++ heap_moves label index None rest) (heap_moves label index taken rest))
        by_index true same =
            let here : index ≡ slot = sym (eqb-true heap.plain.index index same) ∙ its in
            All-append AddsToHeap (hold_ended label taken heap) (heap_moves label index None rest) (ended is here taken has) (on None tt)
        by_index false other =
            on taken
            (has_still taken slots (slots_after who (Gave slot (Heap heap pen)) slots)
            (λ one in_hand.
            gave_else slots who slot (Heap heap pen)
            (λ same. let yes : true ≡ false = sym (eq-eqb heap.plain.index index (its ∙ sym same)) ∙ other in cc)) has)

  -- it takes another value, or gives one: the heap that is in hand is one of a slot below
  took_past : (slots : Slotted) (slot : ℕ) (kept : Kept) → IsMove who (Took slot kept) slots → (taken : Option HeapView) → HasIt taken slots
      → HasIt taken (slots_after who (Took slot kept) slots)
  took_past slots slot kept is taken has =
      has_still taken slots (slots_after who (Took slot kept) slots)
      (λ heap in_hand.
      let its = (its_word taken slots heap has in_hand).0 in
      let free = is.1 in
      took_else slots who slot kept (λ same. let words = ap slots.word same in omega (arith, words, its, free))) has

  gave_past : (slots : Slotted) (slot : ℕ) (kept : Kept) → MAX_HEAPS ≤ slot → (taken : Option HeapView) → HasIt taken slots
      → HasIt taken (slots_after who (Gave slot kept) slots)
  gave_past slots slot kept high taken has =
      has_still taken slots (slots_after who (Gave slot kept) slots)
      (λ heap in_hand.
      let low = (its_word taken slots heap has in_hand).1 in
      gave_else slots who slot kept (λ same. omega (arith, same, high, low))) has

  -- it makes the next move itself
  itself_goes : (slots : Slotted) (move : Move) (rest : List Move) → IsMove who move slots → GoesOn (slots_after who move slots) rest
      → GoesOn slots (move ∷ rest)
  itself_goes slots (Took slot (Heap heap pen)) rest is on taken has = took_heap slots slot heap pen rest is on taken has
  itself_goes slots (Took slot (Segments segs)) rest is on taken has = on taken (took_past slots slot (Segments segs) is taken has)
  itself_goes slots (Took slot (Names names)) rest is on taken has = on taken (took_past slots slot (Names names) is taken has)
  itself_goes slots (Gave slot (Heap heap pen)) rest is on taken has = gave_heap slots slot heap pen rest is on taken has
  itself_goes slots (Gave slot (Segments segs)) rest is on taken has =
      let last = (good_given who slot (Segments segs) slots is).0 in
      on taken (gave_past slots slot (Segments segs) (omega (arith, last)) taken has)
  itself_goes slots (Gave slot (Names names)) rest is on taken has =
      let last = (good_given who slot (Names names) slots is).0 in
      on taken (gave_past slots slot (Names names) (omega (arith, last)) taken has)

  pub heaps_on : (moves : List (ℕ × Move)) (slots end : Slotted) → Replays slots moves end → GoesOn slots (values_of who moves)
  heaps_on [] slots end replay = λ taken has. All-nil AddsToHeap
  heaps_on ((w, move) ∷ moves) slots end replay =
      let on = heaps_on moves (slots_after w move slots) end replay.1 in
      ⊎_elim
      (λ (same : w ≡ who).
      subst (GoesOn slots) (sym (ap (λ w. values_of who ((w, move) ∷ moves)) same ∙ own_first who move moves))
      (itself_goes slots move (values_of who moves) (subst (λ w. IsMove w move slots) same replay.0)
      (subst (λ w. GoesOn (slots_after w move slots) (values_of who moves)) same on)))
      (λ (apart : w ≢ who).
      subst (GoesOn slots) (sym (other_first w who move moves (λ same. apart (sym same))))
      (other_goes slots w move (values_of who moves) apart replay.0 on))
      (cases_eq w who)

-- AMONG SOME OF THE STEPS

-- what holds of all of one of two lists holds of all of another one
pick : (b : Bool) (here there other another : List (Hold HeapView)) → (All AddsToHeap here → All AddsToHeap other)
    → (All AddsToHeap there → All AddsToHeap another) → All AddsToHeap (cond b here there) → All AddsToHeap (cond b other another)
pick true here there other another first second all = first all
pick false here there other another first second all = second all

back : (first rest : List (Hold HeapView)) → All AddsToHeap (first ++ rest) → All AddsToHeap rest
back [] rest all = all
back (hold ∷ first) rest all = back first rest (All-tail AddsToHeap hold (first ++ rest) all)

front : (first rest : List (Hold HeapView)) → All AddsToHeap (first ++ rest) → All AddsToHeap first
front [] rest all = All-nil AddsToHeap
front (hold ∷ first) rest all =
    All-cons AddsToHeap hold first (All-head AddsToHeap hold (first ++ rest) all) (front first rest (All-tail AddsToHeap hold (first ++ rest) all))

module _ (label index : ℕ) where
  abbrev held : Option HeapView → List Move → List (Hold HeapView)
  held taken moves = heap_moves label index taken moves

  -- where nothing was in hand there are no more
  without : (taken : Option HeapView) (moves : List Move) → All AddsToHeap (held taken moves) → All AddsToHeap (held None moves)
  without taken [] all = all
  without taken (Took slot (Segments segs) ∷ moves) all = without taken moves all
  without taken (Took slot (Names names) ∷ moves) all = without taken moves all
  without taken (Gave slot (Segments segs) ∷ moves) all = without taken moves all
  without taken (Gave slot (Names names) ∷ moves) all = without taken moves all
  without taken (Took slot (Heap heap pen) ∷ moves) all =
      pick (heap.plain.index == index) (held (Some heap) moves) (held taken moves) (held (Some heap) moves) (held None moves) (λ same. same)
      (without taken moves) all
  without taken (Gave slot (Heap heap pen) ∷ moves) all =
      pick (heap.plain.index == index) (hold_ended label taken heap ++ held None moves) (held taken moves) (held None moves) (held None moves)
      (back (hold_ended label taken heap) (held None moves)) (without taken moves) all

  either : (b : Bool) (here there : List (Hold HeapView)) (moves : List Move) → (All AddsToHeap here → All AddsToHeap (held None moves))
      → (All AddsToHeap there → All AddsToHeap (held None moves)) → All AddsToHeap (cond b here there) → All AddsToHeap (held None moves)
  either true here there moves first second all = first all
  either false here there moves first second all = second all

  -- among later ones, and among earlier ones
  pub among_later : (taken : Option HeapView) (before moves : List Move) → All AddsToHeap (held taken (before ++ moves))
      → All AddsToHeap (held None moves)
  among_later taken [] moves all = without taken moves all
  among_later taken (Took slot (Segments segs) ∷ before) moves all = among_later taken before moves all
  among_later taken (Took slot (Names names) ∷ before) moves all = among_later taken before moves all
  among_later taken (Gave slot (Segments segs) ∷ before) moves all = among_later taken before moves all
  among_later taken (Gave slot (Names names) ∷ before) moves all = among_later taken before moves all
  among_later taken (Took slot (Heap heap pen) ∷ before) moves all =
      either (heap.plain.index == index) (held (Some heap) (before ++ moves)) (held taken (before ++ moves)) moves
      (among_later (Some heap) before moves) (among_later taken before moves) all
  among_later taken (Gave slot (Heap heap pen) ∷ before) moves all =
      either (heap.plain.index == index) (hold_ended label taken heap ++ held None (before ++ moves)) (held taken (before ++ moves)) moves
      (λ both. among_later None before moves (back (hold_ended label taken heap) (held None (before ++ moves)) both))
      (among_later taken before moves) all

  pub among_earlier : (taken : Option HeapView) (moves more : List Move) → All AddsToHeap (held taken (moves ++ more))
      → All AddsToHeap (held taken moves)
  among_earlier taken [] more all = All-nil AddsToHeap
  among_earlier taken (Took slot (Segments segs) ∷ moves) more all = among_earlier taken moves more all
  among_earlier taken (Took slot (Names names) ∷ moves) more all = among_earlier taken moves more all
  among_earlier taken (Gave slot (Segments segs) ∷ moves) more all = among_earlier taken moves more all
  among_earlier taken (Gave slot (Names names) ∷ moves) more all = among_earlier taken moves more all
  among_earlier taken (Took slot (Heap heap pen) ∷ moves) more all =
      pick (heap.plain.index == index) (held (Some heap) (moves ++ more)) (held taken (moves ++ more)) (held (Some heap) moves)
      (held taken moves) (among_earlier (Some heap) moves more) (among_earlier taken moves more) all
  among_earlier taken (Gave slot (Heap heap pen) ∷ moves) more all =
      let ended = hold_ended label taken heap in
      pick (heap.plain.index == index) (ended ++ held None (moves ++ more)) (held taken (moves ++ more)) (ended ++ held None moves)
      (held taken moves)
      (λ both.
      All-append AddsToHeap ended (held None moves) (front ended (held None (moves ++ more)) both)
      (among_earlier None moves more (back ended (held None (moves ++ more)) both)))
      (among_earlier taken moves more) all
