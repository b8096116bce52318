-- By the moves of a board a history that was given back is a front of the last one; and of what came to it after that, a participant's own
-- entries are those that came in its later holds.
use Rattle.std.proofs.Common.{◌≡◌, ◌≢◌, ◌∙◌, ℕ, ◌+◌, ◌<◌, eqb, eq-eqb, ne_eqb, List, [], ◌∷◌, ◌++◌, append-nil, append_assoc, drop, length, flat_map, Option, Some, None, ⊎_elim, refl, sym, ap, ap₂, subst, arith}
use Rattle.std.specs.Prelude.{⊤, ◌==◌}
use Rattle.std.proofs.lemmas.Bool.{cases_eq, cond-false, cond-true}
use Rattle.std.proofs.lemmas.Grind.{flat_map-append}
use Rattle.std.proofs.lemmas.List.{drop_at}
use Rattle.hp_base.specs.declared.limits.TheConstants.{MAX_HEAPS}
use Rattle.hp_board.proofs.Histories.{entries_of-append, entries_of-nil, entries_of-other, entries_of-own}
use Rattle.hp_board.specs.MovesKept.{HasAdded, IsGoodThen, IsMove, Replays, Slotted, slots_after}
use Rattle.hp_board.specs.Views.{values_of}
use Rattle.hp_board.specs.declared.view.Move.{Move}
use Rattle.hp_board.specs.declared.view.Move.TheVariants.{Gave, Took}
use Rattle.hp_hall.specs.Values.{history_of}
use Rattle.hp_hall.specs.declared.kept.Kept.{Kept}
use Rattle.hp_hall.specs.declared.kept.Kept.TheVariants.{Heap, Names, Segments}
use Rattle.hp_heap.specs.History.{HeapView, entries_of}
use Rattle.hp_heap.specs.declared.entry.Entry.{Entry}
use Rattle.thm_run.specs.OwnLines.{added_in, hold_ended}
use Rattle.thm_moved.proofs.HeapsHeld.{heap_moves}
use Rattle.thm_moved.proofs.MovesHeld.{good_given, good_taken, other_first, own_first}

-- the value is a heap
abbrev pub IsHeapKept : Kept → Type 0
IsHeapKept (Heap heap pen) = ⊤
IsHeapKept (Segments segs) = ⊥
IsHeapKept (Names names) = ⊥

-- a history goes on from a front, and of what came after that these entries are the participant's
pub record GoesOnWith (who : ℕ) (own front whole : List Entry) : Type 0 where
  pub more : List Entry
  pub is : whole ≡ front ++ more
  pub owned : entries_of who more ≡ own

with_none : (who : ℕ) (front whole : List Entry) → whole ≡ front → GoesOnWith who [] front whole
with_none who front whole same = record { more = []; is = same ∙ sym (append-nil front); owned = entries_of-nil who }

-- first came some entries, and then more
with_more : (who : ℕ) (one own front mid whole added : List Entry) → mid ≡ front ++ added → entries_of who added ≡ one
    → GoesOnWith who own mid whole → GoesOnWith who (one ++ own) front whole
with_more who one own front mid whole added is its goes = record {
  more = added ++ goes.more;
  is = goes.is ∙ (ap (λ (l : List Entry). l ++ goes.more) is ∙ append_assoc front added goes.more);
  owned = entries_of-append who added goes.more ∙ ap₂ (λ (a b : List Entry). a ++ b) its goes.owned;
}

-- what a participant has added to the value in the place of which it gives another
adds_given : (who slot : ℕ) (kept : Kept) (slots : Slotted) → IsMove who (Gave slot kept) slots → HasAdded who (slots.value slot) kept
adds_given who slot kept slots (within, held, good, adds, later) = adds

taken_is : (who slot : ℕ) (kept : Kept) (slots : Slotted) → IsMove who (Took slot kept) slots → kept ≡ slots.value slot
taken_is who slot kept slots (within, free, is, good) = is

module _ (who index : ℕ) (low : index < MAX_HEAPS) (end : Slotted) where
  -- the participant has the heap in hand as it took it, or has it not
  abbrev Has : Option HeapView → Slotted → Type 0
  Has None slots = slots.word index ≢ who + 1
  Has (Some heap) slots = (slots.word index ≡ who + 1) × (history_of (slots.value index) ≡ heap.history)

  -- the entries that come to the heap in its holds by moves
  abbrev pub own_in : Option HeapView → List Move → List Entry
  own_in taken moves = flat_map added_in (heap_moves who index taken moves)

  -- what is said of moves that go on from such slots
  abbrev Ends : Slotted → List Move → Type 0
  Ends slots moves = (taken : Option HeapView) → Has taken slots
      → GoesOnWith who (own_in taken moves) (history_of (slots.value index)) (history_of (end.value index))

  has_same : (taken : Option HeapView) (slots next : Slotted) → next.word index ≡ slots.word index → next.value index ≡ slots.value index
      → Has taken slots → Has taken next
  has_same None slots next word value has = λ its. has (sym word ∙ its)
  has_same (Some heap) slots next word value has = (word ∙ has.0, ap history_of value ∙ has.1)

  -- a move of another slot
  past : (slots next : Slotted) (moves : List Move) (taken : Option HeapView) → next.word index ≡ slots.word index
      → next.value index ≡ slots.value index → Ends next moves → Has taken slots
      → GoesOnWith who (own_in taken moves) (history_of (slots.value index)) (history_of (end.value index))
  past slots next moves taken word value ends has =
      subst (λ (kept : Kept). GoesOnWith who (own_in taken moves) (history_of kept) (history_of (end.value index))) value
      (ends taken (has_same taken slots next word value has))

  took_past : (slots : Slotted) (w slot : ℕ) (kept : Kept) (moves : List Move) (taken : Option HeapView) → index ≢ slot
      → Ends (slots_after w (Took slot kept) slots) moves → Has taken slots
      → GoesOnWith who (own_in taken moves) (history_of (slots.value index)) (history_of (end.value index))
  took_past slots w slot kept moves taken apart ends has =
      past slots (slots_after w (Took slot kept) slots) moves taken
      (cond-false (eqb index slot) (w + 1) (slots.word index) (ne_eqb index slot apart)) refl ends has

  gave_past : (slots : Slotted) (w slot : ℕ) (kept : Kept) (moves : List Move) (taken : Option HeapView) → index ≢ slot
      → Ends (slots_after w (Gave slot kept) slots) moves → Has taken slots
      → GoesOnWith who (own_in taken moves) (history_of (slots.value index)) (history_of (end.value index))
  gave_past slots w slot kept moves taken apart ends has =
      past slots (slots_after w (Gave slot kept) slots) moves taken
      (cond-false (eqb index slot) 0 (slots.word index) (ne_eqb index slot apart))
      (cond-false (eqb index slot) kept (slots.value index) (ne_eqb index slot apart)) ends has

  given_word : (slots : Slotted) (w slot : ℕ) (kept : Kept) → index ≡ slot → (slots_after w (Gave slot kept) slots).word index ≡ 0
  given_word slots w slot kept here = cond-true (eqb index slot) 0 (slots.word index) (eq-eqb index slot here)

  given_value : (slots : Slotted) (w slot : ℕ) (kept : Kept) → index ≡ slot → (slots_after w (Gave slot kept) slots).value index ≡ kept
  given_value slots w slot kept here = cond-true (eqb index slot) kept (slots.value index) (eq-eqb index slot here)

  none_then : (slots : Slotted) → slots.word index ≡ 0 → Has None slots
  none_then slots free = λ its. omega (arith, free, its)

  -- ANOTHER ONE MOVES

  took_by : (slots : Slotted) (w slot : ℕ) (kept : Kept) (taken : Option HeapView) → w ≢ who → index ≡ slot → slots.word slot ≡ 0
      → Has taken slots → Has taken (slots_after w (Took slot kept) slots)
  took_by slots w slot kept None apart here free has =
      λ its.
      let word : w + 1 ≡ who + 1 = sym (cond-true (eqb index slot) (w + 1) (slots.word index) (eq-eqb index slot here)) ∙ its in
      apart (omega (arith, word))
  took_by slots w slot kept (Some heap) apart here free has =
      let words = ap slots.word here in
      let held = has.0 in
      absurd (omega (arith, words, held, free))

  gave_by : (slots : Slotted) (w slot : ℕ) (kept : Kept) (taken : Option HeapView) → w ≢ who → index ≡ slot → slots.word slot ≡ w + 1
      → Has taken slots → Has taken (slots_after w (Gave slot kept) slots)
  gave_by slots w slot kept None apart here held has =
      none_then (slots_after w (Gave slot kept) slots) (given_word slots w slot kept here)
  gave_by slots w slot kept (Some heap) apart here held has =
      let words = ap slots.word here in
      let own = has.0 in
      absurd (apart (omega (arith, words, own, held)))

  other_goes : (slots : Slotted) (w : ℕ) (move : Move) (rest : List Move) → w ≢ who → IsMove w move slots → Ends (slots_after w move slots) rest
      → Ends slots rest
  other_goes slots w (Took slot kept) rest apart is ends taken has =
      ⊎_elim
      (λ (here : index ≡ slot). ends taken (took_by slots w slot kept taken apart here is.1 has))
      (λ (else : index ≢ slot). took_past slots w slot kept rest taken else ends has)
      (cases_eq index slot)
  other_goes slots w (Gave slot kept) rest apart is ends taken has =
      ⊎_elim
      (λ (here : index ≡ slot).
      let adds = adds_given w slot kept slots is in
      let history : history_of kept ≡ history_of (slots.value index) ++ adds.own =
      adds.history ∙ ap (λ (n : ℕ). history_of (slots.value n) ++ adds.own) (sym here) in
      with_more who [] (own_in taken rest) (history_of (slots.value index)) (history_of kept) (history_of (end.value index)) adds.own history
      (entries_of-other w who adds.count adds.own (λ same. apart (sym same)) adds.numbered)
      (subst (λ (value : Kept). GoesOnWith who (own_in taken rest) (history_of value) (history_of (end.value index)))
      (given_value slots w slot kept here) (ends taken (gave_by slots w slot kept taken apart here is.1 has))))
      (λ (else : index ≢ slot). gave_past slots w slot kept rest taken else ends has)
      (cases_eq index slot)

  -- IT MOVES ITSELF

  took_heap : (slots : Slotted) (slot : ℕ) (heap : HeapView) (pen : _) (rest : List Move) → IsMove who (Took slot (Heap heap pen)) slots
      → Ends (slots_after who (Took slot (Heap heap pen)) slots) rest → Ends slots (Took slot (Heap heap pen) ∷ rest)
  took_heap slots slot heap pen rest is ends taken has =
      let its : heap.plain.index ≡ slot = (good_taken who slot (Heap heap pen) slots is).1 in
      let goes = λ (own : List Entry). GoesOnWith who own (history_of (slots.value index)) (history_of (end.value index)) in
      ⊎_elim
      (λ (here : index ≡ slot).
      subst goes
      (sym (ap (flat_map added_in)
      (cond-true (heap.plain.index == index) (heap_moves who index (Some heap) rest) (heap_moves who index taken rest)
      (eq-eqb heap.plain.index index (its ∙ sym here)))))
      (ends (Some heap) (
        cond-true (eqb index slot) (who + 1) (slots.word index) (eq-eqb index slot here),
        ap history_of (ap slots.value here ∙ sym (taken_is who slot (Heap heap pen) slots is)),
      )))
      (λ (else : index ≢ slot).
      subst goes
      (sym (ap (flat_map added_in)
      (cond-false (heap.plain.index == index) (heap_moves who index (Some heap) rest) (heap_moves who index taken rest)
      (ne_eqb heap.plain.index index (λ same. else (sym same ∙ its))))))
      (took_past slots who slot (Heap heap pen) rest taken else ends has))
      (cases_eq index slot)

  -- what came in the hold that a give ends
  ended_own : (slots : Slotted) (slot : ℕ) (heap : HeapView) (pen : _) (taken : Option HeapView) (own : List Entry)
      → IsMove who (Gave slot (Heap heap pen)) slots → index ≡ slot → Has taken slots
      → heap.history ≡ history_of (slots.value index) ++ own → flat_map added_in (hold_ended who taken heap) ≡ own
  ended_own slots slot heap pen None own is here has history =
      let words = ap slots.word here in
      absurd (has (words ∙ is.1))
  ended_own slots slot heap pen (Some early) own is here has history =
      append-nil (drop (length early.history) heap.history)
      ∙ (ap (drop (length early.history)) (history ∙ ap (λ (l : List Entry). l ++ own) has.1)
      ∙ drop_at early.history own (length early.history) refl)

  gave_heap : (slots : Slotted) (slot : ℕ) (heap : HeapView) (pen : _) (rest : List Move) → IsMove who (Gave slot (Heap heap pen)) slots
      → Ends (slots_after who (Gave slot (Heap heap pen)) slots) rest → Ends slots (Gave slot (Heap heap pen) ∷ rest)
  gave_heap slots slot heap pen rest is ends taken has =
      let its : heap.plain.index ≡ slot = (good_given who slot (Heap heap pen) slots is).1 in
      let next = slots_after who (Gave slot (Heap heap pen)) slots in
      let goes = λ (own : List Entry). GoesOnWith who own (history_of (slots.value index)) (history_of (end.value index)) in
      let late = heap_moves who index None rest in
      ⊎_elim
      (λ (here : index ≡ slot).
      let adds = adds_given who slot (Heap heap pen) slots is in
      let history : heap.history ≡ history_of (slots.value index) ++ adds.own =
      adds.history ∙ ap (λ (n : ℕ). history_of (slots.value n) ++ adds.own) (sym here) in
      let own : own_in taken (Gave slot (Heap heap pen) ∷ rest) ≡ adds.own ++ own_in None rest =
      ap (flat_map added_in)
      (cond-true (heap.plain.index == index) (hold_ended who taken heap ++ late) (heap_moves who index taken rest)
      (eq-eqb heap.plain.index index (its ∙ sym here)))
      ∙ (flat_map-append added_in (hold_ended who taken heap) late
      ∙ ap (λ (l : List Entry). l ++ flat_map added_in late) (ended_own slots slot heap pen taken adds.own is here has history)) in
      subst goes (sym own)
      (with_more who adds.own (own_in None rest) (history_of (slots.value index)) heap.history (history_of (end.value index)) adds.own history
      (entries_of-own who adds.count adds.own adds.numbered)
      (subst (λ (value : Kept). GoesOnWith who (own_in None rest) (history_of value) (history_of (end.value index)))
      (given_value slots who slot (Heap heap pen) here)
      (ends None (none_then next (given_word slots who slot (Heap heap pen) here))))))
      (λ (else : index ≢ slot).
      subst goes
      (sym (ap (flat_map added_in)
      (cond-false (heap.plain.index == index) (hold_ended who taken heap ++ late) (heap_moves who index taken rest)
      (ne_eqb heap.plain.index index (λ same. else (sym same ∙ its))))))
      (gave_past slots who slot (Heap heap pen) rest taken else ends has))
      (cases_eq index slot)

  own_goes : (slots : Slotted) (move : Move) (rest : List Move) → IsMove who move slots → Ends (slots_after who move slots) rest
      → Ends slots (move ∷ rest)
  own_goes slots (Took slot (Heap heap pen)) rest is ends = took_heap slots slot heap pen rest is ends
  own_goes slots (Took slot (Segments segs)) rest is ends = λ taken has.
      let last = (good_taken who slot (Segments segs) slots is).0 in
      took_past slots who slot (Segments segs) rest taken (λ same. omega (arith, same, last, low)) ends has
  own_goes slots (Took slot (Names names)) rest is ends = λ taken has.
      let last = (good_taken who slot (Names names) slots is).0 in
      took_past slots who slot (Names names) rest taken (λ same. omega (arith, same, last, low)) ends has
  own_goes slots (Gave slot (Heap heap pen)) rest is ends = gave_heap slots slot heap pen rest is ends
  own_goes slots (Gave slot (Segments segs)) rest is ends = λ taken has.
      let last = (good_given who slot (Segments segs) slots is).0 in
      gave_past slots who slot (Segments segs) rest taken (λ same. omega (arith, same, last, low)) ends has
  own_goes slots (Gave slot (Names names)) rest is ends = λ taken has.
      let last = (good_given who slot (Names names) slots is).0 in
      gave_past slots who slot (Names names) rest taken (λ same. omega (arith, same, last, low)) ends has

  ends_by : (moves : List (ℕ × Move)) (slots : Slotted) → Replays slots moves end → Ends slots (values_of who moves)
  ends_by [] slots alike = λ taken has.
      with_none who (history_of (slots.value index)) (history_of (end.value index)) (ap history_of (alike.value index (omega (arith, low))))
  ends_by ((w, move) ∷ moves) slots replay =
      let on = ends_by moves (slots_after w move slots) replay.1 in
      ⊎_elim
      (λ (same : w ≡ who).
      subst (Ends slots) (sym (ap (λ (w : ℕ). values_of who ((w, move) ∷ moves)) same ∙ own_first who move moves))
      (own_goes slots move (values_of who moves) (subst (λ (w : ℕ). IsMove w move slots) same replay.0)
      (subst (λ (w : ℕ). Ends (slots_after w move slots) (values_of who moves)) same on)))
      (λ (apart : w ≢ who).
      subst (Ends slots) (sym (other_first w who move moves (λ same. apart (sym same))))
      (other_goes slots w move (values_of who moves) apart replay.0 on))
      (cases_eq w who)

  -- from slots of which that one is free
  pub goes_from : (moves : List (ℕ × Move)) (slots : Slotted) (own : List Move) → Replays slots moves end → slots.word index ≡ 0
      → values_of who moves ≡ own
      → GoesOnWith who (own_in None own) (history_of (slots.value index)) (history_of (end.value index))
  goes_from moves slots own replay free is =
      subst (λ (l : List Move). GoesOnWith who (own_in None l) (history_of (slots.value index)) (history_of (end.value index))) is
      (ends_by moves slots replay None (none_then slots free))

  -- and from slots of which it has that one in hand
  pub goes_held : (moves : List (ℕ × Move)) (slots : Slotted) (own : List Move) (heap : HeapView) → Replays slots moves end
      → slots.word index ≡ who + 1 → history_of (slots.value index) ≡ heap.history → values_of who moves ≡ own
      → GoesOnWith who (own_in (Some heap) own) (history_of (slots.value index)) (history_of (end.value index))
  goes_held moves slots own heap replay held is_heap is =
      subst (λ (l : List Move). GoesOnWith who (own_in (Some heap) l) (history_of (slots.value index)) (history_of (end.value index))) is
      (ends_by moves slots replay (Some heap) (held, is_heap))

  -- THE SLOT HAS A HEAP ALL ALONG

  good_kind : (word : ℕ → ℕ) (slot : ℕ) (kept : Kept) → IsGoodThen word slot kept → index ≡ slot → IsHeapKept kept
  good_kind word slot (Heap heap pen) good here = tt
  good_kind word slot (Segments segs) good here = let last = good.0 in absurd (omega (arith, here, last, low))
  good_kind word slot (Names names) good here = let last = good.0 in absurd (omega (arith, here, last, low))

  given_kind : (slots : Slotted) (w slot : ℕ) (kept : Kept) → IsMove w (Gave slot kept) slots → IsHeapKept (slots.value index)
      → IsHeapKept ((slots_after w (Gave slot kept) slots).value index)
  given_kind slots w slot kept is kind =
      ⊎_elim
      (λ (here : index ≡ slot).
      subst IsHeapKept (sym (given_value slots w slot kept here)) (good_kind slots.word slot kept (good_given w slot kept slots is) here))
      (λ (else : index ≢ slot).
      subst IsHeapKept (sym (cond-false (eqb index slot) kept (slots.value index) (ne_eqb index slot else))) kind)
      (cases_eq index slot)

  pub kind_by : (moves : List (ℕ × Move)) (slots : Slotted) → Replays slots moves end → IsHeapKept (slots.value index)
      → IsHeapKept (end.value index)
  kind_by [] slots alike kind = subst IsHeapKept (sym (alike.value index (omega (arith, low)))) kind
  kind_by ((w, Took slot kept) ∷ moves) slots replay kind = kind_by moves (slots_after w (Took slot kept) slots) replay.1 kind
  kind_by ((w, Gave slot kept) ∷ moves) slots replay kind =
      kind_by moves (slots_after w (Gave slot kept) slots) replay.1 (given_kind slots w slot kept replay.0 kind)
