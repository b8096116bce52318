-- By the moves of a board no heap past the last one is taken, so no line calls one.
use Rattle.std.proofs.Common.{◌≡◌, ◌≢◌, ◌∙◌, ◌==◌, ℕ, ◌+◌, ◌<◌, ◌≤◌, Bool, true, false, cond, ne_eqb, List, [], ◌∷◌, ◌++◌, length, Some, None, ⊎_elim, refl, sym, ap, subst, arith}
use Rattle.std.specs.Prelude.{⊤, flat_map}
use Rattle.std.proofs.lemmas.Bool.{cases_eq, cond-false}
use Rattle.std.proofs.lemmas.Grind.{flat_map-append}
use Rattle.hp_base.specs.declared.limits.TheConstants.{MAX_HEAPS}
use Rattle.hp_board.specs.MovesKept.{IsMove, Replays, Slotted, slots_after}
use Rattle.hp_board.specs.Views.{values_of}
use Rattle.hp_board.specs.declared.view.Move.{Move}
use Rattle.hp_board.specs.declared.view.Move.TheVariants.{Gave, Took}
use Rattle.hp_chair.specs.Steps.{move_in, moves_in}
use Rattle.hp_hall.specs.Mail.{Fetches, Gives, MailStep, Notes, Posts, Takes}
use Rattle.hp_hall.specs.declared.kept.Kept.TheVariants.{Heap, Names, Segments}
use Rattle.hp_heap.specs.History.{HeapView}
use Rattle.hp_heap.specs.declared.entry.Entry.{Entry}
use Rattle.hp_proc.proofs.LawLemmas.{entries_go_on}
use Rattle.hp_proc.specs.Courses.{calls_in}
use Rattle.hp_proc.specs.Histories.{entries_for}
use Rattle.hp_proc.specs.LinesDone.{Course, trace_of}
use Rattle.hp_weave.specs.Holds.{Hold}
use Rattle.thm_run.proofs.LineSteps.LineMore.{calls_more}
use Rattle.thm_run.specs.OwnLines.{AddsByLines, WentByLines, added_in, heap_holds_from, hold_ended}
use Rattle.thm_run.specs.Seats.{Seat}
use Rattle.thm_moved.proofs.MovesHeld.{good_taken, other_first, own_first}
use Rattle.thm_moved.specs.Within.{CallsWithinByMoves}

-- each heap that is taken is one of a board
abbrev TakeBelow : List Move → Type 0
TakeBelow [] = ⊤
TakeBelow (Took slot (Heap heap pen) ∷ moves) = (heap.plain.index < MAX_HEAPS) × TakeBelow moves
TakeBelow (Took slot (Names names) ∷ moves) = TakeBelow moves
TakeBelow (Took slot (Segments segs) ∷ moves) = TakeBelow moves
TakeBelow (Gave slot kept ∷ moves) = TakeBelow moves

below_first : (who : ℕ) (move : Move) (slots : Slotted) (moves : List Move) → IsMove who move slots → TakeBelow moves
    → TakeBelow (move ∷ moves)
below_first who (Took slot (Heap heap pen)) slots moves is rest =
    let good = good_taken who slot (Heap heap pen) slots is in
    let below = good.0 in
    let its : heap.plain.index ≡ slot = good.1 in
    (omega (arith, below, its), rest)
below_first who (Took slot (Names names)) slots moves is rest = rest
below_first who (Took slot (Segments segs)) slots moves is rest = rest
below_first who (Gave slot kept) slots moves is rest = rest

take_below : (moves : List (ℕ × Move)) (slots end : Slotted) → Replays slots moves end → (who : ℕ) → TakeBelow (values_of who moves)
take_below [] slots end replay who = tt
take_below ((w, move) ∷ moves) slots end replay who =
    let rest = take_below moves (slots_after w move slots) end replay.1 who in
    ⊎_elim
    (λ (same : who ≡ w).
    subst TakeBelow (sym (ap (λ k. values_of k ((w, move) ∷ moves)) same ∙ own_first w move moves))
    (below_first w move slots (values_of w moves) replay.0 (subst (λ k. TakeBelow (values_of k moves)) same rest)))
    (λ (apart : who ≢ w). subst TakeBelow (sym (other_first w who move moves apart)) rest)
    (cases_eq who w)

-- of moves one after another
front_below : (first last : List Move) → TakeBelow (first ++ last) → TakeBelow first
front_below [] last below = tt
front_below (Took slot (Heap heap pen) ∷ first) last below = (below.0, front_below first last below.1)
front_below (Took slot (Names names) ∷ first) last below = front_below first last below
front_below (Took slot (Segments segs) ∷ first) last below = front_below first last below
front_below (Gave slot kept ∷ first) last below = front_below first last below

back_below : (first last : List Move) → TakeBelow (first ++ last) → TakeBelow last
back_below [] last below = below
back_below (Took slot (Heap heap pen) ∷ first) last below = back_below first last below.1
back_below (Took slot (Names names) ∷ first) last below = back_below first last below
back_below (Took slot (Segments segs) ∷ first) last below = back_below first last below
back_below (Gave slot kept ∷ first) last below = back_below first last below

module _ (who index : ℕ) (beyond : MAX_HEAPS ≤ index) where
  -- nothing was taken, so nothing is held
  either_none : (is : Bool) (heap : HeapView) (rest : List (Hold HeapView)) → rest ≡ []
      → cond is (hold_ended who None heap ++ rest) rest ≡ []
  either_none true heap rest none = none
  either_none false heap rest none = none

  none_held : (steps : List MailStep) → TakeBelow (moves_in steps) → heap_holds_from who index None steps ≡ []
  none_held [] below = refl
  none_held (Takes slot (Heap heap pen) ∷ steps) below =
      let least = below.0 in
      cond-false (heap.plain.index == index) (heap_holds_from who index (Some heap) steps) (heap_holds_from who index None steps)
      (ne_eqb heap.plain.index index (λ same. omega (arith, same, beyond, least)))
      ∙ none_held steps below.1
  none_held (Takes slot (Segments segs) ∷ steps) below = none_held steps below
  none_held (Takes slot (Names names) ∷ steps) below = none_held steps below
  none_held (Gives slot (Heap heap pen) ∷ steps) below =
      either_none (heap.plain.index == index) heap (heap_holds_from who index None steps) (none_held steps below)
  none_held (Gives slot (Segments segs) ∷ steps) below = none_held steps below
  none_held (Gives slot (Names names) ∷ steps) below = none_held steps below
  none_held (Posts to frame action posted ∷ steps) below = none_held steps below
  none_held (Fetches frame ∷ steps) below = none_held steps below
  none_held (Notes note ∷ steps) below = none_held steps below

  -- the moves of steps one after another
  both_moves : (before steps : List MailStep) → moves_in (before ++ steps) ≡ moves_in before ++ moves_in steps
  both_moves before steps = flat_map-append move_in before steps

  none_called : {count : ℕ} {first last : Seat} {courses : List Course} {steps : List MailStep}
      → (way : WentByLines count who first last courses steps) → AddsByLines way → TakeBelow (moves_in steps)
      → entries_for who index 1 (calls_in (trace_of courses)) ≡ []
  none_called (WentByLines.begins seat) adds below = refl
  none_called (WentByLines.beside first old new courses before steps went path same stays none) adds below =
      none_called went adds (front_below (moves_in before) (moves_in steps) (subst TakeBelow (both_moves before steps) below))
  none_called (WentByLines.does_line first old new courses course before steps went is) adds below =
      let split = subst TakeBelow (both_moves before steps) below in
      let earlier = none_called went adds.0 (front_below (moves_in before) (moves_in steps) split) in
      let its = adds.1 index in
      let here : entries_for who index (1 + length (calls_in (trace_of courses))) (calls_in course.trace) ≡ [] =
      sym its.are ∙ ap (flat_map added_in) (none_held steps (back_below (moves_in before) (moves_in steps) split)) in
      ap (entries_for who index 1) (calls_more courses course)
      ∙ (entries_go_on who index 1 (calls_in (trace_of courses)) (calls_in course.trace)
      ∙ (ap (λ (entries : List Entry).
      entries ++ entries_for who index (1 + length (calls_in (trace_of courses))) (calls_in course.trace)) earlier ∙ here))

pub calls_within : CallsWithinByMoves
calls_within moves first last count who begin end courses steps replay own way adds index beyond =
    none_called who index beyond way adds (subst TakeBelow own (take_below moves first last replay who))
