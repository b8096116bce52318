-- Histories of heaps, and what contracts see of a heap: the rule "History" of docs/HEAP.md.
use Rattle.std.specs.Prelude.{◌≡◌, ℕ, ◌+◌, ◌==◌, List, [], ◌∷◌, ◌++◌, ⊤}
use Rattle.std.specs.List.{fold, filter}
use Rattle.hp_base.specs.declared.tag.Caller.{Caller}
use Rattle.hp_heap.specs.declared.entry.Entry.{Entry}
use Rattle.hp_heap.specs.declared.entry.HeapCall.{HeapCall}
use Rattle.hp_heap.specs.declared.entry.HeapAnswer.{HeapAnswer}
use Rattle.hp_heap.specs.PlainHeap.{PlainHeap, opening_heap}
use Rattle.hp_heap.specs.Tiling.{IsTiled}
use Rattle.hp_heap.specs.Lists.{free_lists}
use Rattle.hp_heap.specs.Step.{after, answer_of}
use Rattle.hp_heap.specs.Allowed.{IsAllowed}

-- the heap after an entry
unfoldable pub after_entry : PlainHeap → Entry → PlainHeap
after_entry heap entry = after entry.caller.participant entry.call heap

-- the heap that the calls of a history leave, one after another
abbrev pub replay : PlainHeap → List Entry → PlainHeap
replay heap history = fold after_entry heap history

-- an entry is one of a call that was allowed, with the answer that it gives
pub record IsLegalEntry (heap : PlainHeap) (entry : Entry) : Type 0 where
  pub allowed : IsAllowed entry.caller.participant entry.call heap
  pub answered : entry.answer ≡ answer_of entry.caller.participant entry.call heap

-- each entry of a history is legal after the entries before it
abbrev pub IsLegal : PlainHeap → List Entry → Type 0
IsLegal heap [] = ⊤
IsLegal heap (entry ∷ entries) = IsLegalEntry heap entry × IsLegal (after_entry heap entry) entries

-- the entries of one participant, in their order
unfoldable pub entries_of : ℕ → List Entry → List Entry
entries_of participant history = filter (λ entry. entry.caller.participant == participant) history

-- the heap as it opened
abbrev pub opening_of : PlainHeap → PlainHeap
opening_of heap = opening_heap heap.index heap.serves

-- what contracts see of a heap: the plain heap, its thirteen free lists, its history, and how many calls it has room for
pub record HeapView : Type 0 where
  pub plain : PlainHeap
  pub lists : List (List ℕ)
  pub history : List Entry
  pub spare : ℕ

-- the heap is the one that its legal history leaves
pub record StandsFor (plain : PlainHeap) (history : List Entry) : Type 0 where
  pub legal : IsLegal (opening_of plain) history
  pub left : plain ≡ replay (opening_of plain) history

-- what holds of every heap: its elements tile its segments, its free lists are exact, and it stands for its history
pub record IsSound (heap : HeapView) : Type 0 where
  pub tiled : IsTiled heap.plain
  pub lists : heap.lists ≡ free_lists heap.plain
  pub stands : StandsFor heap.plain heap.history

-- a call with a caller, which was allowed: heap and answer are its step's, and it is one more entry and uses one of the
-- calls with room
pub record IsCall (caller : Caller) (call : HeapCall) (answer : HeapAnswer) (old new : HeapView) : Type 0 where
  pub allowed : IsAllowed caller.participant call old.plain
  pub heap : new.plain ≡ after caller.participant call old.plain
  pub answered : answer ≡ answer_of caller.participant call old.plain
  pub history : new.history ≡ old.history ++ record { caller = caller; call = call; answer = answer } ∷ []
  pub spare : new.spare + 1 ≡ old.spare
  pub lists : new.lists ≡ free_lists new.plain

-- all but the room for calls is as it was
pub record SameButSpare (old new : HeapView) : Type 0 where
  pub plain : new.plain ≡ old.plain
  pub lists : new.lists ≡ old.lists
  pub history : new.history ≡ old.history
