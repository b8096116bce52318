-- A participant that has the names in hand, alone and beside a heap: the lock order of docs/PARTICIPANTS.md.
use Rattle.std.specs.Prelude.{◌≡◌, ℕ, ◌==◌, List, [], ◌∷◌, Ok, Some, None, true, if◌then◌else◌}
use Rattle.std.specs.Option.{option_map}
use Rattle.hp_hall.specs.Giving.{IsGiveOf}
use Rattle.hp_hall.specs.HallCalls.{HasGiven}
use Rattle.hp_hall.specs.HallState.{HallState, OthersStay, SlotsStayBut, known_to}
use Rattle.hp_hall.specs.Holding.{AgreeWith, HeapPart}
use Rattle.hp_hall.specs.Named.{GivesNames}
use Rattle.hp_hall.specs.Naming.{naming_of}
use Rattle.hp_hall.specs.Telling.{has_names}
use Rattle.hp_hall.specs.Values.{IsSoundKept}
use Rattle.hp_hall.specs.declared.kept.Kept.TheVariants.{Names}
use Rattle.hp_hall.specs.declared.slot.TheConstants.{NAMES_SLOT}
use Rattle.hp_heap.specs.History.{HeapView}
use Rattle.hp_heap.specs.declared.entry.Entry.{Entry}
use Rattle.hp_proc.specs.Doing.{Doing}
use Rattle.hp_proc.specs.ExternalAnswers.{IsHeapMeant}
use Rattle.hp_proc.specs.Heaps.{sockets_of}
use Rattle.hp_proc.specs.LineInHall.{DoesHeld, DoesHere, DoesOnceHere, HaltsHeld, HaltsHere, IsReadyBut, KeepsHeld}
use Rattle.hp_proc.specs.NamesOfLines.{ChangesNames}
use Rattle.hp_proc.specs.ParticipantView.{ParticipantView, with_calls}
use Rattle.hp_proc.specs.Progress.{AreOnce, with_hand}
use Rattle.hp_script.specs.declared.line.Act.{Act}
use Rattle.hp_serve.specs.Party.{IsSameParty}
use Rattle.hp_zone.specs.Directory.{PlainDirectory}
use Rattle.hp_zone.specs.declared.names.Names.{Names as NamesView}

-- parts with what the names speak of a heap in hand, as it is by now, where that is known
abbrev pub with_naming : HeapView → (ℕ → HeapPart) → ℕ → HeapPart
with_naming heap parts index =
    if index == heap.plain.index then record (parts index) { naming = option_map (λ naming. naming_of heap.plain) (parts index).naming } else parts index

-- its entries in the heaps, as it gave them back last
abbrev pub entries_in : ℕ → HallState → ℕ → List Entry
entries_in me state heap = (state.part me heap).entries

-- it has the names in hand, as they are by now: they were taken, as its steps tell, they are sound, they may be given in place of the taken ones,
-- since each memzone that came in lies where an allocation of its own is home, and all other slots are free; they opened with the heaps of the
-- pools' sockets
pub record IsReadyNamed (me : ℕ) (doer : ParticipantView) (names : NamesView) (state : HallState) : Type 0 where
  pub but : IsReadyBut NAMES_SLOT me doer state
  pub told : has_names (state.done me) ≡ true
  pub was : NamesView
  pub taken : state.taken NAMES_SLOT ≡ Some (Names was)
  pub sound : IsSoundKept (Names names)
  pub goes_on : GivesNames (entries_in me state) was names
  pub agrees : AgreeWith (state.part me) names
  pub sockets : names.heaps.sockets ≡ sockets_of doer.context.pools

-- its entries in the heaps, with those of the heap in its hand
abbrev pub entries_with : ℕ → HeapView → HallState → ℕ → List Entry
entries_with me heap state index = (with_hand me heap (state.part me) index).entries

-- beside a heap it has the names in hand, as they are by now; they agree but for what they say of that heap and of its memory
pub record HasNamesBeside (me : ℕ) (doer : ParticipantView) (names : NamesView) (heap : HeapView) (state : HallState) : Type 0 where
  pub told : has_names (state.done me) ≡ true
  pub was : NamesView
  pub taken : state.taken NAMES_SLOT ≡ Some (Names was)
  pub sound : IsSoundKept (Names names)
  pub goes_on : GivesNames (entries_with me heap state) was names
  pub agrees : AgreeWith (with_naming heap (state.part me)) names
  pub sockets : names.heaps.sockets ≡ sockets_of doer.context.pools

-- names that agreed with what it knew agree with what it knows
abbrev pub AgreesStill : ℕ → HallState → HallState → Type 0
AgreesStill me old new = (names : NamesView) → AgreeWith (old.part me) names → AgreeWith (new.part me) names

-- it took a heap: names that agreed with what it knew agree with what it knows, with that heap in its hand
abbrev pub TakesAgreed : ℕ → HeapView → HallState → HallState → Type 0
TakesAgreed me heap old new = (names : NamesView) → AgreeWith (old.part me) names → AgreeWith (with_naming heap (new.part me)) names

-- it gave a heap back: names that agreed with what it knew, with the heap as it was in its hand, agree with what it knows then; and by its steps it
-- has the names in hand, or has not, as before
pub record KeepsAgreed (me : ℕ) (heap : HeapView) (old new : HallState) : Type 0 where
  pub agrees : (names : NamesView) → AgreeWith (with_naming heap (old.part me)) names → AgreeWith (new.part me) names
  pub told : has_names (new.done me) ≡ has_names (old.done me)

-- it has the names in hand, as they are by now, and is ready with them again: it is the same one, and what it knows is as it was but for the number
-- of its calls
pub record HasCalledNamed (me : ℕ) (old new : ParticipantView) (names : NamesView) (state : HallState) : Type 0 where
  pub same : IsSameParty old.party new.party
  pub ready : IsReadyNamed me new names state
  pub context : new.context ≡ with_calls new.context.calls old.context

-- it may give the names back: they agree with what it knows of all heaps and of the memory that is claimed
pub record MayGiveNames (me : ℕ) (doer : ParticipantView) (names : NamesView) (state : HallState) : Type 0 where
  pub serves : state.serves me
  pub gives : IsGiveOf (known_to me state) NAMES_SLOT (Names names)

-- it gave the names back, and nothing else changed
pub record GivesNamesBack (me : ℕ) (doer : ParticipantView) (names : NamesView) (old new : HallState) : Type 0 where
  pub given : HasGiven me NAMES_SLOT (Names names) old new
  pub slots : SlotsStayBut NAMES_SLOT old new
  pub others : OthersStay me old new

-- what it did with the names in hand, beside what it did else
pub record DoesNamed (held : List ℕ) (me : ℕ) (old new : ParticipantView) (before after : NamesView) (from to : HallState)
    (doing rest : Doing) : Type 0 where
  pub does : DoesHere held me old new from to doing rest
  pub names : ChangesNames before after does.trace

pub record DoesNamedOnce (me : ℕ) (old new : ParticipantView) (before after : NamesView) (from to : HallState) (doing rest : Doing)
    : Type 0 where
  pub does : DoesOnceHere me old new from to doing rest
  pub names : ChangesNames before after does.does.trace

pub record DoesNamedHeld (me : ℕ) (old new : ParticipantView) (before after : NamesView) (heap heap' : HeapView) (from to : HallState)
    (doing rest : Doing) : Type 0 where
  pub does : DoesHeld me old new heap heap' from to doing rest
  pub names : ChangesNames before after does.trace

-- and where it stops
pub record HaltsNamed (heaps : List ℕ) (me : ℕ) (old new : ParticipantView) (before after : NamesView) (from to : HallState) (doing : Doing)
    : Type 0 where
  pub halts : HaltsHere heaps me old new from to doing
  pub names : ChangesNames before after halts.trace

pub record HaltsNamedOnce (me : ℕ) (old new : ParticipantView) (before after : NamesView) (from to : HallState) (doing : Doing) : Type 0 where
  pub heaps : List ℕ
  pub once : AreOnce heaps
  pub halts : HaltsNamed heaps me old new before after from to doing

pub record HaltsNamedHeld (me : ℕ) (old new : ParticipantView) (before after : NamesView) (heap heap' : HeapView) (from to : HallState)
    (doing : Doing) : Type 0 where
  pub halts : HaltsHeld me old new heap heap' from to doing
  pub names : ChangesNames before after halts.trace

-- it did something with the names and a heap in hand, and has both in hand still; nobody else did anything
pub record KeepsNamed (me : ℕ) (old new : ParticipantView) (names : NamesView) (heap heap' : HeapView) (from to : HallState) : Type 0 where
  pub held : KeepsHeld me old new heap heap' from to
  pub beside : HasNamesBeside me new names heap' to
  pub others : OthersStay me from to

-- nothing changed
pub record StandsStill (old new : ParticipantView) (before after : NamesView) (heap heap' : HeapView) : Type 0 where
  pub doer : new ≡ old
  pub names : after ≡ before
  pub heap_is : heap' ≡ heap

-- the heap of that index is the one that a line on external heaps means
abbrev pub IsIndexMeant : Act → PlainDirectory → ℕ → Type 0
IsIndexMeant deed plain index = IsHeapMeant deed plain (Ok index)
