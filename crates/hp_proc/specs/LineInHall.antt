-- A participant that does a line in a hall: the rule "Lines" of docs/PARTICIPANTS.md.
use Rattle.std.specs.Prelude.{◌≡◌, ◌≢◌, ◌⊎◌, ℕ, ◌+◌, ◌<◌, ◌≤◌, ◌^◌, Bool, true, false, List, [], ◌∷◌, ◌++◌, Contains, map, Option, Some, None, ⊤}
use Rattle.std.specs.List.{All, find}
use Rattle.std.specs.Option.{option_map, option_to_list}
use Rattle.hp_base.specs.declared.chunk.Chunk.{Chunk}
use Rattle.hp_base.specs.declared.limits.TheConstants.{MAX_HEAPS}
use Rattle.hp_base.specs.declared.row.Row.{Row}
use Rattle.hp_hall.specs.Giving.{IsGiveOf}
use Rattle.hp_hall.specs.HallState.{Did, HallState, HasMapped, IsLater, OthersStay, SlotsStay, known_to}
use Rattle.hp_hall.specs.Holding.{IsPartBeside}
use Rattle.hp_hall.specs.Mail.{Gives, MailStep, Takes}
use Rattle.hp_hall.specs.Naming.{marked_by}
use Rattle.hp_hall.specs.Own.{rows_known}
use Rattle.hp_hall.specs.Telling.{has_names}
use Rattle.hp_hall.specs.Values.{HasNames, IsSoundKept}
use Rattle.hp_hall.specs.declared.kept.Kept.{Kept}
use Rattle.hp_hall.specs.declared.kept.Kept.TheVariants.{Heap, Names}
use Rattle.hp_hall.specs.declared.slot.TheConstants.{NAMES_SLOT}
use Rattle.hp_heap.specs.History.{HeapView}
use Rattle.hp_heap.specs.PlainHeap.{PlainHeap}
use Rattle.hp_heap.specs.declared.entry.Entry.{Entry}
use Rattle.hp_maps.specs.Chunks.{rows_of_chunk}
use Rattle.hp_script.specs.declared.answer.Answer.{Answer}
use Rattle.hp_script.specs.declared.answer.Answer.TheVariants.{Address}
use Rattle.hp_script.specs.Part.{Part}
use Rattle.hp_script.specs.declared.line.Act.{Act}
use Rattle.hp_script.specs.declared.line.Line.{Line}
use Rattle.hp_script.specs.declared.options.Options.{Options}
use Rattle.hp_script.specs.declared.options.SocketChoice.{SocketChoice}
use Rattle.hp_proc.specs.Acting.{Acts}
use Rattle.hp_proc.specs.Awaiting.{MayAwait}
use Rattle.hp_proc.specs.Doing.{Doing}
use Rattle.hp_proc.specs.Doing.Done.{HeapSeen, NamesRead}
use Rattle.hp_proc.specs.ExternalLines.{seeing_heap}
use Rattle.hp_proc.specs.Halting.{Halts, HaltsLine}
use Rattle.hp_proc.specs.Handing.{shared_of}
use Rattle.hp_proc.specs.Heaps.{has_name, heaps_for, socket_heaps, sockets_of}
use Rattle.hp_proc.specs.Contexts.{IsPlaceOf}
use Rattle.hp_proc.specs.Courses.{heap_of_element}
use Rattle.hp_proc.specs.Lines.{Maker, is_own_maker, reading_names}
use Rattle.hp_proc.specs.NamesOfLines.{steps_of_names}
use Rattle.hp_proc.specs.OwnChunks.{AreMarkedAs}
use Rattle.hp_proc.specs.PlaceLists.{place_named}
use Rattle.hp_proc.specs.declared.searched_heap.SearchedHeap.{SearchedHeap}
use Rattle.hp_proc.specs.ParticipantView.{ParticipantView, with_calls}
use Rattle.hp_proc.specs.Progress.{AreSettled, Does, DoesApart, DoesLine, DoesOnce, IsInHand, IsTakenWith, MayComeAndGo, MayDo, Moment, in_hand, moment_of}
use Rattle.hp_proc.specs.SharedNames.{SharedNames, directory_in, heaps_in}
use Rattle.hp_serve.specs.InHall.{CanServe, IsTiedIn, RemainsIn, marked_in}
use Rattle.hp_serve.specs.Party.{IsSameParty, Party}
use Rattle.hp_serve.specs.SegmentSlot.{MayHold}
use Rattle.hp_stats.specs.StatViews.{PenView}
use Rattle.hp_zone.specs.declared.names.Names.{Names as NamesView}

-- a moment of its line, and one at which it has a heap in hand
abbrev pub moment : ℕ → ParticipantView → HallState → Moment
moment me doer state = moment_of doer (state.part me) (state.seen me) (state.heard me)

abbrev pub moment_with : HeapView → ℕ → ParticipantView → HallState → Moment
moment_with heap me doer state = in_hand heap (moment me doer state)

-- the steps that it made
abbrev pub did_in : ℕ → HallState → HallState → List MailStep → Type 0
did_in me old new steps = Did me steps old new

-- what it did of a line from no heap in hand to none, in which it held these heaps, one after another; or some heaps, none of them twice;
-- and what it did with a heap in hand
abbrev pub DoesHere : List ℕ → ℕ → ParticipantView → ParticipantView → HallState → HallState → Doing → Doing → Type 0
DoesHere held me old new from to doing rest = Does held from.count (did_in me from to) doing rest (moment me old from) (moment me new to)

abbrev pub DoesOnceHere : ℕ → ParticipantView → ParticipantView → HallState → HallState → Doing → Doing → Type 0
DoesOnceHere me old new from to doing rest = DoesOnce from.count (did_in me from to) doing rest (moment me old from) (moment me new to)

abbrev pub DoesApartHere : ℕ → ParticipantView → ParticipantView → HallState → HallState → Doing → Doing → Type 0
DoesApartHere me old new from to doing rest = DoesApart from.count (did_in me from to) doing rest (moment me old from) (moment me new to)

abbrev pub DoesHeld : ℕ → ParticipantView → ParticipantView → HeapView → HeapView → HallState → HallState → Doing → Doing → Type 0
DoesHeld me old new before behind from to doing rest =
    Does [] from.count (did_in me from to) doing rest (moment_with before me old from) (moment_with behind me new to)

-- it took the heap of that index, which was handed over with its history, and took notice of nothing else
pub record SeesHeap (index me : ℕ) (old new : ParticipantView) (heap : HeapView) (from to : HallState) (goes : PlainHeap → Doing) : Type 0 where
  pub does : Does (index ∷ []) from.count (did_in me from to) (seeing_heap index goes) (goes heap.plain) (moment me old from) (moment_with heap me new to)
  pub history : List Entry
  pub alone : does.trace ≡ HeapSeen index history ∷ []

abbrev pub DoesLineHere : ℕ → ParticipantView → ParticipantView → HallState → HallState → Line → Answer → Type 0
DoesLineHere me old new from to line given = DoesLine from.count (did_in me from to) line given (moment me old from) (moment me new to)

-- and what it did of a line that ends without an answer, where it took a front of these heaps into its hand; and with a heap in hand
abbrev pub HaltsHere : List ℕ → ℕ → ParticipantView → ParticipantView → HallState → HallState → Doing → Type 0
HaltsHere heaps me old new from to doing = Halts heaps from.count (did_in me from to) doing (moment me old from) (moment me new to)

abbrev pub HaltsHeld : ℕ → ParticipantView → ParticipantView → HeapView → HeapView → HallState → HallState → Doing → Type 0
HaltsHeld me old new before behind from to doing =
    Halts [] from.count (did_in me from to) doing (moment_with before me old from) (moment_with behind me new to)

abbrev pub HaltsLineHere : ℕ → ParticipantView → ParticipantView → HallState → HallState → Line → Type 0
HaltsLineHere me old new from to line = HaltsLine from.count (did_in me from to) line (moment me old from) (moment me new to)

-- it holds no slot and may take each, the hall takes its calls, and its table is tied
pub record IsIdleIn (me : ℕ) (party : Party) (state : HallState) : Type 0 where
  pub serves : state.serves me
  pub declared : me < state.count
  pub free : (number : ℕ) → state.taken number ≡ None
  pub home : (number : ℕ) → number ≤ NAMES_SLOT → state.may_take number
  pub tied : IsTiedIn me party state

-- a participant is idle in the hall and may do its line; it is in the roster where its lines left it attached, the names that it sees opened with
-- the heaps of the pools' sockets, and what it notes to be attached are the chunks that have its mark, heap by heap
pub record IsReadyIn (me : ℕ) (doer : ParticipantView) (state : HallState) : Type 0 where
  pub idle : IsIdleIn me doer.party state
  pub ready : MayDo (moment me doer state)
  pub attached : state.joined me ≡ doer.context.standing.attached
  pub named : (state.named me).sockets ≡ sockets_of doer.context.pools
  pub chunks : (heap : ℕ) → AreMarkedAs heap (marked_in me state heap) doer.context.standing.chunks

-- it is the same one, and ready again: it holds no heap and no slot, and its asks are settled, whatever became of its line
pub record IsReadyAgain (me : ℕ) (old new : ParticipantView) (state : HallState) : Type 0 where
  pub same : IsSameParty old.party new.party
  pub ready : IsReadyIn me new state

-- a participant is ready again, and what it knows is as it was but for the number of its calls
pub record HasCalled (me : ℕ) (old new : ParticipantView) (state : HallState) : Type 0 where
  pub again : IsReadyAgain me old new state
  pub context : new.context ≡ with_calls new.context.calls old.context

-- it holds no slot but that one at most, and may take each other
pub record AreFreeBut (slot : ℕ) (state : HallState) : Type 0 where
  pub taken : (number : ℕ) → number ≢ slot → state.taken number ≡ None
  pub home : (number : ℕ) → number ≤ NAMES_SLOT → number ≢ slot → state.may_take number

-- the names' slot stays as it was: out with its value, or free
pub record NamesStay (old new : HallState) : Type 0 where
  pub taken : new.taken NAMES_SLOT ≡ old.taken NAMES_SLOT
  pub home : old.may_take NAMES_SLOT → new.may_take NAMES_SLOT

-- what a participant did was beside the names: their slot stays as it was, and by its steps it has them in hand, or has not, as before
pub record IsBesideTheNames (me : ℕ) (old new : HallState) : Type 0 where
  pub slot : NamesStay old new
  pub told : has_names (new.done me) ≡ has_names (old.done me)

-- it holds no slot but that one, beside the names at most, and may take each other; it did nothing with the names
pub record AreFreeBesideNames (slot me : ℕ) (old new : HallState) : Type 0 where
  pub taken : (number : ℕ) → number ≢ slot → number ≢ NAMES_SLOT → new.taken number ≡ None
  pub home : (number : ℕ) → number < NAMES_SLOT → number ≢ slot → new.may_take number
  pub names : IsBesideTheNames me old new

-- it may give a heap back as far as the names go: they are in nobody's hand that its hall shows, or in its own, as its steps tell
abbrev pub MayGiveBeside : ℕ → HallState → Type 0
MayGiveBeside me state = (state.taken NAMES_SLOT ≡ None) ⊎ (has_names (state.done me) ≡ true)

-- it has the names in hand: by its steps, and their value is out
pub record HasNamesOut (me : ℕ) (state : HallState) : Type 0 where
  pub told : has_names (state.done me) ≡ true
  pub out : state.taken NAMES_SLOT ≢ None

-- the slot is free: it is not out, and may be taken
pub record IsFreeAt (slot : ℕ) (state : HallState) : Type 0 where
  pub taken : state.taken slot ≡ None
  pub home : state.may_take slot

-- it may attach or detach: it may take the segment value, its table is tied, and it is in the roster where its lines left it attached
pub record MayChangeRoster (me : ℕ) (doer : ParticipantView) (state : HallState) : Type 0 where
  pub may : MayHold me state
  pub tied : IsTiedIn me doer.party state
  pub attached : state.joined me ≡ doer.context.standing.attached

-- a line may be done by the participant with that number: it does not come or go where it is the primary, and what it awaits comes
abbrev pub MayDoLine : ℕ → ℕ → Act → HallState → Type 0
MayDoLine who scale deed state = MayComeAndGo who deed × MayAwait scale deed state

-- it attached or detached: it is the same one of the same workload, its table is tied, it is in the roster where it notes that it is
-- attached, the slots stay, nobody else did anything, and what it notes of chunks is what is marked, where it was so
pub record ChangesRoster (me : ℕ) (old new : ParticipantView) (from to : HallState) : Type 0 where
  pub same : IsSameParty old.party new.party
  pub tied : IsTiedIn me new.party to
  pub attached : to.joined me ≡ new.context.standing.attached
  pub pools : new.context.pools ≡ old.context.pools
  pub chunks : ((heap : ℕ) → AreMarkedAs heap (marked_in me from heap) old.context.standing.chunks) → (heap : ℕ)
      → AreMarkedAs heap (marked_in me to heap) new.context.standing.chunks
  pub slots : SlotsStay from to
  pub others : OthersStay me from to

-- it may detach: it may take the segment value, its table is tied, it is in the roster where its lines left it attached, what it notes to be attached
-- are the chunks that have its mark; and where there are some, it is ready to take their heaps
pub record MayDetach (me : ℕ) (doer : ParticipantView) (state : HallState) : Type 0 where
  pub may : MayChangeRoster me doer state
  pub chunks : (heap : ℕ) → AreMarkedAs heap (marked_in me state heap) doer.context.standing.chunks
  pub ready : (doer.context.standing.chunks ≡ []) ⊎ IsReadyIn me doer state

-- it detached, or stopped, and did nothing else: it has acknowledged as many records as before, and is ready as it was
pub record LeavesAlone (me : ℕ) (old new : ParticipantView) (from to : HallState) : Type 0 where
  pub changes : ChangesRoster me old new from to
  pub own : to.own me ≡ from.own me
  pub ready : MayDo (moment me old from) → MayDo (moment me new to)

-- it has a heap in hand, and may do something with it: it can serve, its asks are settled, it is in the roster where its lines left it
-- attached, its own marks there are as it gave them back last, and in all heaps they are what it notes to be attached; the names that it sees
-- opened with the heaps of the pools' sockets, and where it is in the roster its own table has the heap's pages
pub record HoldsIn (me : ℕ) (doer : ParticipantView) (heap : HeapView) (state : HallState) : Type 0 where
  pub can : CanServe me doer.party state
  pub marks : marked_by me heap.plain ≡ marked_in me state heap.plain.index
  pub chunks : (index : ℕ) → AreMarkedAs index (marked_in me state index) doer.context.standing.chunks
  pub in_hand : IsInHand state.taken (moment me doer state) heap
  pub settled : AreSettled (moment me doer state)
  pub attached : state.joined me ≡ doer.context.standing.attached
  pub named : (state.named me).sockets ≡ sockets_of doer.context.pools
  pub mapped : HasMapped me state

-- a heap in hand is as it was taken, but for its room for calls
pub record IsAsTaken (taken : ℕ → Option Kept) (heap : HeapView) : Type 0 where
  pub was : HeapView
  pub pen : PenView
  pub out : taken heap.plain.index ≡ Some (Heap was pen)
  pub same : was.plain ≡ heap.plain
  pub left : was.history ≡ heap.history

-- the heap of that index is the one that it has in hand, as it was taken, with the pen that it has taken with it
pub record HoldsHeap (slot me : ℕ) (doer : ParticipantView) (heap : HeapView) (pen : PenView) (state : HallState) : Type 0 where
  pub holds : HoldsIn me doer heap state
  pub index : heap.plain.index ≡ slot
  pub taken_with : IsTakenWith state.taken heap.plain.index pen
  pub as_taken : IsAsTaken state.taken heap

-- a heap in hand has room for so many calls, and the numbers of its holder's calls have
pub record HasRoom (calls : ℕ) (heap : HeapView) (doer : ParticipantView) : Type 0 where
  pub spare : calls ≤ heap.spare
  pub counted : doer.context.calls + calls < 2 ^ 64

-- what it knows for the names stays: what they speak of, of each heap, and the external memory that is claimed; and by its steps it has them in
-- hand, or has not, as before
pub record KnowsAsBefore (me : ℕ) (old new : HallState) : Type 0 where
  pub naming : (heap : ℕ) → (new.part me heap).naming ≡ (old.part me heap).naming
  pub claims : (heap : ℕ) → (new.part me heap).claims ≡ (old.part me heap).claims
  pub told : has_names (new.done me) ≡ has_names (old.done me)

-- it did something with the heap in its hand: it has that heap in hand still, with its own marks, it is the same one, what it knows is as it was
-- but for the number of its calls, also for the names, its asks are settled, its table is tied and has the heap's pages, and the slots stay
pub record KeepsHeld (me : ℕ) (old new : ParticipantView) (before behind : HeapView) (from to : HallState) : Type 0 where
  pub in_hand : IsInHand to.taken (moment me new to) behind
  pub index : behind.plain.index ≡ before.plain.index
  pub its_socket : behind.plain.serves ≡ before.plain.serves
  pub marks : marked_by me behind.plain ≡ marked_by me before.plain
  pub context : new.context ≡ with_calls new.context.calls old.context
  pub settled : AreSettled (moment me new to)
  pub mapped : HasMapped me to
  pub knows : KnowsAsBefore me from to
  pub remains : RemainsIn me old.party new.party from to

-- what its own table is known by stays
pub record TableStays (me : ℕ) (old new : HallState) : Type 0 where
  pub joined : new.joined me ≡ old.joined me
  pub seen : new.seen me ≡ old.seen me
  pub own : new.own me ≡ old.own me

-- an address lies in one of these rows
pub record LiesIn (rows : List Row) (address : ℕ) : Type 0 where
  pub row : Row
  pub among : Contains rows row
  pub from : row.addr ≤ address
  pub below : address < row.addr + row.page

-- an address lies in a page of a chunk that has a participant's mark, in one of the board's heaps
pub record LiesInMarked (marked : ℕ → List Chunk) (address : ℕ) : Type 0 where
  pub heap : ℕ
  pub few : heap < MAX_HEAPS
  pub chunk : Chunk
  pub among : Contains (marked heap) chunk
  pub lies : LiesIn (rows_of_chunk chunk) address

-- where it is in the roster, an address that it answers lies in a row that the hall knows its table to have, or in a page of a chunk that it has
-- attached
abbrev pub IsKnownMapped : ℕ → HallState → Answer → Type 0
IsKnownMapped me state (Address address) =
    state.joined me ≡ true → LiesIn (rows_known (state.seen me) (state.own me)) address ⊎ LiesInMarked (marked_in me state) address
IsKnownMapped me state _ = ⊤

-- an address that it answers lies in a row of its own table
abbrev pub IsMapped : Party → Answer → Type 0
IsMapped party (Address address) = LiesIn party.maps.rows address
IsMapped party _ = ⊤

-- a participant is ready, but for a slot that it holds
pub record IsReadyBut (slot me : ℕ) (doer : ParticipantView) (state : HallState) : Type 0 where
  pub serves : state.serves me
  pub declared : me < state.count
  pub free : AreFreeBut slot state
  pub tied : IsTiedIn me doer.party state
  pub ready : MayDo (moment me doer state)
  pub attached : state.joined me ≡ doer.context.standing.attached
  pub named : (state.named me).sockets ≡ sockets_of doer.context.pools
  pub chunks : (heap : ℕ) → AreMarkedAs heap (marked_in me state heap) doer.context.standing.chunks

-- it was ready but for the names' slot, and is so again: it is the same one, what it knows is as it was but for the number of its calls, and it did
-- nothing with the names
pub record HasCalledBeside (me : ℕ) (old new : ParticipantView) (from to : HallState) : Type 0 where
  pub same : IsSameParty old.party new.party
  pub but : IsReadyBut NAMES_SLOT me new to
  pub context : new.context ≡ with_calls new.context.calls old.context
  pub names : IsBesideTheNames me from to

-- it has waited for the names, and has taken them: they are sound, those that it sees, and may be given back as they are
pub record HoldsNames (me : ℕ) (old new : ParticipantView) (names : NamesView) (from to : HallState) : Type 0 where
  pub same : IsSameParty old.party new.party
  pub context : new.context ≡ old.context
  pub sound : IsSoundKept (Names names)
  pub seen : HasNames (to.named me) (Names names)
  pub taken : to.taken NAMES_SLOT ≡ Some (Names names)
  pub gives : IsGiveOf (known_to me to) NAMES_SLOT (Names names)
  pub but : IsReadyBut NAMES_SLOT me new to
  pub beside : (heap : ℕ) → IsPartBeside (from.part me heap) (to.part me heap)
  pub asked : new.party.asked ≡ old.party.asked
  pub waited : List MailStep
  pub did : Did me (waited ++ Takes NAMES_SLOT (Names names) ∷ []) from to
  pub acts : Acts from.count None None [] old new [] waited
  pub later : IsLater from to

-- it read the names, and did nothing else
pub record ReadsNames (me : ℕ) (old new : ParticipantView) (names : NamesView) (from to : HallState) (goes : SharedNames → Doing) : Type 0 where
  pub does : DoesHere [] me old new from to (reading_names goes) (goes (shared_of names))
  pub trace : does.trace ≡ NamesRead (shared_of names) ∷ []
  pub steps : steps_of_names does.steps ≡ Takes NAMES_SLOT (Names names) ∷ Gives NAMES_SLOT (Names names) ∷ []

-- it has read the names under their slot, and gave them back as they were; by them the directory of heaps is what their changes leave, and each
-- heap that has a name there takes the pages of the socket that has its place, or nobody's
pub record HasRead (me : ℕ) (old new : ParticipantView) (names : NamesView) (from to : HallState) : Type 0 where
  pub sockets : names.heaps.sockets ≡ sockets_of old.context.pools
  pub leaves : names.heaps.plain ≡ directory_in old.context.pools (shared_of names)
  pub places : All (λ heap. IsPlaceOf old.context.pools (place_named heap)) (heaps_in names.heaps.plain)
  pub context : new.context ≡ old.context
  pub reads : (goes : SharedNames → Doing) → ReadsNames me old new names from to goes

-- and the text names that heap there, or none; or those are all heaps there
pub record HasReadNames (me : ℕ) (old new : ParticipantView) (text : List ℕ) (found : Option SearchedHeap) (from to : HallState) : Type 0 where
  pub names : NamesView
  pub read : HasRead me old new names from to
  pub found_is : found ≡ option_map place_named (find (has_name text) (heaps_in names.heaps.plain))

pub record HasReadAll (me : ℕ) (old new : ParticipantView) (found : List SearchedHeap) (from to : HallState) : Type 0 where
  pub names : NamesView
  pub read : HasRead me old new names from to
  pub found_are : found ≡ map place_named (heaps_in names.heaps.plain)

-- it knows which heaps its allocation tries, for which it read the names where a heap is named, and else nothing was done, so that all is the same
abbrev pub ChoosesBy : ℕ → ParticipantView → ParticipantView → Option Part → SocketChoice → List SearchedHeap → Type 0 → HallState → HallState
    → Type 0
ChoosesBy me old new (Some name) choice places same from to =
    (found : Option SearchedHeap) × (places ≡ option_to_list found) × HasReadNames me old new name.text found from to
ChoosesBy me old new None choice places same from to = (new ≡ old) × same
    × (places ≡ map place_named (heaps_for old.party.socket (socket_heaps old.context.pools) None choice))

abbrev pub ChoosesPlaces : ℕ → ParticipantView → ParticipantView → Options → List SearchedHeap → Type 0 → HallState → HallState → Type 0
ChoosesPlaces me old new options places same from to = ChoosesBy me old new options.heap options.socket places same from to

-- it stopped over that: it had read the names where a heap is named, and else nothing of its line was done
abbrev pub StopsChoosing : ℕ → ParticipantView → ParticipantView → Option Part → HallState → HallState → Type 0
StopsChoosing me old new (Some name) from to = (goes : SharedNames → Doing) → HaltsHere [] me old new from to (reading_names goes)
StopsChoosing me old new None from to = (doing : Doing) → HaltsHere [] me old new from to doing

-- it knows in which heaps it looks for what a line made: the one in which its own line put it, for which nothing was done, or, for which it read
-- the names, all that have a name
abbrev pub FindsBy : Bool → ℕ → ParticipantView → ParticipantView → Maker → List SearchedHeap → Type 0 → HallState → HallState → Type 0
FindsBy true me old new maker places same from to = (new ≡ old) × same
    × (places ≡ option_to_list (heap_of_element old.context.pools old.context.standing.elements (Some maker)))
    × All (IsPlaceOf old.context.pools) places
FindsBy false me old new maker places same from to = HasReadAll me old new places from to

abbrev pub FindsPlaces : ℕ → ParticipantView → ParticipantView → Maker → List SearchedHeap → Type 0 → HallState → HallState → Type 0
FindsPlaces me old new maker places same from to = FindsBy (is_own_maker me maker) me old new maker places same from to
