-- What the calls of a hall do: the rule "What a hall shows" of docs/HALLS.md.
use Rattle.std.specs.Prelude.{◌≡◌, ◌≢◌, ℕ, ◌≤◌, List, [], ◌∷◌, ◌++◌, Some, None, IsSome, length, sum_by}
use Rattle.std.specs.List.{AllByRecursion, range_with_len}
use Rattle.hp_heap.specs.declared.entry.Entry.{Entry}
use Rattle.hp_heap.specs.History.{HeapView}
use Rattle.hp_stats.specs.StatViews.{PenView}
use Rattle.hp_stats.specs.declared.stat_pair.StatPair.{StatPair}
use Rattle.hp_hall.specs.declared.kept.Kept.{Kept}
use Rattle.hp_hall.specs.declared.kept.Kept.TheVariants.{Heap, Names, Segments}
use Rattle.hp_hall.specs.declared.note.Note.{Note}
use Rattle.hp_hall.specs.declared.note.Note.TheVariants.{LoadedDone, Published, ReadStats, Stored}
use Rattle.hp_hall.specs.declared.slot.TheConstants.{NAMES_SLOT}
use Rattle.hp_hall.specs.Giving.{GivesHeap, Knows}
use Rattle.hp_hall.specs.HallState.{Did, HallState, HasMapped, IsLater, MineStay, OthersStay, PartsStay, SlotsStay, Stays}
use Rattle.hp_hall.specs.HeapPairs.{IsPenAfter, KeepsPen, pair_of}
use Rattle.hp_hall.specs.Holding.{AreApart, IsGivenAs, IsTakenAs, StandsFor, part_told}
use Rattle.hp_hall.specs.Mail.{Gives, IsAsPlanned, MailStep, Notes, Takes, counted_on, full_posts}
use Rattle.hp_hall.specs.Own.{Own}
use Rattle.hp_hall.specs.Values.{Fits, HasAsks, HasClaimed, HasEntries, HasLog, HasMarks, HasMember, HasNames, HasPairs, HasShown, IsSoundKept, SeesAsBefore, joined_after, pair_in}
use Rattle.hp_hall.specs.Views.{HeldHeap}

-- a participant has taken a value out of a slot: it is the slot's, and sound. A heap has the participant's entries, its marks on the chunks
-- that it knows and on no others, and what its holding names: the pages of its own segments, and the runs that it has claimed and given up;
-- it has claimed what was granted to the participant's ask for it; and what was published of it are its pairs. A segment value has the log and
-- the outcomes that were seen, has the participant in its roster as that knows, and has of the heaps held what was known. Names have the logs
-- that were seen. Where the participant is in the roster its own table has the pages of the heaps that it then holds.
pub record HasTaken (me slot : ℕ) (kept : Kept) (old new : HallState) : Type 0 where
  pub fits : Fits slot kept
  pub sound : IsSoundKept kept
  pub pairs : HasPairs kept
  pub entries : HasEntries me (old.part me) kept
  pub marks : HasMarks me (old.part me) kept
  pub log : HasLog (new.seen me) kept
  pub asks : HasAsks (new.heard me) kept
  pub names : HasNames (new.named me) kept
  pub roster : HasMember me (old.joined me) kept
  pub stands : StandsFor me (new.part me) kept
  pub claimed : HasClaimed (new.heard me) (new.part me) kept
  pub mapped : HasMapped me new
  pub part : IsTakenAs kept (old.part me) (new.part me)
  pub joined : new.joined me ≡ old.joined me
  pub own : new.own me ≡ old.own me
  pub lines : new.lines me ≡ old.lines me
  pub taken : new.taken slot ≡ Some kept
  pub did : Did me (Takes slot kept ∷ []) old new

-- the slot was held, and all is as it was; the lock word that was found is the number of a participant, and 1
pub record HasFoundHeld (me slot word : ℕ) (old new : HallState) : Type 0 where
  pub found : new.found slot word
  pub held : word ≢ 0
  pub declared : word ≤ new.count
  pub slots : SlotsStay old new
  pub mine : MineStay me old new
  pub did : Did me [] old new

-- a participant has given a value back to its slot, where it may be taken again: what the participant has seen is that of the value, it
-- has the heap no longer or knows what the segment value has for those that it holds, and it is in the roster as that says; of a heap it was
-- shown the statistics after all entries; and where it is in the roster its own table has the pages of the heaps that it still holds
pub record HasGiven (me slot : ℕ) (kept : Kept) (old new : HallState) : Type 0 where
  pub taken : new.taken slot ≡ None
  pub home : new.may_take slot
  pub part : IsGivenAs me kept (old.part me) (new.part me)
  pub joined : new.joined me ≡ joined_after me kept (old.joined me)
  pub own : new.own me ≡ old.own me
  pub lines : new.lines me ≡ old.lines me
  pub log : HasLog (new.seen me) kept
  pub sees : SeesAsBefore kept (old.seen me) (new.seen me)
  pub asks : HasAsks (new.heard me) kept
  pub names : HasNames (new.named me) kept
  pub shown : HasShown (new.shown me) kept
  pub mapped : HasMapped me new
  pub did : Did me (Gives slot kept ∷ []) old new

-- a participant's own part has come to this, by these steps of its own
pub record HasComeTo (me : ℕ) (part : Own) (steps : List MailStep) (old new : HallState) : Type 0 where
  pub own : new.own me ≡ part
  pub parts : PartsStay me old new
  pub slots : SlotsStay old new
  pub others : OthersStay me old new
  pub did : Did me steps old new

-- a participant may tell that so many of its lines are done: it has told no more before; and what they made is home, since it holds no heap
-- and the names are not out
pub record MayStore (me lines : ℕ) (state : HallState) : Type 0 where
  pub rises : state.lines me ≤ lines
  pub free : (heap : ℕ) → (state.part me heap).holding ≡ None
  pub names : state.taken NAMES_SLOT ≡ None

-- a participant has told that so many of its lines are done, and nothing else has changed
pub record HasStored (me lines : ℕ) (old new : HallState) : Type 0 where
  pub lines_are : new.lines me ≡ lines
  pub part : (heap : ℕ) → new.part me heap ≡ old.part me heap
  pub joined : new.joined me ≡ old.joined me
  pub own : new.own me ≡ old.own me
  pub slots : SlotsStay old new
  pub others : OthersStay me old new
  pub did : Did me (Notes (Stored lines) ∷ []) old new

-- a participant has looked up how many of its lines one has told to be done, which it knows from then on: no fewer than the hall knows of, and
-- of itself exactly those
pub record HasLoadedLines (me participant lines : ℕ) (old new : HallState) : Type 0 where
  pub known : old.lines participant ≤ lines
  pub noted : lines ≡ (new.noted me participant).lines
  pub mine : participant ≡ me → lines ≡ old.lines me
  pub did : Did me (Notes (LoadedDone participant lines) ∷ []) old new
  pub stays : Stays me old new

-- statistics of a heap may be published with its pen: the participant holds the heap of that index, and this one goes on from the one that was
-- taken, with no fewer entries than were told since; and the pen is still that of the heap, by which nothing but pairs of it was published
pub record IsPublishable (knows : Knows) (index : ℕ) (heap : HeapView) (pen : PenView) : Type 0 where
  pub taken : HeldHeap
  pub out : knows.taken index ≡ Some (Heap taken.heap taken.pen)
  pub held : IsSome (knows.part index).holding
  pub index_is : heap.plain.index ≡ index
  pub serves : heap.plain.serves ≡ taken.heap.plain.serves
  pub more : List Entry
  pub history : heap.history ≡ taken.heap.history ++ more
  pub told : (pair : StatPair) → (knows.part index).told ≡ Some pair → pair.entries ≤ length heap.history
  pub pen_is : KeepsPen taken.pen heap pen

abbrev pub MayPublish : Knows → ℕ → Kept → Type 0
MayPublish knows index (Heap heap pen) = IsPublishable knows index heap pen
MayPublish knows index (Segments segs) = ⊥
MayPublish knows index (Names names) = ⊥

-- a heap with its pen may be given once its pair is published: it may stand in place of the taken one, with no fewer entries than were told
-- since; and the pen is still that of the heap
pub record GivesOnceTold (knows : Knows) (index : ℕ) (given : HeldHeap) : Type 0 where
  pub taken : HeldHeap
  pub out : knows.taken index ≡ Some (Heap taken.heap taken.pen)
  pub index_is : given.heap.plain.index ≡ index
  pub gives : GivesHeap knows taken.heap given.heap
  pub told : (pair : StatPair) → (knows.part index).told ≡ Some pair → pair.entries ≤ length given.heap.history
  pub pen_is : KeepsPen taken.pen given.heap given.pen

-- a heap is still that with this pen after its pair was published, and the pen has published that pair at most besides
pub record IsHeapAfter (heap : HeapView) (pen : PenView) (after : Kept) : Type 0 where
  pub pen_after : PenView
  pub kept : after ≡ Heap heap pen_after
  pub goes : IsPenAfter (pair_of heap) pen pen_after

abbrev pub IsKeptAfter : Kept → Kept → Type 0
IsKeptAfter (Heap heap pen) after = IsHeapAfter heap pen after
IsKeptAfter (Segments segs) after = ⊥
IsKeptAfter (Names names) after = ⊥

-- a participant has published the pair of a heap that it holds, with the pen beside it: the pair is what it has told of the heap, and what it
-- was shown of it; and nothing else has changed
pub record HasPublished (me index : ℕ) (kept after : Kept) (old new : HallState) : Type 0 where
  pub kept_after : IsKeptAfter kept after
  pub told : new.part me index ≡ part_told (pair_in kept) (old.part me index)
  pub apart : AreApart index (old.part me) (new.part me)
  pub shown : (pair_in kept).entries ≤ new.shown me index
  pub joined : new.joined me ≡ old.joined me
  pub own : new.own me ≡ old.own me
  pub lines : new.lines me ≡ old.lines me
  pub seen : new.seen me ≡ old.seen me
  pub heard : new.heard me ≡ old.heard me
  pub slots : SlotsStay old new
  pub others : OthersStay me old new
  pub did : Did me (Notes (Published index (pair_in kept)) ∷ []) old new

-- a participant has read the newest pair of a heap: its count is not below that of any pair which the participant has published or read of
-- it before
pub record HasReadPair (me index : ℕ) (p : StatPair) (old new : HallState) : Type 0 where
  pub not_below : old.shown me index ≤ p.entries
  pub shown : new.shown me index ≡ p.entries
  pub did : Did me (Notes (ReadStats index p) ∷ []) old new
  pub stays : Stays me old new

-- a participant makes that note and does nothing else, while others may do what they do: slots and its parts stay, and the rest is later on
pub record Idles (me : ℕ) (note : Note) (old new : HallState) : Type 0 where
  pub slots : SlotsStay old new
  pub mine : MineStay me old new
  pub later : IsLater old new
  pub did : Did me (Notes note ∷ []) old new

-- from one state to a later one each participant made steps, and who is not declared none; of the posts among them each is lost exactly
-- where that is planned; and the count of full mailboxes went on by the posts of all that found one full
pub record HavePosted (old new : HallState) : Type 0 where
  pub steps : ℕ → List MailStep
  pub done : (who : ℕ) → new.done who ≡ old.done who ++ steps who
  pub undeclared : (who : ℕ) → old.count ≤ who → steps who ≡ []
  pub planned : (who : ℕ) → AllByRecursion IsAsPlanned (steps who)
  pub full_mailboxes : new.full_mailboxes ≡ counted_on (sum_by (λ who. full_posts (steps who)) (range_with_len 0 old.count)) old.full_mailboxes
