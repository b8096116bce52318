-- What may be given back in place of what was taken: the rule "Giving" of docs/HALLS.md.
use Rattle.std.specs.Prelude.{◌≡◌, ◌⊎◌, ℕ, ◌+◌, ◌<◌, Contains, List, [], ◌∷◌, ◌++◌, length, Bool, true, false, Option, Some, None, IsSome, sum_by, ⊤}
use Rattle.std.specs.List.{All, range_with_len}
use Rattle.hp_base.specs.declared.chunk.Chunk.{Chunk}
use Rattle.hp_base.specs.declared.limits.TheConstants.{MAX_HEAPS}
use Rattle.hp_heap.specs.declared.entry.Entry.{Entry}
use Rattle.hp_heap.specs.History.{HeapView}
use Rattle.hp_log.specs.declared.log_record.LogRecord.{LogRecord}
use Rattle.hp_segs.specs.SegsView.{SegsView}
use Rattle.hp_segs.specs.Standing.{Holding, IsArmed, standing_of}
use Rattle.hp_segs.specs.declared.external_range.ExternalRange.{ExternalRange}
use Rattle.hp_segs.specs.declared.outcome.AskLog.{AskLog}
use Rattle.hp_hall.specs.declared.kept.Kept.{Kept}
use Rattle.hp_hall.specs.declared.kept.Kept.TheVariants.{Heap}
use Rattle.hp_hall.specs.declared.slot.TheConstants.{SLOTS}
use Rattle.hp_hall.specs.AgreedNames.{chunk_memory}
use Rattle.hp_hall.specs.Asks.{Arms, OpensForArmed}
use Rattle.hp_hall.specs.HeapPairs.{KeepsPen, pair_of}
use Rattle.hp_hall.specs.Holding.{AgreeWith, HeapPart, IsHeldWith, IsSettledFor}
use Rattle.hp_hall.specs.Named.{GivesNames}
use Rattle.hp_hall.specs.Naming.{MarksStayBut, Naming, naming_of}
use Rattle.hp_hall.specs.SegsGives.{Giver, IsLogGive, IsOwnerGive, IsRangeGive, IsRosterGive}
use Rattle.hp_hall.specs.Views.{AreOfOneKind, HeldHeap}
use Rattle.hp_stats.specs.StatViews.{PenView}
use Rattle.hp_zone.specs.declared.names.Names.{Names as NamesView}

-- what a giver knows: its number among the participants, the values that it has taken, its part in each heap, its own number of records,
-- and that which it has acknowledged since it took the segment value, where it has; whether it has told since then that its table has no row;
-- whether it has the names in hand; the numbers that it has loaded of others, and what it has seen of the log and of the outcomes
pub record Knows : Type 0 where
  pub who : ℕ
  pub taken : ℕ → Option Kept
  pub part : ℕ → HeapPart
  pub number : ℕ
  pub acked : Option ℕ
  pub emptied : Bool
  pub naming : Bool
  pub noted : ℕ → ℕ
  pub seen : List LogRecord
  pub heard : List AskLog

-- how many entries it made in all heaps
abbrev pub entries_made : (ℕ → HeapPart) → ℕ
entries_made part = sum_by (λ heap. length (part heap).entries) (range_with_len 0 SLOTS)

-- entries are all of one participant, and numbered on from those that it made before
abbrev pub IsNumbered : ℕ → ℕ → List Entry → Type 0
IsNumbered who count [] = ⊤
IsNumbered who count (entry ∷ entries) =
    (entry.caller ≡ record { participant = who; number = count + 1 }) × IsNumbered who (count + 1) entries

-- a giver, as those who have a table see it
abbrev pub giver_of : Knows → Giver
giver_of knows = record { who = knows.who; number = knows.number; acked = knows.acked; emptied = knows.emptied; noted = knows.noted }

-- a heap may be given in place of the taken one: it opened as that did; its history is the taken one and entries of the giver alone,
-- numbered on from those that it had made in all heaps; it has the pages of the segments that the giver knows to be its own, and as its
-- growths and cuts the runs that the giver knows it to have claimed and given up, each in order; the giver's ask, where it armed one for the
-- heap, is settled; all that the names speak of is as it was taken, but where the giver has them in hand, and then the memory of each of its
-- chunks is claimed, as far as the giver knows; and nobody's marks on chunks but the giver's have changed
pub record GivesHeap (knows : Knows) (taken given : HeapView) : Type 0 where
  pub index : given.plain.index ≡ taken.plain.index
  pub serves : given.plain.serves ≡ taken.plain.serves
  pub own : List Entry
  pub history : given.history ≡ taken.history ++ own
  pub numbered : IsNumbered knows.who (entries_made knows.part) own
  pub held : IsHeldWith given (knows.part given.plain.index).holding
  pub settled : IsSettledFor given.plain.index knows.heard (knows.part given.plain.index)
  pub named : knows.naming ≡ false → naming_of given.plain ≡ naming_of taken.plain
  pub claimed : knows.naming ≡ true → (claims : List ExternalRange) (chunk : Chunk) → (knows.part given.plain.index).claims ≡ Some claims
      → Contains given.plain.chunks chunk → Contains claims (chunk_memory chunk)
  pub marks : MarksStayBut knows.who taken.plain given.plain

-- by the log: asks, growths and drops; who is armed anew is the giver, for a heap that it holds, once its ask of before is settled; and each
-- growth that is opened on the way, be it taken back there, is of the ask with which its participant was armed
pub record GivesLog (knows : Knows) (taken given : SegsView) : Type 0 where
  pub give : IsLogGive (giver_of knows) taken given
  pub arms : Arms knows.who (λ heap. IsSome (knows.part heap).holding) taken given
  pub opens : IsArmed taken → All (OpensForArmed taken) give.moved.calls

-- by ownership: segments come to heaps that the giver holds, or are given up by them; what the value has for other heaps stays
pub record GivesOwned (knows : Knows) (taken given : SegsView) : Type 0 where
  pub give : IsOwnerGive taken given
  pub others : (heap : ℕ) → (knows.part heap).holding ≡ None → standing_of heap given ≡ standing_of heap taken

-- a heap is in the giver's hand, and as it was taken nobody had a chunk attached that has this memory
pub record IsFreeInHand (memory : ExternalRange) (taken : Option Kept) (holding : Option Holding) : Type 0 where
  pub heap : HeapView
  pub pen : PenView
  pub out : taken ≡ Some (Heap heap pen)
  pub held : IsSome holding
  pub free : (chunk : Chunk) → Contains heap.plain.chunks chunk → chunk_memory chunk ≡ memory → chunk.attached ≡ 0

-- external memory may be released: each heap that has a chunk of it, by what the giver knows of all heaps, is in its hand, and nobody had that
-- chunk attached
abbrev pub MayRelease : Knows → ExternalRange → Type 0
MayRelease knows memory = (heap : ℕ) (naming : Naming) (chunk : Chunk) → heap < MAX_HEAPS → (knows.part heap).naming ≡ Some naming
    → Contains naming.chunks chunk → chunk_memory chunk ≡ memory → IsFreeInHand memory (knows.taken heap) (knows.part heap).holding

-- by external memory: its giver has the names in hand, which say the same of external memory once they are given; and what is claimed no
-- longer may be released
pub record GivesRanges (knows : Knows) (taken given : SegsView) : Type 0 where
  pub give : IsRangeGive taken given
  pub naming : knows.naming ≡ true
  pub released : (range : ExternalRange) → Contains taken.ranges range → Contains given.ranges range ⊎ MayRelease knows range

-- the forms of a give of the segment value, each with what its giver owes for heaps and for asks
pub data GivesForm (knows : Knows) (taken given : SegsView) : Type 0 where
  logs : GivesLog knows taken given → GivesForm knows taken given
  enrols : IsRosterGive (giver_of knows) taken given → GivesForm knows taken given
  owns : GivesOwned knows taken given → GivesForm knows taken given
  claims_ranges : GivesRanges knows taken given → GivesForm knows taken given

-- a segment value may be given in place of the taken one: its log begins with that one's, and it is of one of the forms
pub record GivesSegments (knows : Knows) (taken given : SegsView) : Type 0 where
  pub more : List LogRecord
  pub log : given.log ≡ taken.log ++ more
  pub form : GivesForm knows taken given

-- a heap may be given with a pen: the heap in place of the taken one; the giver has published the heap's pair as it gives it; and the pen is
-- that of the heap, by which nothing but pairs of it was published
pub record GivesHeld (knows : Knows) (taken given : HeldHeap) : Type 0 where
  pub heap : GivesHeap knows taken.heap given.heap
  pub told : (knows.part given.heap.plain.index).told ≡ Some (pair_of given.heap)
  pub pen : KeepsPen taken.pen given.heap given.pen

-- names may be given by who has them in hand: they go on from the taken ones, and agree with what the giver knows of the heaps and of the
-- external memory that is claimed
pub record GivesTheNames (knows : Knows) (taken given : NamesView) : Type 0 where
  pub naming : knows.naming ≡ true
  pub names : GivesNames (λ heap. (knows.part heap).entries) taken given
  pub agrees : AgreeWith knows.part given

-- a value may be given in place of the taken one, as one of the same kind
abbrev pub GivesKept : Knows → Kept → Kept → Type 0
GivesKept knows = AreOfOneKind (GivesHeld knows) (GivesSegments knows) (GivesTheNames knows)

abbrev pub GivesFor : Knows → Option Kept → Kept → Type 0
GivesFor knows None given = ⊥
GivesFor knows (Some taken) given = GivesKept knows taken given

-- a value may be given for a slot: the slot was taken, and the value may stand in place of the taken one
abbrev pub IsGiveOf : Knows → ℕ → Kept → Type 0
IsGiveOf knows slot given = GivesFor knows (knows.taken slot) given
