-- What a participant has in a heap: the rule "Holding" of docs/HALLS.md.
use Rattle.std.specs.Prelude.{◌≡◌, ◌≢◌, ◌⊎◌, ℕ, ◌<◌, Bool, true, ◌&&◌, ◌==◌, List, Contains, Option, Some, None, IsSome, ⊤}
use Rattle.std.specs.List.{list_any}
use Rattle.std.specs.Option.{option_map}
use Rattle.hp_heap.specs.History.{HeapView, entries_of}
use Rattle.hp_heap.specs.HistoryLaws.{runs_cut, runs_grown}
use Rattle.hp_heap.specs.PlainHeap.{HeapPage}
use Rattle.hp_heap.specs.declared.entry.Entry.{Entry}
use Rattle.hp_base.specs.declared.chunk.Chunk.{Chunk}
use Rattle.hp_base.specs.declared.limits.TheConstants.{MAX_HEAPS}
use Rattle.hp_base.specs.declared.row.Row.{Row}
use Rattle.hp_segs.specs.LaterSteps.{armed_ask}
use Rattle.hp_segs.specs.PendingRuns.{ArePending}
use Rattle.hp_segs.specs.SegsView.{SegsView}
use Rattle.hp_segs.specs.SettledAsks.{IsSettled}
use Rattle.hp_segs.specs.Standing.{Holding, IsArmed, standing_of}
use Rattle.hp_segs.specs.declared.ask.Ask.{Ask}
use Rattle.hp_segs.specs.declared.external_range.ExternalRange.{ExternalRange}
use Rattle.hp_segs.specs.declared.outcome.AskLog.{AskLog}
use Rattle.hp_segs.specs.declared.row_state.Segment.{Segment}
use Rattle.hp_hall.specs.Asks.{ClaimsGrants, IsKnownSettled}
use Rattle.hp_hall.specs.AgreedNames.{AreAgreedNames, chunk_memory}
use Rattle.hp_hall.specs.Naming.{Naming, marked_by, naming_of}
use Rattle.hp_hall.specs.declared.kept.Kept.{Kept}
use Rattle.hp_hall.specs.declared.kept.Kept.TheVariants.{Heap, Names, Segments}
use Rattle.hp_stats.specs.declared.stat_pair.StatPair.{StatPair}
use Rattle.hp_zone.specs.declared.names.Names.{Names as NamesView}

-- a participant's part in a heap: the entries that it made there, and the chunks that have its mark, both as the heap was given back last; the
-- socket whose pages the heap takes, settled when it opens; and while it holds the heap what the segment value has for it, and the pair that
-- it has published of the heap last since it took that. While the participant has the names in hand: what they speak of, of the heap as it was
-- given back last. Beside these, in each part alike, the ask with which the participant armed itself last, and, while it has the names in hand,
-- the external memory that is claimed by the segment value as it was given back last.
pub record HeapPart : Type 0 where
  pub entries : List Entry
  pub marked : List Chunk
  pub serves : Option ℕ
  pub holding : Option Holding
  pub told : Option StatPair
  pub naming : Option Naming
  pub armed : Option Ask
  pub claims : Option (List ExternalRange)

-- a page of a heap is the row's: it lies in the same slot, at the same address, with the same size and socket
abbrev pub is_page_of : Row → HeapPage → Bool
is_page_of row page = (page.list == row.list) && ((page.slot == row.slot) && ((page.addr == row.addr)
    && ((page.page == row.page) && (page.socket == row.socket))))

-- the pages of a heap are those of its own segments
pub record HasPages (pages : List HeapPage) (owned : List Segment) : Type 0 where
  pub owns : (page : HeapPage) → Contains pages page → list_any (λ segment. is_page_of segment.row page) owned ≡ true
  pub pages_of : (segment : Segment) → Contains owned segment → list_any (is_page_of segment.row) pages ≡ true

-- a heap has what a holding names: its pages are those of its own segments; and by its history the runs that came to it are those which it
-- has claimed, and the runs that were cut from it those which it gave up, each in order
pub record HasHolding (heap : HeapView) (holding : Holding) : Type 0 where
  pub pages : HasPages heap.plain.pages holding.owned
  pub grown : runs_grown heap.history ≡ holding.came
  pub cut : runs_cut heap.history ≡ holding.retired

-- a heap in hand has what its holding names
abbrev pub IsHeldWith : HeapView → Option Holding → Type 0
IsHeldWith heap None = ⊥
IsHeldWith heap (Some holding) = HasHolding heap holding

-- the ask with which a participant is armed, where it is for a heap, is settled, as the participant knows
abbrev pub IsSettledFor : ℕ → List AskLog → HeapPart → Type 0
IsSettledFor heap heard part = (ask : Ask) → part.armed ≡ Some ask → ask.heap ≡ heap → IsKnownSettled heard part.holding ask

-- what was granted to it, as far as that was heard, the heap has claimed
abbrev pub IsClaimedFor : ℕ → List AskLog → HeapPart → Type 0
IsClaimedFor heap heard part = (ask : Ask) → part.armed ≡ Some ask → ask.heap ≡ heap → ClaimsGrants heard part.holding ask

-- what a participant learns of a segment value: of each heap that it holds the value has what was known; it is armed with the ask with
-- which it armed itself last, and that is settled, or else it holds the ask's heap; the open growth and the kept asks are those of the
-- armed; runs that no heap has claimed are of armed asks, each alone for its heap, and the last one of that; the external memory that is
-- claimed is what is known of that, where the participant has the names in hand; and the memory of each chunk that has the participant's mark
-- is claimed, whoever has the names in hand, and is one of which they speak, as far as the participant knows what they say
pub record AreStanding (who : ℕ) (parts : ℕ → HeapPart) (segs : SegsView) : Type 0 where
  pub held : (heap : ℕ) (holding : Holding) → (parts heap).holding ≡ Some holding → holding ≡ standing_of heap segs
  pub armed : (heap : ℕ) → (parts heap).armed ≡ armed_ask segs who
  pub asking : (ask : Ask) → armed_ask segs who ≡ Some ask → IsSettled ask.from ask.number segs ⊎ IsSome (parts ask.heap).holding
  pub sound : IsArmed segs
  pub pending : ArePending segs
  pub claims : (heap : ℕ) (claims : List ExternalRange) → (parts heap).claims ≡ Some claims → segs.ranges ≡ claims
  pub marked : (heap : ℕ) (chunk : Chunk) → heap < MAX_HEAPS → Contains (parts heap).marked chunk → Contains segs.ranges (chunk_memory chunk)
  pub named : (heap : ℕ) (naming : Naming) (chunk : Chunk) → heap < MAX_HEAPS → (parts heap).naming ≡ Some naming
      → Contains (parts heap).marked chunk → Contains naming.chunks chunk

-- a heap in hand is as its holder's part says: it takes the pages of that socket, has what its holding names, and is to the names what is known
-- of it, where its holder has these in hand, and then the memory of its chunks is claimed
pub record IsAsPart (part : HeapPart) (heap : HeapView) : Type 0 where
  pub serves : heap.plain.serves ≡ part.serves
  pub held : IsHeldWith heap part.holding
  pub named : (naming : Naming) → part.naming ≡ Some naming → naming_of heap.plain ≡ naming
  pub claimed : (claims : List ExternalRange) (chunk : Chunk) → part.claims ≡ Some claims → Contains heap.plain.chunks chunk
      → Contains claims (chunk_memory chunk)

-- names agree with what a participant knows of all heaps and of the external memory that is claimed
pub record AgreeWith (parts : ℕ → HeapPart) (names : NamesView) : Type 0 where
  pub namings : ℕ → Naming
  pub claims : List ExternalRange
  pub known : (heap : ℕ) → heap < MAX_HEAPS → (parts heap).naming ≡ Some (namings heap)
  pub claimed : (heap : ℕ) → (parts heap).claims ≡ Some claims
  pub agreed : AreAgreedNames names namings claims

-- what a taker learns of a value
abbrev pub StandsFor : ℕ → (ℕ → HeapPart) → Kept → Type 0
StandsFor who parts (Heap heap pen) = IsAsPart (parts heap.plain.index) heap
StandsFor who parts (Segments segs) = AreStanding who parts segs
StandsFor who parts (Names names) = AgreeWith parts names

-- a take of a heap leaves the entries, the marks, the socket and the armed ask as they were, and nothing is published yet; what the heap then
-- holds, StandsFor says
pub record IsPartTaken (old new : HeapPart) : Type 0 where
  pub entries : new.entries ≡ old.entries
  pub marked : new.marked ≡ old.marked
  pub serves : new.serves ≡ old.serves
  pub untold : new.told ≡ None
  pub naming : new.naming ≡ old.naming
  pub armed : new.armed ≡ old.armed
  pub claims : new.claims ≡ old.claims

-- the parts in other heaps are as they were
abbrev pub AreApart : ℕ → (ℕ → HeapPart) → (ℕ → HeapPart) → Type 0
AreApart heap old new = (other : ℕ) → other ≢ heap → new other ≡ old other

-- a take or a give of the names leaves what a participant has in a heap, but for what it knows for the names
pub record IsPartBeside (old new : HeapPart) : Type 0 where
  pub entries : new.entries ≡ old.entries
  pub marked : new.marked ≡ old.marked
  pub serves : new.serves ≡ old.serves
  pub holding : new.holding ≡ old.holding
  pub told : new.told ≡ old.told
  pub armed : new.armed ≡ old.armed

-- what a take makes of the taker's parts: it holds the heap that it took
abbrev pub IsTakenAs : Kept → (ℕ → HeapPart) → (ℕ → HeapPart) → Type 0
IsTakenAs (Heap heap pen) old new =
    IsPartTaken (old heap.plain.index) (new heap.plain.index) × AreApart heap.plain.index old new
IsTakenAs (Segments segs) old new = (heap : ℕ) → new heap ≡ old heap
IsTakenAs (Names names) old new = (heap : ℕ) → IsPartBeside (old heap) (new heap)

-- a part after a give of the segment value: what that has for a heap that is held, and the ask with which the giver is armed
abbrev pub part_after : ℕ → SegsView → ℕ → HeapPart → HeapPart
part_after who segs heap part =
    record part {
      holding = option_map (λ holding. standing_of heap segs) part.holding;
      armed = armed_ask segs who;
      claims = option_map (λ claims. segs.ranges) part.claims;
    }

-- a part after a give of that heap: its entries are those of the heap, its chunks those that have the participant's mark there, and it is held
-- no longer; who has the names in hand knows what they speak of, of the heap
abbrev pub part_ended : ℕ → HeapView → HeapPart → HeapPart
part_ended who heap part = record part {
  entries = entries_of who heap.history;
  marked = marked_by who heap.plain;
  holding = None;
  told = None;
  naming = option_map (λ naming. naming_of heap.plain) part.naming;
}

-- a part after a pair was published of its heap
abbrev pub part_told : StatPair → HeapPart → HeapPart
part_told pair part = record part { told = Some pair }

-- a part after a give of the names: for these nothing is known any more
pub record IsPartUnnamed (old new : HeapPart) : Type 0 where
  pub beside : IsPartBeside old new
  pub naming : new.naming ≡ None
  pub claims : new.claims ≡ None

-- what a give makes of the giver's parts
abbrev pub IsGivenAs : ℕ → Kept → (ℕ → HeapPart) → (ℕ → HeapPart) → Type 0
IsGivenAs who (Heap heap pen) old new =
    (new heap.plain.index ≡ part_ended who heap (old heap.plain.index)) × AreApart heap.plain.index old new
IsGivenAs who (Segments segs) old new = (heap : ℕ) → new heap ≡ part_after who segs heap (old heap)
IsGivenAs who (Names names) old new = (heap : ℕ) → IsPartUnnamed (old heap) (new heap)
