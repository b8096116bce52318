-- A hall of plain values, as contracts see it: the rule "What a hall shows" of docs/HALLS.md.
use Rattle.std.specs.Prelude.{◌≡◌, ℕ, ◌<◌, ◌≤◌, ◌⊎◌, Bool, true, false, ◌==◌, List, [], ◌++◌, length, Option, Some, None, unwrap_or, slice_get, slice_index_or, if◌then◌else◌}
use Rattle.std.specs.Option.{option_and_then, option_map, option_map_or}
use Rattle.hp_base.specs.declared.chunk.Chunk.{Chunk}
use Rattle.hp_base.specs.declared.limits.TheConstants.{MAX_HEAPS, MAX_PARTICIPANTS}
use Rattle.hp_frame.specs.declared.frame.Frame.{Frame}
use Rattle.hp_heap.specs.declared.entry.Entry.{Entry}
use Rattle.hp_heap.specs.History.{entries_of}
use Rattle.hp_log.specs.declared.log_record.LogRecord.{LogRecord}
use Rattle.hp_segs.specs.LaterSteps.{armed_ask}
use Rattle.hp_segs.specs.PendingRuns.{ArePending}
use Rattle.hp_segs.specs.SegsView.{SegsView, is_member}
use Rattle.hp_segs.specs.SettledAsks.{IsSettled}
use Rattle.hp_segs.specs.Sound.{IsSound}
use Rattle.hp_segs.specs.declared.ask.Ask.{Ask}
use Rattle.hp_segs.specs.declared.outcome.AskLog.{AskLog}
use Rattle.hp_hall.specs.declared.kept.Kept.{Kept}
use Rattle.hp_hall.specs.declared.kept.Kept.TheVariants.{Heap, Names, Segments}
use Rattle.hp_hall.specs.declared.slot.TheConstants.{NAMES_SLOT, SLOTS}
use Rattle.hp_hall.specs.HeapPairs.{pair_of}
use Rattle.hp_hall.specs.Holding.{HasHolding, HeapPart}
use Rattle.hp_segs.specs.Standing.{IsArmed, standing_of}
use Rattle.hp_hall.specs.Mail.{MailStep, steps_of}
use Rattle.hp_hall.specs.Own.{Own, after_ack}
use Rattle.hp_hall.specs.Named.{NamesSeen, seen_of_names}
use Rattle.hp_hall.specs.Values.{Fits, HasPairs, asks_of, chunks_of, history_of, log_of, marks_of}
use Rattle.hp_hall.specs.AgreedNames.{AreAgreedNames, AreClaimedOr}
use Rattle.hp_hall.specs.Naming.{Naming, naming_of}
use Rattle.hp_hall.specs.Telling.{has_names}
use Rattle.hp_heap.specs.PlainHeap.{opening_heap}
use Rattle.hp_zone.specs.declared.names.Names.{Names as NamesView}
use Rattle.hp_hall.specs.Views.{HeldHeap, held_of, names_of, segs_of}
use Rattle.hp_hall.specs.TakenIn.{AreTakenIn, IsOwnOf}
use Rattle.hp_stats.specs.Pairs.{no_pair}
use Rattle.hp_stats.specs.declared.stat_pair.StatPair.{StatPair}

-- a slot: its value, and who holds that, where it is out; while it is out, the value is the one that was taken, and beside it stands the pair
-- that the holder has published last of a heap
pub record SlotView : Type 0 where
  pub kept : Kept
  pub holder : Option ℕ
  pub told : Option StatPair

pub record HallView : Type 0 where
  -- the slots, by number
  pub slots : List SlotView
  -- the mailboxes, by participant
  pub boxes : List (List Frame)
  -- the own parts, by participant
  pub owns : List Own
  -- how many lines each participant has told to be done
  pub lines : List ℕ
  -- milliseconds
  pub clock : ℕ
  -- how often a mailbox was full
  pub full_mailboxes : ℕ
  -- all that was done: taken, given back, posted, fetched and noted, each step with the participant that made it
  pub mail : List (ℕ × MailStep)

abbrev pub slot_at : HallView → ℕ → Option SlotView
slot_at hall number = slice_get hall.slots number

-- the value that is out of a slot, as it was taken
abbrev pub taken_from : Option SlotView → Option Kept
taken_from None = None
taken_from (Some slot) = option_map (λ holder. slot.kept) slot.holder

-- the value of a slot is there
abbrev pub IsHome : Option SlotView → Type 0
IsHome None = ⊥
IsHome (Some slot) = slot.holder ≡ None

-- the history of a heap's slot, as far as it was given back
abbrev pub history_in : Option SlotView → List Entry
history_in None = []
history_in (Some slot) = history_of slot.kept

-- the chunks of a heap's slot that have a participant's mark, as far as it was given back
abbrev pub marks_in : ℕ → Option SlotView → List Chunk
marks_in who None = []
marks_in who (Some slot) = marks_of who slot.kept

-- the chunks of a slot's heap, as it was given back
abbrev pub chunks_in : Option SlotView → List Chunk
chunks_in None = []
chunks_in (Some slot) = chunks_of slot.kept

-- the socket whose pages a heap takes
abbrev pub serves_of : Kept → Option ℕ
serves_of (Heap heap pen) = heap.plain.serves
serves_of (Segments segs) = None
serves_of (Names names) = None

abbrev pub serves_in : Option SlotView → Option ℕ
serves_in None = None
serves_in (Some slot) = serves_of slot.kept

-- the log of the segment value's slot, as far as it was given back
abbrev pub log_in : Option SlotView → List LogRecord
log_in None = []
log_in (Some slot) = log_of slot.kept

-- the outcomes of the segment value's slot, as far as it was given back
abbrev pub asks_in : Option SlotView → List AskLog
asks_in None = []
asks_in (Some slot) = asks_of slot.kept

-- the segment value of its slot, at home or as it was taken
abbrev pub segs_in : Option SlotView → Option SegsView
segs_in None = None
segs_in (Some slot) = segs_of slot.kept

-- nothing was seen of names
abbrev pub no_names : NamesSeen
no_names = record { sockets = []; zones = []; heaps = [] }

-- what a value has of the names
abbrev pub names_seen : Kept → NamesSeen
names_seen (Heap heap pen) = no_names
names_seen (Segments segs) = no_names
names_seen (Names names) = seen_of_names names

-- the names of their slot, as far as they were given back
abbrev pub named_at : Option SlotView → NamesSeen
named_at None = no_names
named_at (Some slot) = names_seen slot.kept

-- the newest pair of a heap: the one that its holder has published last, or else that of the heap as it was given back
abbrev pub newest_by : Kept → Option StatPair → StatPair
newest_by (Heap heap pen) told = unwrap_or told (pair_of heap)
newest_by (Segments segs) told = no_pair
newest_by (Names names) told = no_pair

abbrev pub newest_of : SlotView → StatPair
newest_of slot = newest_by slot.kept slot.told

abbrev pub newest_in : Option SlotView → StatPair
newest_in None = no_pair
newest_in (Some slot) = newest_of slot

abbrev pub told_in : Option SlotView → Option StatPair
told_in None = None
told_in (Some slot) = slot.told

-- a value that this holder has is a heap, and the participant is the holder
abbrev pub is_held_heap : ℕ → Kept → Option ℕ → Bool
is_held_heap who (Heap heap pen) None = false
is_held_heap who (Heap heap pen) (Some holder) = holder == who
is_held_heap who (Segments segs) holder = false
is_held_heap who (Names names) holder = false

-- a participant is the holder of the names
abbrev pub has_names_by : ℕ → Option SlotView → Bool
has_names_by who None = false
has_names_by who (Some slot) = option_map_or (λ holder. holder == who) slot.holder false

-- what the names speak of, of the heap of a slot, as far as it was given back
abbrev pub naming_in : Option SlotView → Option Naming
naming_in None = None
naming_in (Some slot) = option_map (λ held. naming_of held.heap.plain) (held_of slot.kept)

-- the participant holds the heap of the slot
abbrev pub is_held_by : ℕ → Option SlotView → Bool
is_held_by who None = false
is_held_by who (Some slot) = is_held_heap who slot.kept slot.holder

-- a participant's part in the heap of an index, by whether it has the names in hand, the heap's slot and the segment value
abbrev pub part_of : ℕ → ℕ → Bool → Option SlotView → Option SegsView → HeapPart
part_of who heap naming slot segs = record {
  entries = entries_of who (history_in slot);
  marked = marks_in who slot;
  serves = serves_in slot;
  holding = if is_held_by who slot then option_map (standing_of heap) segs else None;
  told = if is_held_by who slot then told_in slot else None;
  naming = if naming then naming_in slot else None;
  armed = option_and_then (λ segs. armed_ask segs who) segs;
  claims = if naming then option_map (λ segs. segs.ranges) segs else None;
}

abbrev pub part_in : HallView → ℕ → ℕ → HeapPart
part_in hall who heap = part_of who heap (has_names_by who (slot_at hall NAMES_SLOT)) (slot_at hall heap) (segs_in (slot_at hall MAX_HEAPS))

-- the log, the outcomes and the names, which everybody sees
abbrev pub seen_in : HallView → List LogRecord
seen_in hall = log_in (slot_at hall MAX_HEAPS)

abbrev pub heard_in : HallView → List AskLog
heard_in hall = asks_in (slot_at hall MAX_HEAPS)

abbrev pub named_in : HallView → NamesSeen
named_in hall = named_at (slot_at hall NAMES_SLOT)

-- a participant is in the roster of a segment value
abbrev pub is_joined : ℕ → Option SegsView → Bool
is_joined who None = false
is_joined who (Some segs) = is_member segs.roster who

-- a participant is in the roster, as far as the segment value was given back
abbrev pub joined_in : HallView → ℕ → Bool
joined_in hall who = is_joined who (segs_in (slot_at hall MAX_HEAPS))

-- a participant's own part
abbrev pub own_at : HallView → ℕ → Own
own_at hall who = slice_index_or hall.owns who (after_ack 0)

-- how many of its lines a participant has told to be done
abbrev pub lines_at : HallView → ℕ → ℕ
lines_at hall who = slice_index_or hall.lines who 0

-- from one state to another a participant made these steps
abbrev pub HasDone : HallView → HallView → ℕ → List MailStep → Type 0
HasDone old new who steps = steps_of who new.mail ≡ steps_of who old.mail ++ steps

-- a heap is at home in the slot of that number
abbrev pub IsHeapAtHome : HallView → ℕ → HeldHeap → Type 0
IsHeapAtHome hall number held = slot_at hall number ≡ Some (record { kept = Heap held.heap held.pen; holder = None; told = None })

-- the names of their slot, at home or as they were taken
abbrev pub names_of_slot : Option SlotView → Option NamesView
names_of_slot None = None
names_of_slot (Some slot) = names_of slot.kept

-- what the names speak of, of the heap of an index; of what is no heap, as of a heap without a name
abbrev pub naming_at : HallView → ℕ → Naming
naming_at hall heap = unwrap_or (naming_in (slot_at hall heap)) (naming_of (opening_heap heap None))

-- a participant's armed ask is settled, or it has the heap of that in hand
abbrev pub IsAskHeld : HallView → SegsView → ℕ → Ask → Type 0
IsAskHeld hall segs who ask = IsSettled ask.from ask.number segs ⊎ (is_held_by who (slot_at hall ask.heap) ≡ true)

-- The names of a hall over its segment value: at home they agree with the heaps and with the external memory that is claimed, as these were given
-- back last; and who has them in hand by its steps is their holder.
pub record AreNamed (hall : HallView) (segs : SegsView) : Type 0 where
  pub names : NamesView
  pub there : names_of_slot (slot_at hall NAMES_SLOT) ≡ Some names
  pub agrees : IsHome (slot_at hall NAMES_SLOT) → AreAgreedNames names (naming_at hall) segs.ranges
  pub holder : (who : ℕ) → has_names (steps_of who hall.mail) ≡ has_names_by who (slot_at hall NAMES_SLOT)

-- the heap of a slot is in the hand of who has the names of another
abbrev pub IsWithNames : Option SlotView → Option SlotView → Type 0
IsWithNames slot names = (who : ℕ) × (is_held_by who slot ≡ true) × (has_names_by who names ≡ true)

-- The memory of the chunks of each heap is claimed, as the heap and the segment value were given back last. Who has the names in hand with a
-- heap may have released memory of this heap's chunks that nobody has attached.
abbrev pub AreChunksClaimed : HallView → SegsView → Type 0
AreChunksClaimed hall segs = (heap : ℕ) → heap < MAX_HEAPS
    → AreClaimedOr (IsWithNames (slot_at hall heap) (slot_at hall NAMES_SLOT)) segs.ranges (chunks_in (slot_at hall heap))

-- what holds of every hall: each value is one of its slot, and each participant has a mailbox, an own part and a count of lines
pub record IsHall (hall : HallView) : Type 0 where
  pub slots : length hall.slots ≡ SLOTS
  pub fits : (number : ℕ) (slot : SlotView) → slot_at hall number ≡ Some slot → Fits number slot.kept
  -- who holds a value alone has published anything of it since, and what was published of a heap are its pairs
  pub untold : (number : ℕ) (slot : SlotView) → slot_at hall number ≡ Some slot → slot.holder ≡ None → slot.told ≡ None
  pub pairs : (number : ℕ) (slot : SlotView) → slot_at hall number ≡ Some slot → HasPairs slot.kept
  pub boxes : length hall.boxes ≡ length hall.owns
  pub lines : length hall.lines ≡ length hall.owns
  pub few : length hall.owns ≤ MAX_PARTICIPANTS
  -- the segment value is sound, and its open growth and its outcomes are of armed asks
  pub segs : SegsView
  pub there : segs_in (slot_at hall MAX_HEAPS) ≡ Some segs
  pub sound : IsSound segs
  pub armed : IsArmed segs
  -- each heap at home has what the segment value has for it: its pages, and the runs that it has claimed and given up
  pub home : (number : ℕ) (held : HeldHeap) → IsHeapAtHome hall number held → HasHolding held.heap (standing_of number segs)
  -- an asker has its heap in hand as long as its ask is not settled; and runs that no heap has claimed are of armed asks, each alone for
  -- its heap, and the last one of that
  pub asking : (who : ℕ) (ask : Ask) → armed_ask segs who ≡ Some ask → IsAskHeld hall segs who ask
  pub pending : ArePending segs
  -- with the names at home they agree with the heaps and with the external memory that is claimed
  pub named : AreNamed hall segs
  -- the memory of chunks is claimed
  pub chunks : AreChunksClaimed hall segs
  -- each own part is one of the log, and the members of the roster have taken in what was granted
  pub owned : (who : ℕ) → who < length hall.owns → IsOwnOf (length segs.log) (own_at hall who)
  pub agreed : AreTakenIn (λ who. (own_at hall who).number) segs
