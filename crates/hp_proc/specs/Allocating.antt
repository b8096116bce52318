-- What an allocation line does: it searches heap after heap, and asks for pages page size after page size.
use Rattle.std.specs.Prelude.{ℕ, Bool, true, false, ◌+◌, ◌-◌, List, [], ◌∷◌, Option, Some, None, if◌then◌else◌}
use Rattle.hp_base.specs.declared.flags.TheConstants.{HINT}
use Rattle.hp_base.specs.declared.pool_line.PoolLine.{PoolLine}
use Rattle.hp_base.specs.declared.request.Request.{Request}
use Rattle.hp_base.specs.declared.row.Run.{Run}
use Rattle.hp_base.specs.declared.tag.Tag.{Tag}
use Rattle.hp_base.specs.Flags.{is_hint}
use Rattle.hp_heap.specs.declared.entry.HeapCall.TheVariants as call
use Rattle.hp_heap.specs.declared.entry.HeapAnswer.{HeapAnswer}
use Rattle.hp_heap.specs.declared.entry.HeapAnswer.TheVariants as gives
use Rattle.hp_script.specs.declared.answer.Answer.{Answer}
use Rattle.hp_script.specs.declared.answer.Answer.TheVariants as answer
use Rattle.hp_proc.specs.Doing.{Deed, Doing}
use Rattle.hp_proc.specs.Heaps.{NamedHeap, page_sizes_for}

-- flags without the bit by which their page sizes are a hint alone, and with it
abbrev pub without_hint : ℕ → ℕ
without_hint flags = if is_hint flags then flags - HINT else flags

abbrev pub with_hint : ℕ → ℕ
with_hint flags = if is_hint flags then flags else flags + HINT

-- a request with these flags in place of its own
abbrev pub with_flags : ℕ → Request → Request
with_flags flags request = record request { flags = flags }

-- the flags of the first search: page sizes are kept to in the heap of a socket, which can get more of them, and are a hint in external
-- memory, which gets none
abbrev pub first_flags : Option ℕ → ℕ → ℕ
first_flags None flags = with_hint flags
first_flags (Some socket) flags = without_hint flags

-- an allocation answered an address, which is the line's answer, or nothing, and the line goes on
abbrev pub unless_found : Doing → HeapAnswer → Doing
unless_found otherwise (gives.Address address) = Doing.Ended (answer.Address address)
unless_found otherwise _ = otherwise

-- a heap to which a run came is searched again; that has a place for the request, so an address is found, as the end of a workload says
abbrev pub searching_again : ℕ → Request → Tag → Doing
searching_again heap request tag = Doing.Then (Deed.Call heap (call.Alloc request tag)) (unless_found (Doing.Ended answer.None))

-- a run comes to a heap, where one is granted
abbrev pub with_run : ℕ → Request → Tag → Doing → Option Run → Doing
with_run heap request tag otherwise None = otherwise
with_run heap request tag otherwise (Some run) = Doing.Then (Deed.Call heap (call.Grow run)) (λ _. searching_again heap request tag)

-- what is left of a line once pages were asked for: a run came, or none did
abbrev pub after_asking : ℕ → Request → Tag → Doing → Bool → Doing
after_asking heap request tag otherwise true = searching_again heap request tag
after_asking heap request tag otherwise false = otherwise

-- a line is answered, or goes on otherwise
abbrev pub unless_answered : Doing → Option Answer → Doing
unless_answered otherwise None = otherwise
unless_answered otherwise (Some given) = Doing.Ended given

-- pages are asked for, page size after page size, until a run is granted
abbrev pub asking : ℕ → ℕ → Request → Tag → Doing → List ℕ → Doing
asking heap socket request tag otherwise [] = otherwise
asking heap socket request tag otherwise (page ∷ pages) =
    Doing.Then (Deed.Ask (record { heap = heap; socket = socket; page = page; request = request }))
    (with_run heap request tag (asking heap socket request tag otherwise pages))

-- a heap that has no place for the request gets pages, where it can
abbrev pub growing : List PoolLine → NamedHeap → Option ℕ → Request → Tag → Doing → Doing
growing pools heap None request tag otherwise = otherwise
growing pools heap (Some socket) request tag otherwise =
    asking heap.index socket request tag otherwise (page_sizes_for pools socket request.flags)

-- heaps are tried, one after another
abbrev pub trying : List PoolLine → Request → Tag → List NamedHeap → Doing
trying pools request tag [] = Doing.Ended answer.None
trying pools request tag (heap ∷ heaps) =
    Doing.Then (Deed.Call heap.index (call.Alloc (with_flags (first_flags heap.serves request.flags) request) tag))
    (unless_found (growing pools heap heap.serves request tag (trying pools request tag heaps)))

-- an accepted request is served from the heaps that it chooses, of which there may be none
abbrev pub serving : List PoolLine → Request → Tag → List NamedHeap → Doing
serving pools request tag [] = Doing.Ended answer.NoHeap
serving pools request tag (heap ∷ heaps) = trying pools request tag (heap ∷ heaps)
