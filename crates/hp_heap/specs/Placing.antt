-- How a request is cut out of a free element: the rule "Cutting an element" of docs/HEAP.md.
use Rattle.std.specs.Prelude.{ℕ, ◌+◌, ◌-◌, Bool, nat_lt, nat_le, ◌==◌, List, [], ◌∷◌, ◌++◌, Option, Some, None, unwrap_or, if◌then◌else◌}
use Rattle.std.specs.Option.{option_and_then}
use Rattle.hp_base.specs.Place.{place_of, IsPlace}
use Rattle.hp_base.specs.declared.span.Span.{Span}
use Rattle.hp_base.specs.declared.span.SpanState.TheVariants.{Free, Busy}
use Rattle.hp_base.specs.declared.tag.Tag.{Tag}
use Rattle.hp_base.specs.declared.request.Request.{Request}
use Rattle.hp_heap.specs.PlainHeap.{PlainHeap, end_of}
use Rattle.hp_heap.specs.Choice.{chosen, IsChoice}

-- whether more than 192 bytes lie behind the data, and whether at least 192 bytes lie before the header
abbrev pub has_rest_behind : Span → ℕ → ℕ → Bool
has_rest_behind range address size = nat_lt 192 (end_of range - (address + size))

abbrev pub has_rest_before : Span → ℕ → Bool
has_rest_before range address = nat_le 192 (address - 128 - range.addr)

-- how many rests are inserted into the free lists
abbrev pub count_if : Bool → ℕ
count_if test = if test then 1 else 0

abbrev pub only_if : Bool → Span → List Span
only_if test range = if test then range ∷ [] else []

-- the rest behind the data
abbrev pub rest_behind : Span → ℕ → ℕ → Span
rest_behind range address stamp =
    record range { addr = address; whole = end_of range - address; state = Free stamp }

-- the rest before the header
abbrev pub rest_before : Span → ℕ → ℕ → Span
rest_before range address stamp = record range { whole = address - 128 - range.addr; state = Free stamp }

-- where the busy element begins: at its header where the rest before it is an element, else the rest is its pad
abbrev pub busy_start : Bool → Span → ℕ → ℕ
busy_start before range address = if before then address - 128 else range.addr

-- where it ends: behind the data where the rest behind them is an element, else at the free element's end
abbrev pub busy_end : Bool → Span → ℕ → ℕ → ℕ
busy_end behind range address size = if behind then address + size else end_of range

abbrev pub busy_piece : Bool → Bool → Span → ℕ → ℕ → Tag → Span
busy_piece before behind range address size tag =
    let start = busy_start before range address in
    record range {
      addr = start;
      whole = busy_end behind range address size - start;
      state = Busy (address - 128 - start) size tag;
    }

-- the elements that a free one becomes, each with its other fields: the rest behind is inserted into the free lists first, then the rest
-- before
abbrev pub pieces_with : Bool → Bool → Span → ℕ → ℕ → Tag → ℕ → List Span
pieces_with before behind range address size tag insertions =
    only_if before (rest_before range address (insertions + count_if behind + 1))
    ++ (busy_piece before behind range address size tag ∷ only_if behind (rest_behind range (address + size) (insertions + 1)))

-- the elements that a free one becomes
unfoldable pub pieces_of : Span → ℕ → ℕ → Tag → ℕ → List Span
pieces_of range address size tag insertions =
    pieces_with (has_rest_before range address) (has_rest_behind range address size) range address size tag insertions

-- the number of insertions afterwards
unfoldable pub insertions_of : Span → ℕ → ℕ → ℕ → ℕ
insertions_of range address size insertions =
    insertions + count_if (has_rest_behind range address size) + count_if (has_rest_before range address)

-- the elements with those in the place of the one that begins at an address
abbrev pub replaced : ℕ → List Span → List Span → List Span
replaced start pieces [] = []
replaced start pieces (range ∷ ranges) =
    if range.addr == start then pieces ++ ranges else range ∷ replaced start pieces ranges

-- the place of a request in an element
abbrev pub place_in : Request → Span → Option ℕ
place_in request range = place_of range.addr (end_of range) request

-- the heap with a request placed at an address of an element
unfoldable pub placed : Span → ℕ → ℕ → Tag → PlainHeap → PlainHeap
placed range address size tag heap = record heap {
  ranges = replaced range.addr (pieces_of range address size tag heap.insertions) heap.ranges;
  insertions = insertions_of range address size heap.insertions;
}

-- the address that an allocation gives: the place of the request in the choice
unfoldable pub allocated : ℕ → Request → PlainHeap → Option ℕ
allocated participant request heap = option_and_then (place_in request) (chosen participant request heap)

abbrev pub after_choice : Option Span → Request → Tag → PlainHeap → PlainHeap
after_choice None request tag heap = heap
after_choice (Some range) request tag heap = placed range (unwrap_or (place_in request range) 0) request.size tag heap

-- the heap after an allocation, unchanged where there is no choice
unfoldable pub after_alloc : ℕ → Request → Tag → PlainHeap → PlainHeap
after_alloc participant request tag heap = after_choice (chosen participant request heap) request tag heap

-- the address is the place of the request in the choice
pub record IsPlacedIn (participant : ℕ) (request : Request) (heap : PlainHeap) (address : ℕ) : Type 0 where
  pub range : Span
  pub choice : IsChoice participant request heap range
  pub place : IsPlace range.addr (end_of range) request address
