-- What the lines do that name an element by its label: they look for it, and then free or resize it.
use Rattle.std.specs.Prelude.{◌≡◌, ℕ, ◌^◌, ◌%◌, ◌<◌, ◌≤◌, ⊤, Bool, false, List, [], ◌∷◌, Option, Some, None, is_some, nat_lt, ◌==◌, if◌then◌else◌}
use Rattle.hp_base.specs.Requests.{rounded_size}
use Rattle.hp_base.specs.declared.request.BadRequest.{BadRequest}
use Rattle.hp_base.specs.declared.request.BadRequest.TheVariants as bad
use Rattle.hp_base.specs.declared.tag.Tag.{Tag}
use Rattle.hp_heap.specs.declared.entry.HeapCall.TheVariants as call
use Rattle.hp_heap.specs.declared.entry.HeapAnswer.{HeapAnswer}
use Rattle.hp_heap.specs.declared.entry.HeapAnswer.TheVariants as gives
use Rattle.hp_script.specs.declared.answer.Answer.{Answer}
use Rattle.hp_script.specs.declared.answer.Answer.TheVariants as answer
use Rattle.hp_hall.specs.Naming.{IsBesideNames}
use Rattle.hp_heap.specs.PlainHeap.{PlainHeap}
use Rattle.hp_heap.specs.Resizing.{CanAskSize}
use Rattle.hp_proc.specs.Doing.{Deed, Doing}
use Rattle.hp_proc.specs.declared.searched_heap.SearchedHeap.{SearchedHeap}
use Rattle.hp_proc.specs.declared.element_act.ElementAct.{ElementAct}
use Rattle.hp_proc.specs.declared.element_act.ElementAct.TheVariants.{Free, Resize}
use Rattle.hp_proc.specs.declared.element_act.Left.{Left}
use Rattle.hp_proc.specs.declared.element_act.Left.TheVariants.{Answered, GaveUp}

-- an element was found, or is looked for further
abbrev pub going_on : (ℕ → Doing) → Doing → HeapAnswer → Doing
going_on found otherwise (gives.Address address) = found address
going_on found otherwise _ = otherwise

-- heaps are searched for the element with a tag, one after another, and the line goes on with the first one that has it
abbrev pub looking : Tag → (SearchedHeap → ℕ → Doing) → List SearchedHeap → Doing
looking tag found [] = Doing.Ended answer.NoElement
looking tag found (place ∷ places) =
    Doing.Then (Deed.Call place.index (call.Find tag)) (going_on (found place) (looking tag found places))

-- the whole pages of a freed element go, where there are some
abbrev pub giving_up : ℕ → HeapAnswer → Doing
giving_up heap (gives.Pages run) = Doing.Then (Deed.GiveUp heap run) (λ _. Doing.Ended answer.Done)
giving_up heap _ = Doing.Ended answer.Done

-- an element was freed: in the heap of a socket its whole pages are cut
abbrev pub cutting : SearchedHeap → ℕ → Doing
cutting place address =
    if is_some place.serves then Doing.Then (Deed.Call place.index (call.Cut address)) (giving_up place.index) else Doing.Ended answer.Done

-- what a free is answered; the last equation is met only where somebody else freed the element between the search and the free, which the
-- lock of the heap keeps from happening
abbrev pub freed : SearchedHeap → ℕ → HeapAnswer → Doing
freed place address gives.Done = cutting place address
freed place address gives.IsZone = Doing.Ended answer.IsZone
freed place address _ = Doing.Ended answer.NoElement

-- an element is freed
abbrev pub freeing : SearchedHeap → ℕ → Doing
freeing place address = Doing.Then (Deed.Call place.index (call.Free address false)) (freed place address)

-- what a resize is answered
abbrev pub resized : HeapAnswer → Doing
resized gives.Yes = Doing.Ended answer.Yes
resized _ = Doing.Ended answer.No

-- what such a line is answered, by whether the element has the new size
abbrev pub resized_answer : Bool → Answer
resized_answer had = if had then answer.Yes else answer.No

-- an element is resized, but that of a memzone is not
abbrev pub resizing : Bool → ℕ → SearchedHeap → ℕ → Doing
resizing zone size place address =
    if zone then Doing.Ended answer.IsZone else Doing.Then (Deed.Call place.index (call.Resize address size)) resized

-- why a new size is refused, where it is
abbrev pub resize_refusal : ℕ → Option BadRequest
resize_refusal size = if size == 0 then Some bad.Zero else (if nat_lt (2 ^ 63) (rounded_size size) then Some bad.Overflow else None)

-- a size that is judged: the line is refused, or goes on
abbrev pub if_sized : Option BadRequest → Doing → Doing
if_sized (Some kind) doing = Doing.Ended (answer.BadRequest kind)
if_sized None doing = doing

-- an element is looked for, and gets that size in whole cache lines
abbrev pub resizing_to : ℕ → Tag → List SearchedHeap → Doing
resizing_to size tag = looking tag (resizing tag.zone (rounded_size size))

-- what a line does with its element: it frees it, or gives it another size
abbrev pub acting : ElementAct → SearchedHeap → ℕ → Doing
acting Free place address = freeing place address
acting (Resize zone size) place address = resizing zone size place address

-- what is left of the line when its heap is given back: its answer, or that a run that the heap gave up has to be told of
abbrev pub left_of : ℕ → Left → Doing
left_of heap (Answered given) = Doing.Ended given
left_of heap (GaveUp run) = Doing.Then (Deed.GiveUp heap run) (λ _. Doing.Ended answer.Done)

-- an element may be acted on so: where it gets another size it is there and is no memzone's, and that size may be asked for
abbrev pub MayAct : ElementAct → ℕ → PlainHeap → Type 0
MayAct Free address heap = ⊤
MayAct (Resize zone size) address heap = zone ≡ false → CanAskSize address size heap × IsBesideNames (call.Resize address size) heap

-- the new size is some, in whole cache lines
abbrev pub IsSizedWell : ElementAct → Type 0
IsSizedWell Free = ⊤
IsSizedWell (Resize zone size) = (size % 64 ≡ 0) × (0 < size) × (size ≤ 2 ^ 63)

-- what is done with an element is meant for its tag: a resize knows whether that is a memzone's
abbrev pub FitsTag : Tag → ElementAct → Type 0
FitsTag tag Free = ⊤
FitsTag tag (Resize zone size) = (zone ≡ tag.zone) × IsSizedWell (Resize zone size)

-- what is left of a line once a heap was searched for its element: it goes on with further heaps, or the heap acted
abbrev pub after_looking : ℕ → Doing → Option Left → Doing
after_looking heap otherwise None = otherwise
after_looking heap otherwise (Some left) = left_of heap left

-- what is done with an element: it is freed, or gets a size, where one is given
abbrev pub act_for : Bool → Option ℕ → ElementAct
act_for zone None = Free
act_for zone (Some size) = Resize zone size
