-- What one participant's lines do, one after another, by what its earlier lines left.
use Rattle.std.specs.Prelude.{◌≡◌, ℕ, Bool, true, false, ◌==◌, List, [], ◌∷◌, ◌++◌, find, Option, Some, None, slice_get, slice_index, ⊤}
use Rattle.std.specs.Option.{option_map}
use Rattle.hp_base.specs.Requests.{refusal_of, rounded_size, raised_align}
use Rattle.hp_base.specs.declared.caught.Caught.{Caught}
use Rattle.hp_base.specs.declared.caught.Caught.TheVariants as caught
use Rattle.hp_base.specs.declared.pool_line.PoolLine.{PoolLine}
use Rattle.hp_base.specs.declared.request.Request.{Request}
use Rattle.hp_events.specs.declared.validator.Validator.{Validator}
use Rattle.hp_heap.specs.declared.entry.HeapCall.{HeapCall}
use Rattle.hp_heap.specs.declared.entry.HeapAnswer.{HeapAnswer}
use Rattle.hp_script.specs.ShapeWords.Acts.{label_used}
use Rattle.hp_script.specs.Labels.{maker_of}
use Rattle.hp_script.specs.Part.{Part}
use Rattle.hp_script.specs.declared.answer.Answer.{Answer}
use Rattle.hp_script.specs.declared.answer.Answer.TheVariants as answer
use Rattle.hp_script.specs.declared.line.Line.{Line}
use Rattle.hp_script.specs.declared.line.Act.{Act}
use Rattle.hp_script.specs.declared.line.Act.TheVariants as act
use Rattle.hp_script.specs.declared.options.Options.{Options}
use Rattle.hp_script.specs.declared.workload.Workload.{Workload}
use Rattle.hp_proc.specs.Doing.{Done}
use Rattle.hp_proc.specs.Doing.Done.{Called, Asked, GaveUp, CaughtUp}
use Rattle.hp_proc.specs.Heaps.{sockets_of}
use Rattle.hp_proc.specs.declared.searched_heap.SearchedHeap.{SearchedHeap}
use Rattle.hp_proc.specs.Lines.{Facts, Maker}
use Rattle.hp_proc.specs.OwnChunks.{with_own_chunk, without_own_chunk}
use Rattle.hp_proc.specs.declared.own_chunk.OwnChunk.{OwnChunk}
use Rattle.hp_proc.specs.Registering.{validators_after, watchers_after}
use Rattle.hp_proc.specs.declared.own_element.OwnElement.{OwnElement}

-- a call of the heap with that index, and its answer
pub record OwnCall : Type 0 where
  pub heap : ℕ
  pub call : HeapCall
  pub answer : HeapAnswer

-- the calls of heaps in a trace
abbrev pub calls_in : List Done → List OwnCall
calls_in [] = []
calls_in (Called heap call answer ∷ trace) = record { heap = heap; call = call; answer = answer } ∷ calls_in trace
calls_in (_ ∷ trace) = calls_in trace

-- what of a trace takes a number of the participant's asks: asks, and runs that are given up
abbrev pub numbered_in : List Done → List Done
numbered_in [] = []
numbered_in (Asked asked run ∷ trace) = Asked asked run ∷ numbered_in trace
numbered_in (GaveUp heap run ∷ trace) = GaveUp heap run ∷ numbered_in trace
numbered_in (_ ∷ trace) = numbered_in trace

-- the number of the mapping call by which a catching up was refused
abbrev pub call_refused : Caught → List ℕ
call_refused caught.Done = []
call_refused (caught.Refused row number) = number ∷ []
call_refused (caught.Elsewhere row number got) = number ∷ []

-- the numbers of the mapping calls by which the catchings up of a trace were refused
abbrev pub refusals_in : List Done → List ℕ
refusals_in [] = []
refusals_in (CaughtUp to caught ∷ trace) = call_refused caught ++ refusals_in trace
refusals_in (_ ∷ trace) = refusals_in trace

-- the index of the heap that the last call of a trace was made on
abbrev pub last_heap : List OwnCall → Option ℕ
last_heap [] = None
last_heap (own ∷ []) = Some own.heap
last_heap (own ∷ (next ∷ calls)) = last_heap (next ∷ calls)

-- what a participant's lines so far left: whether it is attached, how many records it took in when it attached last, where the
-- elements of its allocations lie, the chunks that it has attached, by heap and by address, its watchers' names in the order of registration,
-- and its validators, each with what its closure always answers
pub record Standing : Type 0 where
  pub attached : Bool
  pub records : ℕ
  pub elements : List OwnElement
  pub chunks : List OwnChunk
  pub watchers : List (List ℕ)
  pub validators : List (Validator Bool)

-- a participant that has done no line
abbrev pub first_standing : Bool → Standing
first_standing attached = record { attached = attached; records = 0; elements = []; chunks = []; watchers = []; validators = [] }

-- whether a participant is attached after a line
abbrev pub attached_after : Act → Answer → Bool → Bool
attached_after act.Attach (answer.Records records) attached = true
attached_after act.Detach answer.Done attached = false
attached_after _ given attached = attached

-- how many records a participant had taken in when it attached last, where so many before a line
abbrev pub records_after : Act → Answer → ℕ → ℕ
records_after act.Attach (answer.Records records) before = records
records_after _ given before = before

abbrev pub element_in : ℕ → Option ℕ → List OwnElement
element_in line None = []
element_in line (Some heap) = record { line = line; heap = heap } ∷ []

-- the element that an allocation line brought
abbrev pub element_brought : Line → Act → Answer → List Done → List OwnElement
element_brought line (act.Alloc label size options) (answer.Address address) trace = element_in line.line (last_heap (calls_in trace))
element_brought line _ given trace = []

-- the chunk of a line, in the heap that it called last
abbrev pub changed_by : (OwnChunk → List OwnChunk → List OwnChunk) → ℕ → ℕ → Option ℕ → List OwnChunk → List OwnChunk
changed_by change addr len None chunks = chunks
changed_by change addr len (Some heap) chunks = change (record { heap = heap; addr = addr; len = len }) chunks

-- the chunks that a participant has attached after a line: one that detaches has left all
abbrev pub chunks_after : Act → Answer → List Done → List OwnChunk → List OwnChunk
chunks_after (act.Map heap addr len) answer.Done trace chunks = changed_by with_own_chunk addr len (last_heap (calls_in trace)) chunks
chunks_after (act.Unmap heap addr len) answer.Done trace chunks = changed_by without_own_chunk addr len (last_heap (calls_in trace)) chunks
chunks_after act.Detach answer.Done trace chunks = []
chunks_after _ given trace chunks = chunks

-- what a line leaves
abbrev pub after_line : Line → Answer → List Done → Standing → Standing
after_line line given trace standing = record {
  attached = attached_after line.act given standing.attached;
  records = records_after line.act given standing.records;
  elements = standing.elements ++ element_brought line line.act given trace;
  chunks = chunks_after line.act given trace standing.chunks;
  watchers = watchers_after line.act given standing.watchers;
  validators = validators_after line.act given standing.validators;
}

-- what a line leaves that tried to attach: where all was mapped its participant is attached, with so many records; elements stay where
-- they lie
abbrev pub standing_tried : ℕ → Caught → Standing → Standing
standing_tried records caught.Done standing = record standing { attached = true; records = records }
standing_tried records (caught.Refused row call) standing = standing
standing_tried records (caught.Elsewhere row call got) standing = standing

-- an act reserves a memzone
abbrev pub is_zone_act : Act → Bool
is_zone_act (act.Zone name len options) = true
is_zone_act _ = false

-- a line allocates: an element, or a memzone
abbrev pub Allocates : Act → Type 0
Allocates (act.Alloc label size options) = ⊤
Allocates (act.Zone name len options) = ⊤
Allocates _ = ⊥

-- the line that makes a label or name, where it is known which one that is
abbrev pub maker_from : Line → Maker
maker_from line = record { line = line.line; participant = line.participant; zone = is_zone_act line.act }

-- the line that makes what an act frees or resizes
abbrev pub maker_for : List Line → Option Part → Option Maker
maker_for lines None = None
maker_for lines (Some label) = option_map maker_from (maker_of lines label.text)

-- the accepted request of an allocation has its numbers, rounded
pub record IsRequestFor (size : ℕ) (options : Options) (request : Request) : Type 0 where
  pub size_is : request.size ≡ rounded_size size
  pub align_is : request.align ≡ raised_align options.align
  pub bound_is : request.bound ≡ options.bound
  pub flags_are : request.flags ≡ options.flags

-- where the size and the options of an allocation are not refused, its request is there
abbrev pub HasRequest : Act → Option Request → Type 0
HasRequest (act.Alloc label size options) request = refusal_of size options.align options.bound ≡ None
    → (accepted : Request) × (request ≡ Some accepted) × IsRequestFor size options accepted
HasRequest _ request = ⊤

-- a reservation has the request of an allocation of as many bytes
abbrev pub HasLineRequest : Act → Option Request → Type 0
HasLineRequest (act.Zone name len options) request = HasRequest (act.Alloc name len options) request
HasLineRequest deed request = HasRequest deed request

-- the label or name whose maker a line needs to know
abbrev pub name_meant : Act → Option Part
name_meant (act.Zone name len options) = Some name
name_meant deed = label_used deed

-- the place of the heap with that index
abbrev pub searched_heap_at : List PoolLine → ℕ → SearchedHeap
searched_heap_at pools heap = record { index = heap; serves = slice_get (sockets_of pools) heap }

-- the heap in which the element of a maker's line lies
abbrev pub heap_of_element : List PoolLine → List OwnElement → Option Maker → Option SearchedHeap
heap_of_element pools elements None = None
heap_of_element pools elements (Some maker) =
    option_map (λ element. searched_heap_at pools element.heap) (find (λ element. element.line == maker.line) elements)

-- what is known when a participant's line begins, by what its lines so far left
pub record AreFacts (workload : Workload) (standing : Standing) (line : Line) (facts : Facts) : Type 0 where
  pub attached : facts.attached ≡ standing.attached
  pub own_socket : facts.own_socket ≡ slice_index workload.sockets line.participant
  pub pools : facts.pools ≡ workload.pools.items
  pub request : HasLineRequest line.act facts.request
  pub maker : facts.maker ≡ maker_for workload.lines.items (name_meant line.act)
  pub own_heap : facts.own_heap ≡ heap_of_element workload.pools.items standing.elements facts.maker
  pub chunks : facts.chunks ≡ standing.chunks
  pub watchers : facts.watchers ≡ standing.watchers
  pub validators : facts.validators ≡ standing.validators
