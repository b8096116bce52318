-- A heap and its elements as the report shows them.
use Rattle.std.specs.Prelude.{ℕ, ◌-◌, List, [], ◌∷◌, ◌++◌, Option, Some, None, codes}
use Rattle.std.specs.List.{flat_map}
use Rattle.std.specs.Option.{option_map_or}
use Rattle.hp_base.specs.Class.{class_number}
use Rattle.hp_base.specs.declared.span.Span.{Span}
use Rattle.hp_base.specs.declared.span.SpanState.{SpanState}
use Rattle.hp_base.specs.declared.span.SpanState.TheVariants.{Free, Busy}
use Rattle.hp_heap.specs.History.{HeapView}
use Rattle.hp_heap.specs.PlainHeap.{PlainHeap}
use Rattle.hp_heap.specs.Statistics.{statistics_of}
use Rattle.hp_script.specs.Answers.{address_text, number_text, stats_text}

-- a heap: its index, its name, its socket number, and the statistics of its elements
abbrev pub heap_line : List ℕ → PlainHeap → List ℕ
heap_line name heap =
    codes "heap" ++ number_text heap.index ++ codes " " ++ name ++ number_text heap.socket ++ codes " " ++ stats_text (statistics_of heap) ++ codes "\n"

-- a free element has the class of the bytes behind its header; a busy one its pad, its size, its participant and its name
abbrev pub state_text : (ℕ → List ℕ) → ℕ → SpanState → List ℕ
state_text names whole (Free stamp) = codes " free" ++ number_text (class_number (whole - 128))
state_text names whole (Busy pad size tag) =
    codes " busy" ++ number_text pad ++ number_text size ++ number_text tag.who ++ codes " " ++ names tag.number

-- an element: the address of its header, its bytes and its state
abbrev pub element_line : (ℕ → List ℕ) → Span → List ℕ
element_line names span = codes "elem" ++ address_text span.addr ++ number_text span.whole ++ state_text names span.whole span.state ++ codes "\n"

-- a heap that has a name, with its elements by address; one without a name is not shown
abbrev pub heap_text : (ℕ → List ℕ) → PlainHeap → List ℕ
heap_text names heap = option_map_or (λ name. heap_line name heap ++ flat_map (element_line names) heap.ranges) heap.name []

-- the heaps by index
abbrev pub heaps_text : (ℕ → List ℕ) → List HeapView → List ℕ
heaps_text names heaps = flat_map (λ heap. heap_text names heap.plain) heaps
