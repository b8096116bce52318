-- What a free tells: the rule "Joining" of docs/HEAP.md.
use Rattle.std.specs.Prelude.{ℕ, Option, Some, None, if◌then◌else◌}
use Rattle.hp_base.specs.declared.span.Span.{Span}
use Rattle.hp_base.specs.declared.span.SpanState.{SpanState}
use Rattle.hp_base.specs.declared.span.SpanState.TheVariants.{Free, Busy}
use Rattle.hp_heap.specs.declared.freeing.FreeFault.{FreeFault}
use Rattle.hp_heap.specs.declared.freeing.FreeFault.TheVariants as fault
use Rattle.hp_heap.specs.declared.entry.HeapAnswer.{HeapAnswer}
use Rattle.hp_heap.specs.declared.entry.HeapAnswer.TheVariants as answer
use Rattle.hp_heap.specs.PlainHeap.{PlainHeap}
use Rattle.hp_heap.specs.Joining.{busy_at}

-- a memzone's element is named by its tag
abbrev pub fault_of_state : SpanState → Option FreeFault
fault_of_state (Free stamp) = None
fault_of_state (Busy pad size tag) = if tag.zone then Some (fault.IsZone tag) else None

abbrev pub fault_of : ℕ → Option Span → Option FreeFault
fault_of address None = Some (fault.NotAnElement address)
fault_of address (Some range) = fault_of_state range.state

-- why a free that is not for memzones is refused, if it is: no busy element has its data at the address, or a memzone's has
unfoldable pub free_fault : ℕ → PlainHeap → Option FreeFault
free_fault address heap = fault_of address (busy_at address heap)

-- what the history has of it
abbrev pub fault_answer : Option FreeFault → HeapAnswer
fault_answer None = answer.Done
fault_answer (Some (fault.NotAnElement address)) = answer.NotAnElement
fault_answer (Some (fault.IsZone tag)) = answer.IsZone
