-- Which busy elements of a chunk, and which of its marks, stand against a call on it: the rule "External heaps" of docs/HEAP.md.
use Rattle.std.specs.Prelude.{◌≡◌, ℕ, ◌<◌, ◌≤◌, Bool, true, false, ◌&&◌, ◌==◌, List, Option, Some, None, Contains}
use Rattle.std.specs.List.{AllByRecursion}
use Rattle.hp_base.specs.Flags.{has_bit}
use Rattle.hp_base.specs.declared.span.Span.{Span}
use Rattle.hp_base.specs.declared.span.SpanState.{SpanState}
use Rattle.hp_base.specs.declared.span.SpanState.TheVariants.{Free, Busy}
use Rattle.hp_heap.specs.PlainHeap.{data_address}

-- an element that is busy was allocated by a participant, where one is named
abbrev pub is_by : Option ℕ → ℕ → Bool
is_by None who = true
is_by (Some participant) who = who == participant

abbrev pub is_busy_by : Option ℕ → SpanState → Bool
is_busy_by by (Free stamp) = false
is_busy_by by (Busy pad size tag) = is_by by tag.who

-- whether an element is a busy one of a segment list, allocated by a participant where one is named
abbrev pub is_busy_in : Option ℕ → ℕ → Span → Bool
is_busy_in by list range = (range.list == list) && is_busy_by by range.state

-- an address is the lowest one of data among the elements that pass a test
pub record IsLowestData (test : Span → Bool) (ranges : List Span) (addr : ℕ) : Type 0 where
  pub range : Span
  pub there : Contains ranges range
  pub passes : test range ≡ true
  pub data_is : data_address range ≡ addr
  pub lowest : AllByRecursion (λ other. test other ≡ true → addr ≤ data_address other) ranges

-- no element passes a test
abbrev pub NonePasses : (Span → Bool) → List Span → Type 0
NonePasses test ranges = AllByRecursion (λ range. test range ≡ false) ranges

-- a participant is the lowest one that has a mark
pub record IsLowestMark (marks participant : ℕ) : Type 0 where
  pub marked : has_bit marks participant ≡ true
  pub lowest : (other : ℕ) → other < participant → has_bit marks other ≡ false
