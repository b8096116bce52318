-- How what is asked of a heap's elements is looked for. No public clause cites this module.
use Rattle.std.specs.Prelude.{ℕ, ◌^◌, ◌<◌, Bool, List, Option}
use Rattle.std.specs.List.{find}
use Rattle.std.specs.Option.{option_map}
use Rattle.hp_base.specs.declared.span.Span.{Span}
use Rattle.hp_heap.specs.PlainHeap.{data_address}

-- the address of the data of the first element that passes a test
abbrev pub first_data : (Span → Bool) → List Span → Option ℕ
first_data test ranges = option_map data_address (find test ranges)

-- the address of an element's data has 64 bits
abbrev pub HasDataBelow : Span → Type 0
HasDataBelow range = data_address range < 2 ^ 64
