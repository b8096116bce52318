-- Parts of a store's buffer, by index. No public clause cites this module but for `two_fault`.
use Rattle.std.specs.Prelude.{◌≡◌, ℕ, ◌+◌, ◌<◌, ◌≤◌, ◌==◌, List, length, min, Option, Some, if◌then◌else◌}
use Rattle.std.specs.Option.{option_or}
use Rattle.hp_heap.specs.PlainHeap.{PlainHeap}
use Rattle.hp_bytes.specs.StoreView.{StoreView}
use Rattle.hp_bytes.specs.Stores.{size_at, bytes_from, byte_fault}
use Rattle.hp_bytes.specs.declared.fault.ByteFault.{ByteFault}
use Rattle.hp_bytes.specs.declared.fault.ByteFault.TheVariants.{Same}
use Rattle.hp_bytes.specs.declared.part.Part.{Part}

-- so many bytes from an address on, in a buffer of some length from a base on
pub record IsPartFrom (base room addr size : ℕ) (part : Part) : Type 0 where
  pub from : base + part.from ≡ addr
  pub len : part.len ≡ size
  pub within : part.from + part.len ≤ room

-- the data of the busy element with its data at an address
abbrev pub IsPartOf : ℕ → StoreView → PlainHeap → Part → Type 0
IsPartOf addr store heap part = IsPartFrom store.base (length store.bytes) addr (size_at addr heap) part

-- the one that begins first ends before the other
pub record AreApart (first second : Part) : Type 0 where
  pub up : first.from < second.from → first.from + first.len ≤ second.from
  pub down : second.from ≤ first.from → second.from + second.len ≤ first.from

-- why the data of two elements are not lent together: they are one, or the first is refused, or the second
unfoldable pub two_fault : ℕ → ℕ → StoreView → PlainHeap → Option ByteFault
two_fault a b store heap = if a == b then Some (Same a) else option_or (byte_fault a store heap) (byte_fault b store heap)

-- the first bytes of the data of one element, as many as another has too
abbrev pub shared_front : ℕ → ℕ → StoreView → PlainHeap → List ℕ
shared_front from to store heap = bytes_from from (min (size_at from heap) (size_at to heap)) store
