-- What a search by a tag finds: the rule "Joining" of docs/HEAP.md.
use Rattle.std.specs.Prelude.{◌≡◌, ℕ, true, IsSomeAnd}
use Rattle.hp_base.specs.declared.tag.Tag.{Tag}
use Rattle.hp_heap.specs.PlainHeap.{PlainHeap}
use Rattle.hp_heap.specs.Joining.{busy_at, has_tag}

-- a busy element with a tag's zone mark and number has its data at an address
abbrev pub HasTaggedAt : Tag → ℕ → PlainHeap → Type 0
HasTaggedAt tag address heap = IsSomeAnd (busy_at address heap) (λ range. has_tag tag.zone tag.number range ≡ true)
