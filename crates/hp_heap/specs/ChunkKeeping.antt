-- How the chunks of a heap are kept, and what its elements make of them. No public clause cites this module.
use Rattle.std.specs.Prelude.{◌≡◌, ℕ, ◌≤◌, true, false, ◌==◌, Bool, List, map, count_by, if◌then◌else◌}
use Rattle.hp_base.specs.declared.span.Span.{Span}
use Rattle.hp_base.specs.declared.chunk.Chunk.{Chunk}
use Rattle.hp_heap.specs.PlainHeap.{is_free, busy_range}

-- whether a chunk is of a segment list
abbrev pub is_of : ℕ → Chunk → Bool
is_of list chunk = chunk.list == list

-- no two chunks have one list
abbrev pub HaveOwnLists : List Chunk → Type 0
HaveOwnLists chunks = (list : ℕ) → count_by (λ chunk. chunk.list == list) chunks ≤ 1

-- a chunk with other marks, and chunks where that of a list has other ones
abbrev pub marked : ℕ → Chunk → Chunk
marked marks chunk = record chunk { attached = marks }

abbrev pub with_marks_of : ℕ → ℕ → List Chunk → List Chunk
with_marks_of list marks chunks = map (λ chunk. if is_of list chunk then marked marks chunk else chunk) chunks

-- a chunk as one element, which is busy until it is inserted
abbrev pub whole_of : Chunk → Span
whole_of chunk = busy_range chunk.addr chunk.len chunk.list chunk.page 0 0 (record { who = 0; zone = false; number = 0 })

-- a free element begins at an address
pub record IsFreeFrom (addr : ℕ) (range : Span) : Type 0 where
  pub begins : range.addr ≡ addr
  pub free : is_free range ≡ true
