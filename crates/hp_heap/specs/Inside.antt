-- How a heap is kept: the heap that its history leaves, and the fields that say the same. No public clause cites this module.
use Rattle.std.specs.Prelude.{◌≡◌, ◌+◌, ◌*◌, ◌≤◌, vec_len, vec_capacity}
use Rattle.hp_chain.specs.Chain.{AreApart}
use Rattle.hp_heap.specs.declared.body.Body.TheInside.{Inside}
use Rattle.hp_heap.specs.PlainHeap.{PlainHeap, opening_heap}
use Rattle.hp_heap.specs.Tiling.{IsTiled}
use Rattle.hp_heap.specs.Headers.{spans_of, exact_lists}
use Rattle.hp_heap.specs.ChunkOrder.{AreInOrder}
use Rattle.hp_heap.specs.PageLists.{AreNoted}
use Rattle.hp_heap.specs.History.{HeapView, replay, IsLegal}

-- the heap as it opened
abbrev pub opened : Inside → PlainHeap
opened a = opening_heap a.index a.serves

-- the heap that its history leaves
abbrev pub plain_of : Inside → PlainHeap
plain_of a = replay (opened a) a.history.items

-- what contracts see: that heap, and the free lists as they are kept
abbrev pub view_of : Inside → HeapView
view_of a = record { plain = plain_of a; lists = a.headers.lists; history = a.history.items; spare = a.spare }

-- the fields are those of the heap that the history leaves, which is tiled; and there is room for the spare calls
pub record IsHeap (a : Inside) : Type 0 where
  pub ranges : spans_of a.headers.items ≡ (plain_of a).ranges
  pub apart : AreApart a.headers.items
  pub exact : a.headers.lists ≡ exact_lists (spans_of a.headers.items)
  pub insertions : a.headers.insertions ≡ (plain_of a).insertions
  pub name : a.name ≡ (plain_of a).name
  pub socket : a.socket ≡ (plain_of a).socket
  pub chunks : a.chunks.items ≡ (plain_of a).chunks
  pub kept : AreInOrder (plain_of a).chunks
  pub lists : AreNoted (plain_of a).pages a.page_lists.items
  pub serves : (plain_of a).serves ≡ a.serves
  pub index : (plain_of a).index ≡ a.index
  pub legal : IsLegal (opened a) a.history.items
  pub tiled : IsTiled (plain_of a)
  pub counted : a.headers.insertions ≤ 2 * vec_len a.history
  pub room : 2 * a.spare ≤ a.headers.spare
  pub room_history : vec_len a.history + a.spare ≤ vec_capacity a.history
  pub room_lists : vec_len a.page_lists + a.spare ≤ vec_capacity a.page_lists
  pub room_chunks : vec_len a.chunks + a.spare ≤ vec_capacity a.chunks
