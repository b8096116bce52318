-- What the named heap gives to the calls on it.
use Rattle.std.proofs.Common.{◌≡◌, ℕ, ◌≤◌, ◌<◌, ◌&&◌, true, false, eq-eqb, refl, List, Option, Some, None, IsSomeAnd, length, sym, ap, subst, ◌∙◌, All}
use Rattle.std.specs.List.{AllByRecursion}
use Rattle.std.specs.Option.{IfSome}
use Rattle.hp_base.specs.declared.span.Span.{Span}
use Rattle.hp_base.specs.declared.span.SpanState.{SpanState}
use Rattle.hp_base.specs.declared.span.SpanState.TheVariants.{Free, Busy}
use Rattle.hp_base.specs.declared.chunk.Chunk.{Chunk}
use Rattle.hp_heap.specs.ChunkOrder.{AreInOrder}
use Rattle.hp_heap.specs.Chunks.{CanRemoveChunk, IsUnused, chunk_at, chunk_of}
use Rattle.hp_heap.specs.LaidOut.{IsChunk}
use Rattle.hp_heap.specs.Tiling.{IsTiled}
use Rattle.hp_heap.specs.PlainHeap.{PlainHeap, is_free, is_free_state}
use Rattle.hp_heap.proofs.RangeLemmas.{AllByRecursion-weaker}
use Rattle.hp_maps.specs.Chunks.{CanAttach}
use Rattle.hp_maps.specs.MapsView.{MapsView}
use Rattle.hp_zone.specs.Directory.{IsNamed, MayRemove, PlainDirectory}
use Rattle.hp_zone.specs.declared.limits.TheConstants.{FIRST_EXTERNAL_SOCKET}
use Rattle.hp_external.specs.Attaching.{HasRoomFor}
use Rattle.hp_external.specs.Elements.{NonePasses, is_busy_by, is_busy_in}
use Rattle.hp_external.specs.Naming.{IsExternalName, IsHeapOf}
use Rattle.hp_external.specs.Tie.{AreListed}
use Rattle.hp_external.proofs.ChunkLemmas.{its_addr, its_len, its_list}
use Rattle.hp_external.proofs.TieSteps.{nothing_listed}

-- the name of a heap without a chunk may go
pub may_remove : (plain : PlainDirectory) (text : List ℕ) (heap : PlainHeap) (index socket place : ℕ) → IsExternalName plain text index socket
    → IsHeapOf index heap → place ≡ heap.index → length heap.chunks ≡ 0 → AreListed plain.ranges heap → MayRemove plain place
may_remove plain text heap index socket place external that is empty listed = record {
  heap = external.found.heap;
  named = subst (λ i. IsNamed plain i external.found.heap) (sym (is ∙ that.index_is)) external.found.there;
  external = subst (λ s. FIRST_EXTERNAL_SOCKET ≤ s) (sym external.found.socket_is) external.external;
  empty = subst (λ i. All (λ range. range.index ≡ i → ⊥) plain.ranges) (sym is) (nothing_listed plain.ranges heap empty listed);
}

-- the chunk that is named is the one of its list, at its address and of its length
module _ (heap : PlainHeap) (addr len : ℕ) (chunk : Chunk) (there : chunk_at addr len heap ≡ Some chunk) (tiled : IsTiled heap)
    (order : AreInOrder heap.chunks) where
  pub of_named : (Q : ℕ → ℕ → Type 0) → Q addr len → IsSomeAnd (chunk_of chunk.list heap) (λ (x : Chunk). Q x.addr x.len)
  of_named Q holds =
      subst (λ (o : Option Chunk). IsSomeAnd o (λ (x : Chunk). Q x.addr x.len)) (sym (its_list heap addr len chunk there tiled order))
      (subst (λ (a : ℕ). Q a chunk.len) (sym (its_addr heap addr len chunk there))
      (subst (λ (l : ℕ). Q addr l) (sym (its_len heap addr len chunk there)) holds))

  pub to_named : (Q : ℕ → ℕ → Type 0) → IfSome (chunk_of chunk.list heap) (λ (x : Chunk). Q x.addr x.len) → Q addr len
  to_named Q holds =
      subst (λ (l : ℕ). Q addr l) (its_len heap addr len chunk there)
      (subst (λ (a : ℕ). Q a chunk.len) (its_addr heap addr len chunk there)
      (subst (λ (o : Option Chunk). IfSome o (λ (x : Chunk). Q x.addr x.len)) (its_list heap addr len chunk there tiled order) holds))

-- a chunk without a busy element is wholly free
free_state : (state : SpanState) → is_busy_by None state ≡ false → is_free_state state ≡ true
free_state (Free stamp) busy = refl
free_state (Busy pad size tag) busy = cc

pub wholly_free : (list : ℕ) (ranges : List Span) → NonePasses (is_busy_in None list) ranges
    → AllByRecursion (λ range. range.list ≡ list → is_free range ≡ true) ranges
wholly_free list ranges none =
    AllByRecursion-weaker (λ (range : Span). is_busy_in None list range ≡ false) (λ (range : Span). range.list ≡ list → is_free range ≡ true)
    (λ range idle same. free_state range.state (sym (ap (λ b. b && is_busy_by None range.state) (eq-eqb range.list list same)) ∙ idle)) ranges none

-- so it may go, where nobody has it attached
pub can_remove : (heap : PlainHeap) (addr len : ℕ) (chunk : Chunk) → chunk_at addr len heap ≡ Some chunk → heap.serves ≡ None → chunk.attached ≡ 0
    → NonePasses (is_busy_in None chunk.list) heap.ranges → CanRemoveChunk addr len heap
can_remove heap addr len chunk there external unmarked free = record {
  external = external;
  unused =
      subst (λ (o : Option Chunk). IsSomeAnd o (IsUnused heap)) (sym there)
      (record { unmarked = unmarked; free = wholly_free chunk.list heap.ranges free });
}

-- a chunk of a heap may be attached by a table with room for it
pub can_attach : (maps : MapsView) (chunk : Chunk) → IsChunk chunk → HasRoomFor maps chunk → CanAttach maps chunk
can_attach maps chunk memory room = record {
  memory = memory;
  pages = room.pages;
  clear = room.clear;
  room = room.room;
  calls = room.calls;
}
