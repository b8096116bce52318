-- Every call leaves the marks of all but its caller: a chunk comes without marks, and one that goes has none.
use Rattle.std.proofs.Common.{◌≡◌, ◌≢◌, ℕ, ◌+◌, ◌<◌, Bool, true, false, eqb, ltb, not, List, [], ◌∷◌, ◌++◌, map, Option, Some, None, IsSomeAnd, refl, sym, ap, ◌∙◌, inl, inr, arith}
use Rattle.std.specs.Int.{bit_at}
use Rattle.std.specs.List.{AllByRecursion, filter}
use Rattle.std.proofs.lemmas.Bool.{cases_lt, cond-false, eq-eqb, false≢true, le-ltb, lt-ltb, ne_eqb}
use Rattle.std.proofs.lemmas.List.Elements.{filter-append}
use Rattle.std.proofs.lemmas.Nat.Bits.{bit_at-zero}
use Rattle.hp_base.specs.Flags.{has_bit}
use Rattle.hp_base.specs.declared.chunk.Chunk.{Chunk}
use Rattle.hp_heap.proofs.ChunkFacts.ChunkListLemmas.{rise_over}
use Rattle.hp_heap.proofs.ChunkFacts.ChunkTiling.{elsewhere}
use Rattle.hp_heap.proofs.Members.{AllByRecursion-each, counted_once, filter_implied, filter_swapped, find_some}
use Rattle.hp_heap.specs.Choice.{chosen}
use Rattle.hp_heap.specs.ChunkOrder.{AreInOrder, AreRisingFrom}
use Rattle.hp_heap.specs.Chunks.{CanAddChunk, IsUnused, after_chunk, after_share, after_unchunk, after_unshare, chunk_at, is_chunk_at, with_mark, without_chunk, without_mark}
use Rattle.hp_heap.specs.Cut.{after_cut, cut_at}
use Rattle.hp_heap.specs.Growing.{after_grow}
use Rattle.hp_heap.specs.Joining.{after_free, after_insertion, busy_at}
use Rattle.hp_heap.specs.Placing.{after_alloc}
use Rattle.hp_heap.specs.PlainHeap.{PlainHeap}
use Rattle.hp_heap.specs.Resizing.{after_resize}
use Rattle.hp_heap.specs.Step.{after, after_name}
use Rattle.hp_heap.specs.Tiling.{IsTiled}
use Rattle.hp_heap.specs.declared.entry.HeapCall.TheVariants as call
use Rattle.hp_hall.specs.Naming.{CallsMarkAlone, marked_by, unmarked}
use Rattle.hp_hall.proofs.LeavesNaming.{marks_same, marks_with, named_cut, named_freed, named_placed, named_resized, with_mark_bit, without_mark_bit}

-- chunks by rising address are those below an address and those above it, where none is there
all_over : (at : ℕ) (cs : List Chunk) → AllByRecursion (λ (c : Chunk). at < c.addr) cs → filter (λ (c : Chunk). ltb at c.addr) cs ≡ cs
all_over at [] over = refl
all_over at (c ∷ cs) over = rw (lt-ltb at c.addr over.0) (ap (λ (l : List Chunk). c ∷ l) (all_over at cs over.1))

none_under : (at : ℕ) (cs : List Chunk) → AllByRecursion (λ (c : Chunk). at < c.addr) cs → filter (λ (c : Chunk). ltb c.addr at) cs ≡ []
none_under at [] over = refl
none_under at (c ∷ cs) over = rw (le-ltb c.addr at (omega (arith, over.0))) (none_under at cs over.1)

parted_is : (at from : ℕ) (cs : List Chunk) → AreRisingFrom from cs → AllByRecursion (λ (c : Chunk). c.addr ≢ at) cs
    → filter (λ (c : Chunk). ltb c.addr at) cs ++ filter (λ (c : Chunk). ltb at c.addr) cs ≡ cs
parted_is at from [] rising apart = refl
parted_is at from (c ∷ cs) rising apart = elim (cases_lt at c.addr) [
  | inl above ↦ (let over = rise_over at (c.addr + 1) cs (omega (arith, above)) rising.1 in
      rw (lt-ltb at c.addr above, le-ltb c.addr at (omega (arith, above)), none_under at cs over, all_over at cs over) refl)
  | inr level ↦ elim (cases_lt c.addr at) [
    | inl below ↦ rw (le-ltb at c.addr (omega (arith, below)), lt-ltb c.addr at below)
        (ap (λ (l : List Chunk). c ∷ l) (parted_is at (c.addr + 1) cs rising.1 apart.1))
    | inr more ↦ absurd (apart.0 (omega (arith, level, more)))
  ]
]

module _ (other : ℕ) where
  abbrev has : Chunk → Bool
  has chunk = has_bit chunk.attached other

  has_none : (chunk : Chunk) → chunk.attached ≡ 0 → has chunk ≡ false
  has_none chunk none = ap (λ (m : ℕ). eqb (bit_at m other) 1) none ∙ ap (λ (b : ℕ). eqb b 1) (bit_at-zero other)

  came : (heap : PlainHeap) (chunk : Chunk) → IsTiled heap → AreInOrder heap.chunks → CanAddChunk chunk heap
      → marked_by other (after_chunk chunk heap) ≡ marked_by other heap
  unfolding marked_by after_chunk
  came heap chunk tiled order can =
      let low = filter (λ (c : Chunk). ltb c.addr chunk.addr) heap.chunks in
      let high = filter (λ (c : Chunk). ltb chunk.addr c.addr) heap.chunks in
      let apart = AllByRecursion-each (λ (c : Chunk). c.addr ≢ chunk.addr) heap.chunks (λ c among same. elsewhere heap chunk tiled can c among same) in
      ap (map unmarked)
      (filter-append has low (chunk ∷ high)
      ∙ ap (λ (l : List Chunk). filter has low ++ l) (cond-false (has chunk) (chunk ∷ filter has high) (filter has high) (has_none chunk can.unmarked))
      ∙ sym (filter-append has low high)
      ∙ ap (filter has) (parted_is chunk.addr 0 heap.chunks order.rising apart))

  went_by : (heap : PlainHeap) (addr len : ℕ) → IsTiled heap → (o : Option Chunk) → chunk_at addr len heap ≡ o → IsSomeAnd o (IsUnused heap)
      → marked_by other (without_chunk o heap) ≡ marked_by other heap
  unfolding marked_by chunk_at
  went_by heap addr len tiled None found unused = refl
  went_by heap addr len tiled (Some chunk) found unused =
      let there = find_some (is_chunk_at addr len) heap.chunks chunk found in
      let keep : Chunk → Bool = λ c. not (eqb c.list chunk.list) in
      let kept = AllByRecursion-each (λ (c : Chunk). has c ≡ true → keep c ≡ true) heap.chunks (λ c among marked.
      ap not (ne_eqb c.list chunk.list (λ same.
      let one = counted_once (λ (x : Chunk). eqb x.list chunk.list) heap.chunks c chunk (tiled.laid.own_lists chunk.list)
      (eq-eqb c.list chunk.list same, among) (eq-eqb chunk.list chunk.list refl, there.1) in
      false≢true (sym (has_none chunk unused.unmarked) ∙ ap has (sym one) ∙ marked)))) in
      ap (map unmarked) (filter_swapped has keep heap.chunks ∙ filter_implied has keep heap.chunks kept)

-- each call
pub calls_mark_alone : CallsMarkAlone
unfolding after after_alloc after_free after_resize after_grow after_insertion after_cut after_name after_unchunk after_share after_unshare marked_by
calls_mark_alone participant (call.Alloc request tag) heap tiled order allowed =
    marks_with participant heap (after_alloc participant request tag heap) (named_placed heap request tag (chosen participant request heap)).chunks
calls_mark_alone participant (call.Find tag) heap tiled order allowed = λ other apart. refl
calls_mark_alone participant (call.Free addr zone) heap tiled order allowed =
    marks_with participant heap (after_free addr zone heap) (named_freed heap zone (busy_at addr heap)).chunks
calls_mark_alone participant (call.Resize addr size) heap tiled order allowed =
    marks_with participant heap (after_resize addr size heap) (named_resized heap size (busy_at addr heap)).chunks
calls_mark_alone participant (call.Grow run) heap tiled order allowed = marks_with participant heap (after_grow run heap) refl
calls_mark_alone participant (call.Cut addr) heap tiled order allowed =
    marks_with participant heap (after_cut addr heap) (named_cut heap (cut_at addr heap)).chunks
calls_mark_alone participant call.Stats heap tiled order allowed = λ other apart. refl
calls_mark_alone participant (call.Name name socket) heap tiled order allowed = λ other apart. refl
calls_mark_alone participant call.Unname heap tiled order allowed = λ other apart. refl
calls_mark_alone participant (call.Chunk chunk) heap tiled order allowed = λ other apart. came other heap chunk tiled order allowed.1
calls_mark_alone participant (call.Unchunk addr len) heap tiled order allowed =
    λ other apart. went_by other heap addr len tiled (chunk_at addr len heap) refl allowed.1.unused
calls_mark_alone participant (call.Share addr len) heap tiled order allowed = λ other apart.
    marks_same (with_mark participant) addr len other (λ m. with_mark_bit participant other m apart) heap.chunks
calls_mark_alone participant (call.Unshare addr len) heap tiled order allowed = λ other apart.
    marks_same (without_mark participant) addr len other (λ m. without_mark_bit participant other m apart) heap.chunks
