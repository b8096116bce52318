-- What the calls of participants that reserve and free memzones come to.
use Rattle.std.proofs.Common.{◌≡◌, ◌∙◌, ℕ, ◌+◌, ◌<◌, ◌==◌, Bool, true, false, ◌&&◌, List, [], ◌∷◌, eq-eqb, Option, Some, None, IfSome, IsSomeAnd, refl, sym, ap, subst, arith}
use Rattle.std.specs.List.{find, slice_get}
use Rattle.std.specs.Option.{is_some}
use Rattle.std.proofs.lemmas.Bool.{and_from, cond-true}
use Rattle.hp_base.specs.declared.chunk.Chunk.{Chunk}
use Rattle.hp_base.specs.declared.request.Request.{Request}
use Rattle.hp_base.specs.declared.span.Span.{Span}
use Rattle.hp_base.specs.declared.span.SpanState.{SpanState}
use Rattle.hp_base.specs.declared.span.SpanState.TheVariants.{Free, Busy}
use Rattle.hp_base.specs.declared.tag.Caller.{Caller}
use Rattle.hp_base.specs.declared.tag.Tag.{Tag}
use Rattle.hp_heap.specs.Allowed.{IsAllowed}
use Rattle.hp_heap.specs.ChunkOrder.{AreInOrder}
use Rattle.hp_heap.specs.Chunks.{chunk_at, chunk_of, is_chunk_at}
use Rattle.hp_heap.specs.History.{HeapView, IsCall, SameButSpare}
use Rattle.hp_heap.specs.Joining.{HasZoneAt, busy_at, has_tag, has_tag_state, is_zone_range, is_zone_state}
use Rattle.hp_heap.specs.PlainHeap.{PlainHeap}
use Rattle.hp_heap.specs.Step.{address_answer}
use Rattle.hp_heap.specs.Tagged.{HasTaggedAt}
use Rattle.hp_heap.specs.Tiling.{IsTiled}
use Rattle.hp_heap.specs.declared.entry.HeapAnswer.TheVariants as answer
use Rattle.hp_heap.specs.declared.entry.HeapCall.TheVariants as call
use Rattle.hp_hall.specs.Naming.{naming_of}
use Rattle.hp_hall.proofs.NamesLeft.{call_leaves}
use Rattle.hp_board.proofs.OwnershipFacts.PagesLeft.{alloc_pages, find_pages, found_none, free_pages, share_pages}
use Rattle.test_board.specs.Zoned.{HasCalls, HasCallsBeside, HasFreed, HasOneMore, HasReserved}
use Rattle.test_board.proofs.ZoneHeaps.{alloc_more, free_more}
use Rattle.test_board.proofs.ZoneLemmas.{none_called, one_called, one_own, room_called, room_own, then_called}

-- RESERVED

-- room was made, and an allocation for a memzone answered an address
pub reserved : (who made : ℕ) (old mid new : HeapView) (caller : Caller) (request : Request) (tag : Tag) (found : Option ℕ) → tag.zone ≡ true → SameButSpare old mid
    → caller ≡ record { participant = who; number = made + 1 } → IsTiled mid.plain → AreInOrder mid.plain.chunks → IsCall caller (call.Alloc request tag) (address_answer found) mid new
    → IfSome found (λ addr. HasReserved who made addr old new)
reserved who made old mid new caller request tag None zone same is tiled order step = tt
reserved who made old mid new caller request tag (Some addr) zone same is tiled order step =
    let calls = one_called who made mid new caller (call.Alloc request tag) (answer.Address addr) is step tiled order (alloc_pages caller request tag (answer.Address addr) mid new step) refl refl in
    record {
      calls = room_called who made (made + 1) old mid new same calls;
      request = request;
      tag = tag;
      entry = room_own who made (made + 1) old mid new same calls
          ∙ (one_own who made mid new caller (call.Alloc request tag) (answer.Address addr) is step tiled order (alloc_pages caller request tag (answer.Address addr) mid new step) refl refl
          ∙ ap (λ (c : Caller). record { caller = c; call = call.Alloc request tag; answer = answer.Address addr } ∷ []) is);
      more = subst (λ (h : PlainHeap). HasOneMore addr (naming_of h) (naming_of new.plain)) same.plain (alloc_more caller request tag addr mid new tiled zone step);
    }

-- FREED

left_of : (x y : Bool) → (x && y) ≡ true → x ≡ true
left_of true y both = refl
left_of false y both = absurd (cc)

zone_by : (found : Option Span) (tag : Tag) → tag.zone ≡ true → IsSomeAnd found (λ range. has_tag tag.zone tag.number range ≡ true) → IsSomeAnd found (λ range. is_zone_range range ≡ true)
zone_by None tag zone there = there
zone_by (Some range) tag zone there = by range.state (subst (λ (z : Bool). has_tag_state z tag.number range.state ≡ true) zone there)
  where
    by : (state : SpanState) → has_tag_state true tag.number state ≡ true → is_zone_state state ≡ true
    by (Free stamp) is = is
    by (Busy pad size own) is = left_of own.zone (own.number == tag.number) is

-- an element that has the tag of a memzone is one
pub zone_at : (tag : Tag) (addr : ℕ) (heap : PlainHeap) → tag.zone ≡ true → HasTaggedAt tag addr heap → HasZoneAt addr heap
zone_at tag addr heap zone there = zone_by (busy_at addr heap) tag zone there

-- room was made, an element was found, and freed
pub freed : (who made : ℕ) (old mid next new : HeapView) (first second : Caller) (tag : Tag) (found : Option ℕ) (addr : ℕ) → SameButSpare old mid
    → first ≡ record { participant = who; number = made + 1 } → second ≡ record { participant = who; number = made + 2 }
    → IsTiled mid.plain → AreInOrder mid.plain.chunks → IsCall first (call.Find tag) (address_answer found) mid next
    → IsTiled next.plain → AreInOrder next.plain.chunks → IsCall second (call.Free addr true) answer.Done next new → HasFreed who made addr old new
freed who made old mid next new first second tag found addr same is then-is tiled order one tiled' order' two =
    let later : made + 2 ≡ (made + 1) + 1 = omega arith in
    let found_same : naming_of next.plain ≡ naming_of old.plain =
    (call_leaves first (call.Find tag) (address_answer found) mid next one tiled tt).naming ∙ ap naming_of same.plain in
    record {
      calls = then_called who made made (made + 2) old mid new (none_called who made old mid same)
          (then_called who made (made + 1) (made + 2) mid next new
          (one_called who made mid next first (call.Find tag) (address_answer found) is one tiled order (find_pages first tag (address_answer found) mid next one) refl (found_none found))
          (subst (λ (n : ℕ). HasCalls who (made + 1) n next new) (sym later)
          (one_called who (made + 1) next new second (call.Free addr true) answer.Done (then-is ∙ ap (λ (n : ℕ). record { participant = who; number = n }) later) two tiled' order'
          (free_pages second addr true answer.Done next new two) refl refl)));
      more = subst (HasOneMore addr (naming_of new.plain)) found_same (free_more second addr next new tiled' two);
    }

-- MARKED

-- the first chunk is that of its list, and the one with its address and length
first_listed : (chunks : List Chunk) (chunk : Chunk) → slice_get chunks 0 ≡ Some chunk → find (λ (c : Chunk). c.list == chunk.list) chunks ≡ Some chunk
first_listed [] chunk first = absurd (cc)
first_listed (c ∷ chunks) chunk first =
    let same : c ≡ chunk = cc in
    cond-true (c.list == chunk.list) (Some c) (find (λ (x : Chunk). x.list == chunk.list) chunks) (eq-eqb c.list chunk.list (ap (λ (x : Chunk). x.list) same)) ∙ ap (λ (x : Chunk). Some x) same

first_found : (chunks : List Chunk) (chunk : Chunk) → slice_get chunks 0 ≡ Some chunk → find (is_chunk_at chunk.addr chunk.len) chunks ≡ Some chunk
first_found [] chunk first = absurd (cc)
first_found (c ∷ chunks) chunk first =
    let same : c ≡ chunk = cc in
    cond-true (is_chunk_at chunk.addr chunk.len c) (Some c) (find (is_chunk_at chunk.addr chunk.len) chunks)
    (and_from (c.addr == chunk.addr) (c.len == chunk.len) (eq-eqb c.addr chunk.addr (ap (λ (x : Chunk). x.addr) same)) (eq-eqb c.len chunk.len (ap (λ (x : Chunk). x.len) same)))
    ∙ ap (λ (x : Chunk). Some x) same

pub first_chunk : (heap : PlainHeap) (chunk : Chunk) → slice_get heap.chunks 0 ≡ Some chunk → chunk_of chunk.list heap ≡ Some chunk
unfolding chunk_of
first_chunk heap chunk first = first_listed heap.chunks chunk first

pub first_at : (heap : PlainHeap) (chunk : Chunk) → slice_get heap.chunks 0 ≡ Some chunk → chunk_at chunk.addr chunk.len heap ≡ Some chunk
unfolding chunk_at
first_at heap chunk first = first_found heap.chunks chunk first

-- what a test on the heap tells of it
pub is_external : (serves : Option ℕ) (some : Bool) → some ≡ is_some serves → some ≡ false → serves ≡ None
is_external None some told fails = refl
is_external (Some socket) some told fails = let wrong : false ≡ true = sym fails ∙ told in absurd (cc)

-- a participant may mark it
pub may_mark : (who : ℕ) (heap : PlainHeap) (chunk : Chunk) → slice_get heap.chunks 0 ≡ Some chunk → heap.serves ≡ None → who < 16
    → IsSomeAnd (chunk_of chunk.list heap) (λ (c : Chunk). IsAllowed who (call.Share c.addr c.len) heap)
may_mark who heap chunk first external few =
    subst (λ (o : Option Chunk). IsSomeAnd o (λ (c : Chunk). IsAllowed who (call.Share c.addr c.len) heap)) (sym (first_chunk heap chunk first))
    (few, record { external = external; found = ap is_some (first_at heap chunk first) })

-- and does
pub marked : (who : ℕ) (old mid new : HeapView) (caller : Caller) (chunk : Chunk) → SameButSpare old mid → caller ≡ record { participant = who; number = 1 }
    → IsTiled mid.plain → AreInOrder mid.plain.chunks → slice_get mid.plain.chunks 0 ≡ Some chunk
    → IfSome (chunk_of chunk.list mid.plain) (λ c. IsCall caller (call.Share c.addr c.len) answer.Done mid new) → HasCallsBeside who 0 1 old new
marked who old mid new caller chunk same is tiled order first shared =
    let step : IsCall caller (call.Share chunk.addr chunk.len) answer.Done mid new =
    subst (λ (o : Option Chunk). IfSome o (λ c. IsCall caller (call.Share c.addr c.len) answer.Done mid new)) (first_chunk mid.plain chunk first) shared in
    record {
      calls = then_called who 0 0 1 old mid new (none_called who 0 old mid same)
          (one_called who 0 mid new caller (call.Share chunk.addr chunk.len) answer.Done is step tiled order (share_pages caller chunk.addr chunk.len answer.Done mid new step) refl refl);
      named = (call_leaves caller (call.Share chunk.addr chunk.len) answer.Done mid new step tiled tt).naming ∙ ap naming_of same.plain;
    }
