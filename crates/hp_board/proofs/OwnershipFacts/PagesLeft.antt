-- Calls by which no page of a heap comes or goes, and what they answer.
use Rattle.std.proofs.Common.{◌≡◌, ◌∙◌, ℕ, Bool, cond, true, false, not, ◌&&◌, List, [], Option, Some, None, refl, ap}
use Rattle.hp_base.specs.declared.chunk.Chunk.{Chunk}
use Rattle.hp_base.specs.declared.request.Request.{Request}
use Rattle.hp_base.specs.declared.span.Span.{Span}
use Rattle.hp_base.specs.declared.tag.Caller.{Caller}
use Rattle.hp_base.specs.declared.tag.Tag.{Tag}
use Rattle.hp_heap.proofs.AllocFacts.AllocKept.{alloc_kept}
use Rattle.hp_heap.specs.Chunks.{after_chunk, after_share}
use Rattle.hp_heap.specs.Freeing.{fault_answer}
use Rattle.hp_heap.specs.History.{HeapView, IsCall}
use Rattle.hp_heap.specs.HistoryLaws.{run_cut}
use Rattle.hp_heap.specs.Joining.{after_free, after_free_of, after_insertion, busy_at, is_zone_range}
use Rattle.hp_heap.specs.PlainHeap.{HeapPage, PlainHeap}
use Rattle.hp_heap.specs.Step.{address_answer, after, after_name}
use Rattle.hp_heap.specs.declared.entry.HeapAnswer.{HeapAnswer}
use Rattle.hp_heap.specs.declared.entry.HeapCall.TheVariants as call
use Rattle.hp_heap.specs.declared.freeing.FreeFault.{FreeFault}
use Rattle.hp_heap.specs.declared.freeing.FreeFault.TheVariants as fault

-- an allocation and a free leave a heap its pages
pub alloc_pages : (caller : Caller) (request : Request) (tag : Tag) (answer : HeapAnswer) (old new : HeapView)
    → IsCall caller (call.Alloc request tag) answer old new → new.plain.pages ≡ old.plain.pages
unfolding after
alloc_pages caller request tag answer old new is =
    ap (λ (heap : PlainHeap). heap.pages) is.heap ∙ (alloc_kept old.plain caller.participant request tag).pages

pages_by : (b : Bool) (one other : PlainHeap) (pages : List HeapPage) → one.pages ≡ pages → other.pages ≡ pages → (cond b one other).pages ≡ pages
pages_by true one other pages first second = first
pages_by false one other pages first second = second

freed_pages : (zone : Bool) (heap : PlainHeap) (found : Option Span) → (after_free_of found zone heap).pages ≡ heap.pages
unfolding after_insertion
freed_pages zone heap None = refl
freed_pages zone heap (Some range) = pages_by (is_zone_range range && not zone) heap (after_insertion range heap) heap.pages refl refl

pub free_pages : (caller : Caller) (addr : ℕ) (zone : Bool) (answer : HeapAnswer) (old new : HeapView)
    → IsCall caller (call.Free addr zone) answer old new → new.plain.pages ≡ old.plain.pages
unfolding after after_free
free_pages caller addr zone answer old new is =
    ap (λ (heap : PlainHeap). heap.pages) is.heap ∙ freed_pages zone old.plain (busy_at addr old.plain)

-- and what they answer names no run that was cut
pub found_none : (found : Option ℕ) → run_cut (address_answer found) ≡ []
found_none None = refl
found_none (Some address) = refl

pub freed_none : (fault : Option FreeFault) → run_cut (fault_answer fault) ≡ []
freed_none None = refl
freed_none (Some (fault.NotAnElement address)) = refl
freed_none (Some (fault.IsZone tag)) = refl

-- calls that find an element, give a name, add memory or mark it
pub find_pages : (caller : Caller) (tag : Tag) (answer : HeapAnswer) (old new : HeapView) → IsCall caller (call.Find tag) answer old new → new.plain.pages ≡ old.plain.pages
unfolding after
find_pages caller tag answer old new is = ap (λ (heap : PlainHeap). heap.pages) is.heap

pub name_pages : (caller : Caller) (name : List ℕ) (socket : ℕ) (answer : HeapAnswer) (old new : HeapView) → IsCall caller (call.Name name socket) answer old new
    → new.plain.pages ≡ old.plain.pages
unfolding after after_name
name_pages caller name socket answer old new is = ap (λ (heap : PlainHeap). heap.pages) is.heap

pub chunk_pages : (caller : Caller) (chunk : Chunk) (answer : HeapAnswer) (old new : HeapView) → IsCall caller (call.Chunk chunk) answer old new → new.plain.pages ≡ old.plain.pages
unfolding after after_chunk
chunk_pages caller chunk answer old new is = ap (λ (heap : PlainHeap). heap.pages) is.heap

pub share_pages : (caller : Caller) (addr len : ℕ) (answer : HeapAnswer) (old new : HeapView) → IsCall caller (call.Share addr len) answer old new → new.plain.pages ≡ old.plain.pages
unfolding after after_share
share_pages caller addr len answer old new is = ap (λ (heap : PlainHeap). heap.pages) is.heap
