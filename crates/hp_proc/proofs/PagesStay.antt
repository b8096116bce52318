-- Calls that leave a heap its pages: an allocation, a search, a free, a resize, and a look at the statistics.
use Rattle.std.proofs.Common.{◌≡◌, ◌∙◌, ℕ, Bool, true, false, cond, leb, not, ◌&&◌, List, Option, Some, None, refl, ap}
use Rattle.hp_base.specs.declared.request.Request.{Request}
use Rattle.hp_base.specs.declared.span.Span.{Span}
use Rattle.hp_base.specs.declared.tag.Caller.{Caller}
use Rattle.hp_base.specs.declared.tag.Tag.{Tag}
use Rattle.hp_heap.proofs.AllocFacts.AllocKept.{alloc_kept}
use Rattle.hp_heap.specs.History.{HeapView, IsCall}
use Rattle.hp_heap.specs.Joining.{after_free, after_free_of, after_insertion, busy_at, is_zone_range}
use Rattle.hp_heap.specs.PlainHeap.{HeapPage, PlainHeap}
use Rattle.hp_heap.specs.Resizing.{after_resize, after_resize_of, bytes_needed, bytes_together, next_free, taken_over, with_new_size}
use Rattle.hp_heap.specs.Step.{after}
use Rattle.hp_heap.specs.declared.entry.HeapAnswer.{HeapAnswer}
use Rattle.hp_heap.specs.declared.entry.HeapCall.TheVariants as call

pub alloc_pages : (caller : Caller) (request : Request) (tag : Tag) (answer : HeapAnswer) (old new : HeapView)
    → IsCall caller (call.Alloc request tag) answer old new → new.plain.pages ≡ old.plain.pages
unfolding after
alloc_pages caller request tag answer old new is =
    ap (λ (heap : PlainHeap). heap.pages) is.heap ∙ (alloc_kept old.plain caller.participant request tag).pages

pub find_pages : (caller : Caller) (tag : Tag) (answer : HeapAnswer) (old new : HeapView)
    → IsCall caller (call.Find tag) answer old new → new.plain.pages ≡ old.plain.pages
unfolding after
find_pages caller tag answer old new is = ap (λ (heap : PlainHeap). heap.pages) is.heap

pub stats_pages : (caller : Caller) (answer : HeapAnswer) (old new : HeapView)
    → IsCall caller call.Stats answer old new → new.plain.pages ≡ old.plain.pages
unfolding after
stats_pages caller answer old new is = ap (λ (heap : PlainHeap). heap.pages) is.heap

pages_by : (b : Bool) (one other : PlainHeap) (pages : List HeapPage) → one.pages ≡ pages → other.pages ≡ pages → (cond b one other).pages ≡ pages
pages_by true one other pages first second = first
pages_by false one other pages first second = second

pub freed_pages : (zone : Bool) (heap : PlainHeap) (found : Option Span) → (after_free_of found zone heap).pages ≡ heap.pages
unfolding after_insertion
freed_pages zone heap None = refl
freed_pages zone heap (Some range) = pages_by (is_zone_range range && not zone) heap (after_insertion range heap) heap.pages refl refl

pub free_pages : (caller : Caller) (addr : ℕ) (zone : Bool) (answer : HeapAnswer) (old new : HeapView)
    → IsCall caller (call.Free addr zone) answer old new → new.plain.pages ≡ old.plain.pages
unfolding after after_free
free_pages caller addr zone answer old new is =
    ap (λ (heap : PlainHeap). heap.pages) is.heap ∙ freed_pages zone old.plain (busy_at addr old.plain)

pub resized_pages : (size : ℕ) (heap : PlainHeap) (found : Option Span) → (after_resize_of found size heap).pages ≡ heap.pages
resized_pages size heap None = refl
resized_pages size heap (Some range) =
    let next = next_free range heap in
    let fits = leb (bytes_needed range size) range.whole in
    let together = leb (bytes_needed range size) (bytes_together range next) in
    pages_by fits (with_new_size range size heap) (cond together (taken_over range next size heap) heap) heap.pages refl
    (pages_by together (taken_over range next size heap) heap heap.pages refl refl)

pub resize_pages : (caller : Caller) (addr size : ℕ) (answer : HeapAnswer) (old new : HeapView)
    → IsCall caller (call.Resize addr size) answer old new → new.plain.pages ≡ old.plain.pages
unfolding after after_resize
resize_pages caller addr size answer old new is =
    ap (λ (heap : PlainHeap). heap.pages) is.heap ∙ resized_pages size old.plain (busy_at addr old.plain)
