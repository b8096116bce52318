-- One more entry: a legal history stays legal, and leaves the next heap.
use Rattle.std.proofs.Common.{◌≡◌, ℕ, List, [], ◌∷◌, ◌++◌, Option, Some, None, refl, sym, ap, subst, ◌∙◌, Bool, true, false, cond, not, ◌&&◌, leb}
use Rattle.std.proofs.lemmas.List.Sums.{fold-append}
use Rattle.hp_base.specs.declared.span.Span.{Span}
use Rattle.hp_base.specs.declared.chunk.Chunk.{Chunk}
use Rattle.hp_base.specs.declared.request.Request.{Request}
use Rattle.hp_base.specs.declared.tag.Tag.{Tag}
use Rattle.hp_heap.specs.declared.entry.Entry.{Entry}
use Rattle.hp_heap.specs.declared.entry.HeapCall.{HeapCall}
use Rattle.hp_heap.specs.declared.entry.HeapCall.TheVariants as call
use Rattle.hp_heap.specs.PlainHeap.{PlainHeap, opening_heap}
use Rattle.hp_heap.specs.Choice.{chosen}
use Rattle.hp_heap.specs.Placing.{placed, after_alloc, after_choice}
use Rattle.hp_heap.specs.Joining.{after_insertion, busy_at, is_zone_range, after_free, after_free_of}
use Rattle.hp_heap.specs.Resizing.{after_resize, after_resize_of, bytes_needed, bytes_together, next_free, with_new_size, taken_over}
use Rattle.hp_heap.specs.Cut.{after_cut, after_cut_of, cut_at, PageCut}
use Rattle.hp_heap.specs.Growing.{after_grow}
use Rattle.hp_heap.specs.Chunks.{after_chunk, after_unchunk, without_chunk, chunk_at, after_share, after_unshare}
use Rattle.hp_heap.specs.Step.{after, after_name}
use Rattle.hp_heap.specs.History.{after_entry, replay, IsLegal, IsLegalEntry, opening_of, StandsFor}

-- a heap is of the same place and kind as another
pub record IsSameHeap (old new : PlainHeap) : Type 0 where
  pub index : new.index ≡ old.index
  pub serves : new.serves ≡ old.serves

same_by : (heap : PlainHeap) (b : Bool) (x y : PlainHeap) → IsSameHeap heap x → IsSameHeap heap y → IsSameHeap heap (cond b x y)
same_by heap true x y first second = first
same_by heap false x y first second = second

same_placed : (heap : PlainHeap) (request : Request) (tag : Tag) (o : Option Span) → IsSameHeap heap (after_choice o request tag heap)
unfolding placed
same_placed heap request tag None = record { index = refl; serves = refl }
same_placed heap request tag (Some range) = record { index = refl; serves = refl }

same_freed : (heap : PlainHeap) (zone : Bool) (o : Option Span) → IsSameHeap heap (after_free_of o zone heap)
unfolding after_insertion
same_freed heap zone None = record { index = refl; serves = refl }
same_freed heap zone (Some range) = same_by heap (is_zone_range range && not zone) heap (after_insertion range heap) (record { index = refl; serves = refl }) (record { index = refl; serves = refl })

same_resized : (heap : PlainHeap) (size : ℕ) (o : Option Span) → IsSameHeap heap (after_resize_of o size heap)
same_resized heap size None = record { index = refl; serves = refl }
same_resized heap size (Some range) =
    let fits = leb (bytes_needed range size) range.whole in
    let taken = taken_over range (next_free range heap) size heap in
    let fits_both = leb (bytes_needed range size) (bytes_together range (next_free range heap)) in
    same_by heap fits (with_new_size range size heap) (cond fits_both taken heap) (record { index = refl; serves = refl })
    (same_by heap fits_both taken heap (record { index = refl; serves = refl }) (record { index = refl; serves = refl }))

same_cut : (heap : PlainHeap) (o : Option PageCut) → IsSameHeap heap (after_cut_of o heap)
same_cut heap None = record { index = refl; serves = refl }
same_cut heap (Some cut) = record { index = refl; serves = refl }

same_without : (heap : PlainHeap) (o : Option Chunk) → IsSameHeap heap (without_chunk o heap)
same_without heap None = record { index = refl; serves = refl }
same_without heap (Some chunk) = record { index = refl; serves = refl }

-- no call changes the place or the kind of a heap
pub after-same : (participant : ℕ) (step : HeapCall) (heap : PlainHeap) → IsSameHeap heap (after participant step heap)
unfolding after after_alloc after_free after_resize after_grow after_insertion after_cut after_name after_chunk after_unchunk after_share after_unshare
after-same participant (call.Alloc request tag) heap = same_placed heap request tag (chosen participant request heap)
after-same participant (call.Find tag) heap = record { index = refl; serves = refl }
after-same participant (call.Free addr zone) heap = same_freed heap zone (busy_at addr heap)
after-same participant (call.Resize addr size) heap = same_resized heap size (busy_at addr heap)
after-same participant (call.Grow run) heap = record { index = refl; serves = refl }
after-same participant (call.Cut addr) heap = same_cut heap (cut_at addr heap)
after-same participant call.Stats heap = record { index = refl; serves = refl }
after-same participant (call.Name name socket) heap = record { index = refl; serves = refl }
after-same participant call.Unname heap = record { index = refl; serves = refl }
after-same participant (call.Chunk chunk) heap = record { index = refl; serves = refl }
after-same participant (call.Unchunk addr len) heap = same_without heap (chunk_at addr len heap)
after-same participant (call.Share addr len) heap = record { index = refl; serves = refl }
after-same participant (call.Unshare addr len) heap = record { index = refl; serves = refl }

-- one more entry is one more step
pub replay-push : (heap : PlainHeap) (history : List Entry) (entry : Entry) → replay heap (history ++ entry ∷ []) ≡ after_entry (replay heap history) entry
replay-push heap history entry = fold-append after_entry heap history (entry ∷ [])

-- a legal history stays legal with a call's entry
pub IsLegal-push : (heap : PlainHeap) (history : List Entry) (entry : Entry) → IsLegal heap history
    → IsLegalEntry (replay heap history) entry → IsLegal heap (history ++ entry ∷ [])
IsLegal-push heap [] entry legal next = (next, tt)
IsLegal-push heap (first ∷ history) entry legal next = (legal.0, IsLegal-push (after_entry heap first) history entry legal.1 next)

after_entry-same : (heap : PlainHeap) (entry : Entry) → IsSameHeap heap (after_entry heap entry)
unfolding after_entry
after_entry-same heap entry = after-same entry.caller.participant entry.call heap

-- what a heap opened as stays
pub replay-same : (heap : PlainHeap) (history : List Entry) → IsSameHeap heap (replay heap history)
replay-same heap [] = record { index = refl; serves = refl }
replay-same heap (first ∷ history) =
    let step = after_entry-same heap first in
    let rest = replay-same (after_entry heap first) history in
    record { index = rest.index ∙ step.index; serves = rest.serves ∙ step.serves }

-- the heap that a history leaves from an opening heap on opened as that
pub opening_of-replay : (index : ℕ) (serves : Option ℕ) (history : List Entry) → opening_of (replay (opening_heap index serves) history) ≡ opening_heap index serves
opening_of-replay index serves history =
    let same = replay-same (opening_heap index serves) history in
    ap (λ (i : ℕ). opening_heap i (replay (opening_heap index serves) history).serves) same.index ∙ ap (λ (s : Option ℕ). opening_heap index s) same.serves

-- the heap stands for its history, one entry on
pub StandsFor-push : (heap : PlainHeap) (history : List Entry) (entry : Entry) → StandsFor heap history
    → IsLegalEntry heap entry → StandsFor (after_entry heap entry) (history ++ entry ∷ [])
unfolding after_entry
StandsFor-push heap history entry stands next =
    let same = after-same entry.caller.participant entry.call heap in
    let opening : opening_of (after_entry heap entry) ≡ opening_of heap = ap (λ (i : ℕ). opening_heap i (after_entry heap entry).serves) same.index ∙ ap (λ (s : Option ℕ). opening_heap heap.index s) same.serves in
    record {
      legal = subst (λ from. IsLegal from (history ++ entry ∷ [])) (sym opening) (IsLegal-push (opening_of heap) history entry stands.legal (subst (λ h. IsLegalEntry h entry) stands.left next));
      left = ap (λ h. after_entry h entry) stands.left ∙ sym (replay-push (opening_of heap) history entry) ∙ ap (λ from. replay from (history ++ entry ∷ [])) (sym opening);
    }
