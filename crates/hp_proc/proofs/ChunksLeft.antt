-- A call that brings and takes no chunk, and sets and clears no mark, leaves the chunks of a heap, and so does what else leaves its plain value.
use Rattle.std.proofs.Common.{◌≡◌, ◌∙◌, ℕ, List, map, ap, refl}
use Rattle.std.specs.List.{filter}
use Rattle.std.specs.Prelude.{⊤}
use Rattle.hp_base.specs.Flags.{has_bit}
use Rattle.hp_base.specs.declared.chunk.Chunk.{Chunk}
use Rattle.hp_base.specs.declared.tag.Caller.{Caller}
use Rattle.hp_hall.proofs.LeavesNaming.{named_cut, named_freed, named_placed, named_resized}
use Rattle.hp_hall.specs.Naming.{marked_by, unmarked}
use Rattle.hp_heap.specs.Choice.{chosen}
use Rattle.hp_heap.specs.Cut.{after_cut, cut_at}
use Rattle.hp_heap.specs.Growing.{after_grow}
use Rattle.hp_heap.specs.History.{HeapView, IsCall}
use Rattle.hp_heap.specs.Joining.{after_free, after_insertion, busy_at}
use Rattle.hp_heap.specs.Placing.{after_alloc}
use Rattle.hp_heap.specs.PlainHeap.{PlainHeap}
use Rattle.hp_heap.specs.Resizing.{after_resize}
use Rattle.hp_heap.specs.Step.{after, after_name}
use Rattle.hp_heap.specs.declared.entry.HeapAnswer.{HeapAnswer}
use Rattle.hp_heap.specs.declared.entry.HeapCall.{HeapCall}
use Rattle.hp_heap.specs.declared.entry.HeapCall.TheVariants as call

-- a call has nothing to do with chunks
abbrev pub IsBesideChunks : HeapCall → Type 0
IsBesideChunks (call.Chunk chunk) = ⊥
IsBesideChunks (call.Unchunk addr len) = ⊥
IsBesideChunks (call.Share addr len) = ⊥
IsBesideChunks (call.Unshare addr len) = ⊥
IsBesideChunks _ = ⊤

chunks_after : (participant : ℕ) (step : HeapCall) (heap : PlainHeap) → IsBesideChunks step → (after participant step heap).chunks ≡ heap.chunks
unfolding after after_alloc after_free after_resize after_grow after_insertion after_cut after_name
chunks_after participant (call.Alloc request tag) heap beside = (named_placed heap request tag (chosen participant request heap)).chunks
chunks_after participant (call.Find tag) heap beside = refl
chunks_after participant (call.Free addr zone) heap beside = (named_freed heap zone (busy_at addr heap)).chunks
chunks_after participant (call.Resize addr size) heap beside = (named_resized heap size (busy_at addr heap)).chunks
chunks_after participant (call.Grow run) heap beside = refl
chunks_after participant (call.Cut addr) heap beside = (named_cut heap (cut_at addr heap)).chunks
chunks_after participant call.Stats heap beside = refl
chunks_after participant (call.Name name socket) heap beside = refl
chunks_after participant call.Unname heap beside = refl
chunks_after participant (call.Chunk chunk) heap beside = absurd beside
chunks_after participant (call.Unchunk addr len) heap beside = absurd beside
chunks_after participant (call.Share addr len) heap beside = absurd beside
chunks_after participant (call.Unshare addr len) heap beside = absurd beside

pub call_chunks : (caller : Caller) (its : HeapCall) (answer : HeapAnswer) (old new : HeapView) → IsCall caller its answer old new
    → IsBesideChunks its → new.plain.chunks ≡ old.plain.chunks
call_chunks caller its answer old new is beside =
    ap (λ (heap : PlainHeap). heap.chunks) is.heap ∙ chunks_after caller.participant its old.plain beside

-- where the chunks are the same, so are the marks of each
pub same_marks : (who : ℕ) (old new : PlainHeap) → new.chunks ≡ old.chunks → marked_by who new ≡ marked_by who old
unfolding marked_by
same_marks who old new same = ap (λ (chunks : List Chunk). map unmarked (filter (λ (chunk : Chunk). has_bit chunk.attached who) chunks)) same

pub call_marks : (who : ℕ) (caller : Caller) (its : HeapCall) (answer : HeapAnswer) (old new : HeapView) → IsCall caller its answer old new
    → IsBesideChunks its → marked_by who new.plain ≡ marked_by who old.plain
call_marks who caller its answer old new is beside = same_marks who old.plain new.plain (call_chunks caller its answer old new is beside)
