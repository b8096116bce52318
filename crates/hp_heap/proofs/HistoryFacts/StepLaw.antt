-- Every call that is allowed leaves a tiled heap tiled.
use Rattle.std.proofs.Common.{ℕ}
use Rattle.hp_heap.specs.declared.entry.HeapCall.{HeapCall}
use Rattle.hp_heap.specs.declared.entry.HeapCall.TheVariants as call
use Rattle.hp_heap.specs.PlainHeap.{PlainHeap}
use Rattle.hp_heap.specs.Tiling.{IsTiled}
use Rattle.hp_heap.specs.Chunks.{with_mark, without_mark, after_share, after_unshare}
use Rattle.hp_heap.specs.Step.{after, after_name}
use Rattle.hp_heap.specs.Allowed.{IsAllowed}
use Rattle.hp_heap.proofs.AllocFacts.AllocLaw.{alloc-tiled}
use Rattle.hp_heap.proofs.GrowLaw.{grow-tiled}
use Rattle.hp_heap.proofs.FreeFacts.FreeTiling.{free-tiled}
use Rattle.hp_heap.proofs.ResizeFacts.ResizeTiling.{resize-tiled}
use Rattle.hp_heap.proofs.CutFacts.CutTiling.{cut-tiled}
use Rattle.hp_heap.proofs.ChunkFacts.ChunkTiling.{chunk-tiled}
use Rattle.hp_heap.proofs.ChunkFacts.UnchunkTiling.{unchunk-tiled}
use Rattle.hp_heap.proofs.ChunkFacts.MarksTiling.{marks-tiled}

pub after-tiled : (participant : ℕ) (step : HeapCall) (heap : PlainHeap) → IsTiled heap → IsAllowed participant step heap → IsTiled (after participant step heap)
unfolding after after_name after_share after_unshare
after-tiled participant (call.Alloc request tag) heap tiled allowed = alloc-tiled heap participant request tag tiled
after-tiled participant (call.Find tag) heap tiled allowed = tiled
after-tiled participant (call.Free addr zone) heap tiled allowed = free-tiled addr zone heap tiled
after-tiled participant (call.Resize addr size) heap tiled allowed = resize-tiled addr size heap tiled allowed
after-tiled participant (call.Grow run) heap tiled allowed = grow-tiled heap run tiled allowed
after-tiled participant (call.Cut addr) heap tiled allowed = cut-tiled addr heap tiled
after-tiled participant call.Stats heap tiled allowed = tiled
after-tiled participant (call.Name name socket) heap tiled allowed = record { kind = tiled.kind; laid = tiled.laid; tiling = tiled.tiling }
after-tiled participant call.Unname heap tiled allowed = record { kind = tiled.kind; laid = tiled.laid; tiling = tiled.tiling }
after-tiled participant (call.Chunk chunk) heap tiled allowed = chunk-tiled heap chunk tiled allowed.1
after-tiled participant (call.Unchunk addr len) heap tiled allowed = unchunk-tiled addr len heap tiled allowed.1.external
after-tiled participant (call.Share addr len) heap tiled allowed = marks-tiled (with_mark participant) addr len heap tiled allowed.1.external
after-tiled participant (call.Unshare addr len) heap tiled allowed = marks-tiled (without_mark participant) addr len heap tiled allowed.1.external
