use Rattle.std.proofs.Common.{◌≡◌, ℕ, ◌≤◌, [], ◌∷◌, Some, slice_get, vec_len, vec_capacity}
use Rattle.hp_base.specs.declared.limits.TheConstants.{MAX_HEAPS}
use Rattle.hp_heap.specs.History.{HeapView}
use Rattle.hp_heap.specs.PlainHeap.{opening_heap}
use Rattle.test_solo.proofs.tests.empty_heaps.Given as goal

abbrev pub invariant-loop-index : goal.invariant-loop-index
invariant-loop-index l = record {
  count : vec_len l.heaps ≡ l.index;
  room : MAX_HEAPS ≤ vec_capacity l.heaps;
  each : (number : ℕ) (heap : HeapView) → slice_get l.heaps.items number ≡ Some heap
      → (heap.plain ≡ opening_heap number (slice_get (0 ∷ []) number)) × (heap.history ≡ []);
}
