use Rattle.std.proofs.Common.{◌≡◌, ◌≤◌, ◌==◌, filter, length, take}
use Rattle.hp_proc.proofs.own_chunks.count_in.Given as goal

abbrev pub invariant-loop-chunk : goal.invariant-loop-chunk
invariant-loop-chunk l = record {
  count : l.count ≡ length (filter (λ chunk. chunk.heap == l.fn.heap) (take l.chunk-index l.fn.chunks));
  few : l.count ≤ l.chunk-index;
}
