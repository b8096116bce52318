-- The chunk is among those that are left.
use Rattle.std.proofs.Common.{◌≡◌, drop}
use Rattle.std.specs.List.{find}
use Rattle.hp_heap.specs.Chunks.{is_chunk_at}
use Rattle.hp_external.proofs.naming.first_at.Given as goal

abbrev pub invariant-loop-chunk : goal.invariant-loop-chunk
invariant-loop-chunk l = find (is_chunk_at l.addr l.len) l.chunks ≡ find (is_chunk_at l.addr l.len) (drop l.chunk-index l.chunks)
