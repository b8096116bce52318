use Rattle.std.proofs.Common.{◌≡◌, ◌&&◌, drop, eqb}
use Rattle.std.specs.List.{list_any}
use Rattle.hp_base.specs.declared.chunk.Chunk.{Chunk}
use Rattle.hp_base.specs.Flags.{has_bit}
use Rattle.hp_heap.proofs.choice.is_usable.Given as goal

abbrev pub invariant-loop-chunk : goal.invariant-loop-chunk
invariant-loop-chunk l =
    list_any (λ (chunk : Chunk). eqb chunk.list l.fn.list && has_bit chunk.attached l.fn.need.participant) l.fn.chunks
    ≡ list_any (λ (chunk : Chunk). eqb chunk.list l.fn.list && has_bit chunk.attached l.fn.need.participant) (drop l.chunk-index l.fn.chunks)
