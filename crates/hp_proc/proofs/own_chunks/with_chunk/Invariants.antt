use Rattle.std.proofs.Common.{take, filter, ◌∷◌, ◌++◌, ◌≡◌}
use Rattle.hp_proc.specs.OwnChunks.{is_before}
use Rattle.hp_proc.proofs.own_chunks.with_chunk.Given as goal

abbrev pub invariant-loop-other : goal.invariant-loop-other
invariant-loop-other l = l.all.items ≡ filter (λ other. is_before other l.fn.chunk) (take l.other-index l.fn.chunks)

abbrev pub invariant-loop-other-2 : goal.invariant-loop-other-2
invariant-loop-other-2 l =
    l.all.items
    ≡ filter (λ other. is_before other l.fn.chunk) l.fn.chunks
    ++ (l.fn.chunk ∷ filter (λ other. is_before l.fn.chunk other) (take l.other-index l.fn.chunks))
