use Rattle.std.proofs.Common.{sym, ap, subst, ◌∙◌, lit<, arith}
use Rattle.hp_heap.specs.Chunks.{CanAddChunk, after_chunk}
use Rattle.hp_heap.specs.Step.{after}
use Rattle.test_heap.proofs.ChunkHeaps.{first, second, second_comes, first_comes, shares_first, shared_first}
use Rattle.test_heap.proofs.tests.chunks.attached.Goals as goal

pub add_chunk-requires-clause-allowed : goal.add_chunk-requires-clause-allowed
add_chunk-requires-clause-allowed c = (lit< tt, subst (λ h. CanAddChunk second h) (sym (c.in_ok-reserve.ensures.same.plain ∙ c.vacant-heap.ensures.plain)) second_comes)

pub add_chunk-requires-2-clause-allowed : goal.add_chunk-requires-2-clause-allowed
unfolding after
add_chunk-requires-2-clause-allowed c = (
  lit< tt,
  subst (λ h. CanAddChunk first h) (sym (c.add_chunk.ensures.heap ∙ ap (after_chunk second) (c.in_ok-reserve.ensures.same.plain ∙ c.vacant-heap.ensures.plain))) first_comes,
)

pub share-requires-clause-allowed : goal.share-requires-clause-allowed
unfolding after
share-requires-clause-allowed c =
    shares_first c.add_chunk-2.new.self.plain
    (c.add_chunk-2.ensures.heap ∙ ap (after_chunk first) (c.add_chunk.ensures.heap ∙ ap (after_chunk second) (c.in_ok-reserve.ensures.same.plain ∙ c.vacant-heap.ensures.plain)))

pub returns-clause-plain : goal.returns-clause-plain
unfolding after
returns-clause-plain c =
    (shared_first 1 c.add_chunk-2.new.self c.share.new.self
    (c.add_chunk-2.ensures.heap ∙ ap (after_chunk first) (c.add_chunk.ensures.heap ∙ ap (after_chunk second) (c.in_ok-reserve.ensures.same.plain ∙ c.vacant-heap.ensures.plain))) c.share.ensures).0

pub returns-clause-spare : goal.returns-clause-spare
unfolding after
returns-clause-spare c =
    omega (
      arith,
      c.in_ok-reserve.ensures.spare,
      c.add_chunk.ensures.spare,
      c.add_chunk-2.ensures.spare,
      (shared_first 1 c.add_chunk-2.new.self c.share.new.self
          (c.add_chunk-2.ensures.heap ∙ ap (after_chunk first) (c.add_chunk.ensures.heap ∙ ap (after_chunk second) (c.in_ok-reserve.ensures.same.plain ∙ c.vacant-heap.ensures.plain))) c.share.ensures).1,
    )
