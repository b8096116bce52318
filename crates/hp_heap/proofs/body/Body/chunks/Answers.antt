use Rattle.std.proofs.Common.{sym, ap, subst, ◌∙◌}
use Rattle.hp_heap.specs.ChunkOrder.{AreInOrder}
use Rattle.hp_heap.proofs.body.Body.chunks.Goals as goal

pub returns-clause-chunks : goal.returns-clause-chunks
returns-clause-chunks c = c.as_slice.ensures.value ∙ c.self.invariant.chunks ∙ ap (λ v. v.plain.chunks) c.self.view_is

pub returns-clause-order : goal.returns-clause-order
returns-clause-order c = subst AreInOrder (sym (c.as_slice.ensures.value ∙ c.self.invariant.chunks)) c.self.invariant.kept
