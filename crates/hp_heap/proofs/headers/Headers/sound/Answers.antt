use Rattle.std.proofs.Common.{◌≡◌, subst}
use Rattle.hp_heap.specs.Headers.{HeadersView, spans_of, exact_lists}
use Rattle.hp_heap.proofs.ExactLemmas.{tied_exact}
use Rattle.hp_heap.proofs.headers.Headers.sound.Goals as goal

pub returns : goal.returns
returns c = subst (λ (v : HeadersView). v.lists ≡ exact_lists (spans_of v.items)) c.self.view_is (tied_exact c.self.inside.elems c.self.inside.lists c.self.invariant.tied)
