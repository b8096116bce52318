-- What holds of elements under keys, of the one that a header is of.
use Rattle.std.proofs.Common.{◌≡◌, ℕ, List, ◌∷◌, ◌++◌, ap, subst, ◌∙◌}
use Rattle.std.specs.List.{AllByRecursion}
use Rattle.hp_base.specs.declared.span.Span.{Span}
use Rattle.hp_chain.specs.Chain.{Keyed}
use Rattle.hp_elem.specs.Items.{Items, Stands}
use Rattle.hp_elem.specs.declared.node.Node.{Node}
use Rattle.hp_heap.specs.Headers.{spans_of}
use Rattle.hp_heap.specs.Joins.{HasRoom}
use Rattle.hp_heap.specs.FreeSearch.{HasSpace}
use Rattle.hp_heap.proofs.AllocFacts.SplitLemmas.{spans-append}
use Rattle.hp_heap.proofs.RangeLemmas.{AllByRecursion-back}

pub span_in : (P : Span → Type 0) (items xs : Items) (e : Keyed Span) (ys : Items) → items ≡ xs ++ e ∷ ys → AllByRecursion P (spans_of items) → P e.value
span_in P items xs e ys is all =
    (AllByRecursion-back P (spans_of xs) (e.value ∷ spans_of ys) (subst (λ (zs : List Span). AllByRecursion P zs) (ap spans_of is ∙ spans-append xs (e ∷ ys)) all)).0

pub space_at : (items : Items) (key : ℕ) (node : Node) → Stands items key node → HasRoom (spans_of items) → HasSpace node.span
space_at items key node stands room = span_in HasSpace items stands.front (record { key = key; value = node.span }) stands.back stands.is room
