use Rattle.std.proofs.Common.{◌≡◌, None, sym, ap, ◌∙◌, subst}
use Rattle.std.proofs.lemmas.Option.{same_Some}
use Rattle.hp_base.specs.declared.span.Span.{Span}
use Rattle.hp_chain.specs.Chain.{Places}
use Rattle.hp_chain.specs.Writes.{with_next, with_prev, with_place}
use Rattle.hp_elem.specs.declared.node.Node.{Node}
use Rattle.hp_elem.specs.Links.{place_at}
use Rattle.hp_elem.proofs.edits.unlink.Goals as goal

pub returns-clause-places : goal.returns-clause-places
returns-clause-places c = λ node is.
    let stored : Node = c.index.result.now in
    let same : stored ≡ node = same_Some stored node (sym c.index.ensures ∙ is) in
    let at : Places Span = place_at c.args.slots.now in
    subst (λ (n : Node). place_at c.take.new.slots ≡ with_place c.args.key None (with_prev n.next n.prev (with_next n.prev n.next at))) same
    (c.take.ensures.places
    ∙ ap (λ (m : Places Span). with_place c.args.key None m) c.set_prev.ensures.places
    ∙ ap (λ (m : Places Span). with_place c.args.key None (with_prev stored.next stored.prev m)) c.set_next.ensures.places)
