-- The first list of a socket and a page size has its number there; another one leaves it.
use Rattle.std.proofs.Common.{◌≡◌, ◌∙◌, None, ap, sym, arith, get_or, length}
use Rattle.hp_segs.proofs.SlotFacts.NumberLemmas.{numbered_beside, numbered_first}
use Rattle.hp_segs.proofs.table.lists.Lists.push.Goals as goal

pub invariant_of-self-in-None : goal.invariant_of-self-in-None
invariant_of-self-in-None c =
    let long : c.len-number.result ≡ length c.self.inside.infos.items = omega (arith, c.len-number.ensures, c.self.inside.infos.ok) in
    rw (c.in_ok-push.ensures.items, c.deref_mut.ensures.value, long)
    (numbered_first c.self.inside.infos.items c.self.inside.numbers.value c.args.info c.in-Some.place (sym c.number_place.ensures ∙ c.in-Some.is)
    c.self.invariant (ap (λ numbers. get_or numbers c.in-Some.place None) (sym c.deref.ensures) ∙ c.in-None.is))

pub invariant_of-self-in_default-deref : goal.invariant_of-self-in_default-deref
invariant_of-self-in_default-deref c =
    rw c.in_ok-push.ensures.items
    (numbered_beside c.self.inside.infos.items c.self.inside.numbers.value c.args.info c.in-Some.place (sym c.number_place.ensures ∙ c.in-Some.is)
    c.self.invariant (λ none. c.in_default-deref.not-None (ap (λ numbers. get_or numbers c.in-Some.place None) c.deref.ensures ∙ none)))
