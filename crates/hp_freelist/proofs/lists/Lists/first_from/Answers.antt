use Rattle.std.proofs.Common.{ℕ, List, None, sym, subst, refl, arith}
use Rattle.hp_freelist.specs.Search.{IsFirstPassing}
use Rattle.hp_freelist.proofs.SearchLemmas.{search_ends, search_goes_on, keys_none}
use Rattle.hp_freelist.proofs.lists.Lists.first_from.Goals as goal

pub returns-then-is_some : goal.returns-then-is_some
returns-then-is_some g c =
    rw (← c.self.view_is)
    (c.loop-next.invariant.1 c.first_in-found.result
    (search_ends (goal.F-post g c.args.test) c.self.inside.links.items c.self.inside.heads c.self.invariant.0.heads c.loop-next.from c.in-Some.next c.first.result c.first_in-found.result
    c.in-Some.ensures.next c.first.ensures c.first_in-found.ensures c.if-is_some.ensures))

pub loop-next-preserved : goal.loop-next-preserved
loop-next-preserved g c = (
  omega (arith, c.in-Some.ensures.next.within),
  λ found later. c.loop-next.invariant.1 found
      (search_goes_on (goal.F-post g c.args.test) c.self.inside.links.items c.self.inside.heads c.self.invariant.0.heads c.loop-next.from c.in-Some.next c.first.result c.first_in-found.result
      c.in-Some.ensures.next c.first.ensures c.first_in-found.ensures c.if-is_some.ensures found later),
)

pub returns : goal.returns
returns g c =
    rw (← c.self.view_is)
    (c.loop-next.invariant.1 None
    (subst (λ (keys : List ℕ). IsFirstPassing (goal.F-post g c.args.test) keys None)
    (sym (keys_none c.self.inside.links.items c.self.inside.heads c.self.invariant.0.heads c.loop-next.from c.in_default.ensures.none)) refl))
