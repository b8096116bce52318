use Rattle.std.proofs.Common.{ℕ, List, None, sym, subst, refl, arith}
use Rattle.std.specs.List.{AllByRecursion}
use Rattle.hp_chain.specs.Chain.{Keyed}
use Rattle.hp_freelist.specs.Lists.{FreeLists}
use Rattle.hp_freelist.specs.Links.{lists_of}
use Rattle.hp_freelist.specs.Search.{IsFirstPassing, SmallFails}
use Rattle.hp_freelist.proofs.GreatestRead.{from_head, holds_at, kept_from, within_from}
use Rattle.hp_freelist.proofs.SearchLemmas.{search_ends, search_goes_on, keys_none}
use Rattle.hp_freelist.proofs.lists.Lists.first_above.Goals as goal

pub first_above-found-requires-clause-kept : goal.first_above-found-requires-clause-kept
first_above-found-requires-clause-kept g c =
    kept_from c.self.inside.links.items c.self.inside.greatests.items c.self.inside.heads (lists_of c.self.inside.links.items c.self.inside.heads) c.self.invariant.0 c.self.invariant.1
    c.in-Some.next c.in-Some.ensures.next.within c.first-first.result c.first-first.ensures

pub first_above-found-requires-clause-within : goal.first_above-found-requires-clause-within
first_above-found-requires-clause-within g c =
    within_from c.self.inside.links.items c.self.inside.greatests.items c.self.inside.heads (lists_of c.self.inside.links.items c.self.inside.heads) c.self.invariant.0 c.self.invariant.1
    c.in-Some.next c.in-Some.ensures.next.within c.first-first.result c.first-first.ensures

pub first_above-found-requires-clause-small : goal.first_above-found-requires-clause-small
first_above-found-requires-clause-small g c =
    let lists : List (List (Keyed ℕ)) = lists_of c.self.inside.links.items c.self.inside.heads in
    subst (λ (list : List (Keyed ℕ)). SmallFails (goal.F-post g c.args.test) c.args.most list)
    (sym (from_head c.self.inside.links.items c.self.inside.greatests.items c.self.inside.heads lists c.self.invariant.0 c.self.invariant.1
    c.in-Some.next c.in-Some.ensures.next.within c.first-first.result c.first-first.ensures))
    (holds_at (SmallFails (goal.F-post g c.args.test) c.args.most) lists c.in-Some.next (omega (arith, c.in-Some.ensures.next.within, c.self.invariant.0.count))
    (subst (λ (l : FreeLists). AllByRecursion (SmallFails (goal.F-post g c.args.test) c.args.most) l.lists) (sym c.self.view_is) c.requires.small))

pub returns-then-is_some : goal.returns-then-is_some
returns-then-is_some g c =
    rw (← c.self.view_is)
    (c.loop-next.invariant.1 c.first_above-found.result
    (search_ends (goal.F-post g c.args.test) c.self.inside.links.items c.self.inside.heads c.self.invariant.0.heads c.loop-next.at c.in-Some.next c.first-first.result c.first_above-found.result
    c.in-Some.ensures.next c.first-first.ensures c.first_above-found.ensures c.if-is_some.ensures))

pub loop-next-preserved : goal.loop-next-preserved
loop-next-preserved g c = (
  omega (arith, c.in-Some.ensures.next.within),
  λ found later. c.loop-next.invariant.1 found
      (search_goes_on (goal.F-post g c.args.test) c.self.inside.links.items c.self.inside.heads c.self.invariant.0.heads c.loop-next.at c.in-Some.next c.first-first.result c.first_above-found.result
      c.in-Some.ensures.next c.first-first.ensures c.first_above-found.ensures c.if-is_some.ensures found later),
)

pub returns : goal.returns
returns g c =
    rw (← c.self.view_is)
    (c.loop-next.invariant.1 None
    (subst (λ (keys : List ℕ). IsFirstPassing (goal.F-post g c.args.test) keys None)
    (sym (keys_none c.self.inside.links.items c.self.inside.heads c.self.invariant.0.heads c.loop-next.at c.in_default.ensures.none)) refl))
