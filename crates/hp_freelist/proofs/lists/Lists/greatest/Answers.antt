use Rattle.std.proofs.Common.{arith}
use Rattle.hp_freelist.specs.Links.{lists_of}
use Rattle.hp_freelist.proofs.GreatestLemmas.{all_empty}
use Rattle.hp_freelist.proofs.GreatestRead.{first_within, greatest_read}
use Rattle.hp_freelist.proofs.lists.Lists.greatest.Goals as goal

pub returns-in_default-clause-none : goal.returns-in_default-clause-none
returns-in_default-clause-none c =
    rw (← c.self.view_is)
    (all_empty c.self.inside.links.items c.self.inside.heads (lists_of c.self.inside.links.items c.self.inside.heads) c.self.invariant.0 c.in_default.ensures.none)

pub index-requires : goal.index-requires
index-requires c =
    omega (
      arith,
      c.self.inside.greatests.ok.0,
      first_within c.self.inside.links.items c.self.inside.greatests.items c.self.inside.heads (lists_of c.self.inside.links.items c.self.inside.heads) c.self.invariant.0 c.self.invariant.1
          c.in-Some.class c.in-Some.ensures.last c.first.result c.first.ensures c.in-Some-first.first c.in-Some-first.is,
    )

pub returns-in-Some-first-clause-greatest : goal.returns-in-Some-first-clause-greatest
returns-in-Some-first-clause-greatest c =
    rw (← c.self.view_is)
    (greatest_read c.self.inside.links.items c.self.inside.greatests.items c.self.inside.heads (lists_of c.self.inside.links.items c.self.inside.heads) c.self.invariant.0 c.self.invariant.1
    c.in-Some.class c.in-Some.ensures.last c.first.result c.first.ensures c.in-Some-first.first c.in-Some-first.is c.index.result.now c.index.ensures)
