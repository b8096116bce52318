use Rattle.std.proofs.Common.{arith}
use Rattle.hp_freelist.specs.Links.{lists_of}
use Rattle.hp_freelist.proofs.LinkedLemmas.{lists_are, linked_walks}
use Rattle.hp_freelist.proofs.RoomLemmas.{grown}
use Rattle.hp_freelist.proofs.RoomKept.{kept_still, kept_walks}
use Rattle.hp_freelist.proofs.lists.Lists.reserve.Goals as goal

pub invariant_of-self : goal.invariant_of-self
invariant_of-self c = (
  c.self.invariant.0,
  kept_still c.self.inside.greatests.items c.widen.new.greatests.items c.widen.ensures.kept c.self.inside.links.items c.self.inside.links.items (lists_of c.self.inside.links.items c.self.inside.heads)
      c.self.invariant.1 (omega (arith, c.self.invariant.1.room, c.self.inside.greatests.ok.0, c.widen.new.greatests.ok.0, c.widen.ensures.len)),
  c.self.invariant.2,
)

pub invariant_of-self-2 : goal.invariant_of-self-2
invariant_of-self-2 c =
    let still = grown c.self.inside.links.items c.grow.new.links.items c.self.inside.heads (lists_of c.self.inside.links.items c.self.inside.heads) c.self.invariant.0 c.grow.ensures.kept in (
      linked_walks c.grow.new.links.items c.self.inside.heads (lists_of c.self.inside.links.items c.self.inside.heads) still,
      kept_walks c.grow.new.links.items c.self.inside.heads (lists_of c.self.inside.links.items c.self.inside.heads) still c.widen.new.greatests.items
          (kept_still c.self.inside.greatests.items c.widen.new.greatests.items c.widen.ensures.kept c.self.inside.links.items c.grow.new.links.items (lists_of c.self.inside.links.items c.self.inside.heads)
          c.self.invariant.1
          (omega (arith, c.self.invariant.1.room, c.self.inside.links.ok.0, c.self.inside.greatests.ok.0, c.widen.new.greatests.ok.0, c.grow.new.links.ok.0, c.widen.ensures.len, c.in_ok-widen.ensures.room, c.grow.ensures.most))),
      c.grow.ensures.few c.self.invariant.2,
    )

pub returns-clause-lists : goal.returns-clause-lists
returns-clause-lists c =
    rw (← c.self.view_is)
    (lists_are c.grow.new.links.items c.self.inside.heads (lists_of c.self.inside.links.items c.self.inside.heads)
    (grown c.self.inside.links.items c.grow.new.links.items c.self.inside.heads (lists_of c.self.inside.links.items c.self.inside.heads) c.self.invariant.0 c.grow.ensures.kept))
