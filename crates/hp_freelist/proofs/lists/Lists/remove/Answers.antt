use Rattle.std.proofs.Common.{◌≡◌, true, sym, subst, arith}
use Rattle.hp_freelist.specs.Lists.{FreeLists, is_listed, without}
use Rattle.hp_freelist.specs.Links.{lists_of}
use Rattle.hp_freelist.proofs.LinkedLemmas.{lists_are, linked_walks}
use Rattle.hp_freelist.proofs.RemovalLemmas.{listed_within}
use Rattle.hp_freelist.proofs.RemovalKept.{stood, kept_without}
use Rattle.hp_freelist.proofs.RoomKept.{kept_walks}
use Rattle.hp_freelist.proofs.lists.Lists.remove.Goals as goal

pub index-requires : goal.index-requires
index-requires c =
    omega (
      arith,
      c.self.inside.links.ok.0,
      listed_within c.self.inside.links.items c.self.inside.links.items c.self.inside.heads c.self.inside.heads (lists_of c.self.inside.links.items c.self.inside.heads) c.self.invariant.0 c.args.key
          (subst (λ (v : FreeLists). is_listed c.args.key v.lists ≡ true) (sym c.self.view_is) c.requires),
    )

pub mend-requires : goal.mend-requires
mend-requires c = record {
  stood = stood c.self.inside.links.items c.take_out.new.links.items c.self.inside.heads c.take_out.new.heads (lists_of c.self.inside.links.items c.self.inside.heads) c.self.inside.greatests.items
      c.self.invariant.0 c.self.invariant.1 c.args.key (subst (λ (v : FreeLists). is_listed c.args.key v.lists ≡ true) (sym c.self.view_is) c.requires) c.take_out.ensures.linked
      c.index.result.now c.index.ensures (omega (arith, c.self.inside.links.ok.0, c.take_out.new.links.ok.0, c.take_out.ensures.len));
}

pub invariant_of-self : goal.invariant_of-self
invariant_of-self c = (
  linked_walks c.take_out.new.links.items c.take_out.new.heads (without c.args.key (lists_of c.self.inside.links.items c.self.inside.heads)) c.take_out.ensures.linked,
  kept_walks c.take_out.new.links.items c.take_out.new.heads (without c.args.key (lists_of c.self.inside.links.items c.self.inside.heads)) c.take_out.ensures.linked c.mend.new.greatests.items
      (kept_without c.self.inside.links.items c.take_out.new.links.items c.self.inside.heads c.take_out.new.heads (lists_of c.self.inside.links.items c.self.inside.heads)
      c.self.inside.greatests.items c.self.invariant.0 c.self.invariant.1 c.args.key (subst (λ (v : FreeLists). is_listed c.args.key v.lists ≡ true) (sym c.self.view_is) c.requires)
      c.take_out.ensures.linked c.index.result.now c.index.ensures c.mend.new.greatests.items c.mend.ensures.mended
      (omega (arith, c.self.invariant.1.room, c.self.inside.links.ok.0, c.take_out.new.links.ok.0, c.take_out.ensures.len, c.self.inside.greatests.ok.0, c.mend.new.greatests.ok.0, c.mend.ensures.len))),
  omega (arith, c.take_out.ensures.len, c.self.invariant.2),
)

pub returns-clause-lists : goal.returns-clause-lists
returns-clause-lists c =
    rw (← c.self.view_is) (lists_are c.take_out.new.links.items c.take_out.new.heads (without c.args.key (lists_of c.self.inside.links.items c.self.inside.heads)) c.take_out.ensures.linked)
