use Rattle.std.proofs.Common.{◌≡◌, ℕ, ◌<◌, false, ap, ◌∙◌, sym, subst, arith}
use Rattle.hp_freelist.specs.Heads.{head_at}
use Rattle.hp_freelist.specs.Lists.{FreeLists, is_listed, with_head}
use Rattle.hp_freelist.specs.Links.{lists_of}
use Rattle.hp_freelist.proofs.LinkedLemmas.{lists_are, linked_walks}
use Rattle.hp_freelist.proofs.HeadKept.{head_walks}
use Rattle.hp_freelist.proofs.lists.Lists.insert_head.Goals as goal

pub invariant_of-self : goal.invariant_of-self
invariant_of-self c = (
  linked_walks c.insert.new.links.items c.insert.new.heads (with_head c.args.key c.args.whole (lists_of c.self.inside.links.items c.self.inside.heads)) c.insert.ensures.linked,
  head_walks c.self.inside.links.items c.self.inside.greatests.items c.self.inside.heads (lists_of c.self.inside.links.items c.self.inside.heads) c.self.invariant.0 c.self.invariant.1
      c.args.key c.args.whole c.greatest_with-greatest.result c.first-next.result
      (c.first-next.ensures ∙ ap (λ (class : ℕ). head_at c.self.inside.heads class) c.class_of.ensures.number)
      (let within : c.args.key < c.self.inside.links.len = subst (λ (l : FreeLists). c.args.key < l.room) (sym c.self.view_is) c.requires.room in omega (arith, within, c.self.inside.links.ok.0))
      (subst (λ (l : FreeLists). is_listed c.args.key l.lists ≡ false) (sym c.self.view_is) c.requires.unlisted) c.greatest_with-greatest.ensures
      c.insert.new.links.items c.insert.new.heads (omega (arith, c.insert.ensures.len, c.insert.new.links.ok.0, c.self.inside.links.ok.0)) c.insert.ensures.linked,
  omega (arith, c.insert.ensures.len, c.self.invariant.2),
)

pub returns-clause-lists : goal.returns-clause-lists
returns-clause-lists c =
    rw (← c.self.view_is) (lists_are c.insert.new.links.items c.insert.new.heads (with_head c.args.key c.args.whole (lists_of c.self.inside.links.items c.self.inside.heads)) c.insert.ensures.linked)
