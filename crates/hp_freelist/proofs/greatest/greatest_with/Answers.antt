use Rattle.std.proofs.Common.{arith}
use Rattle.hp_freelist.proofs.KeptReads.{read_within, later_greater, none_later, alone}
use Rattle.hp_freelist.proofs.greatest.greatest_with.Goals as goal

pub returns-in_default : goal.returns-in_default
returns-in_default c = alone c.args.links.now.items c.args.next c.args.key c.args.whole c.in_default.is

pub index-requires : goal.index-requires
index-requires c =
    omega (
      arith,
      c.args.links.now.ok.0,
      read_within c.args.links.now.items c.args.greatests.now.items c.args.next c.in-Some.next c.in-Some.is c.requires.kept c.requires.within
          c.index-greatest.result.now c.index-greatest.ensures,
    )

pub returns-then-index-whole : goal.returns-then-index-whole
returns-then-index-whole c =
    later_greater c.args.links.now.items c.args.greatests.now.items c.args.next c.in-Some.next c.in-Some.is c.requires.kept c.requires.within
    c.index-greatest.result.now c.index-greatest.ensures c.args.key c.args.whole c.index.result.now c.index.ensures
    c.if-index-whole.true

pub returns-else-index-whole : goal.returns-else-index-whole
returns-else-index-whole c =
    none_later c.args.links.now.items c.args.greatests.now.items c.args.next c.in-Some.next c.in-Some.is c.requires.kept c.requires.within
    c.index-greatest.result.now c.index-greatest.ensures c.args.key c.args.whole c.index.result.now c.index.ensures
    c.if-index-whole.false
