use Rattle.std.proofs.Common.{arith}
use Rattle.hp_freelist.specs.Links.{lists_of}
use Rattle.hp_freelist.proofs.RemovalLemmas.{listed_within, link_is_of}
use Rattle.hp_freelist.proofs.linked.link_of.Goals as goal

pub index-requires : goal.index-requires
index-requires c =
    omega (arith, listed_within c.args.links.now.items c.args.links.now.items c.args.heads.now c.args.heads.now (lists_of c.args.links.now.items c.args.heads.now) c.requires.linked c.args.key c.requires.listed, c.args.links.now.ok.0)

pub returns : goal.returns
returns c =
    link_is_of c.args.links.now.items c.args.links.now.items c.args.heads.now c.args.heads.now (lists_of c.args.links.now.items c.args.heads.now) c.requires.linked
    c.args.links.now.len c.args.key c.index.result.now c.args.links.now.ok.0 c.requires.listed c.index.ensures
