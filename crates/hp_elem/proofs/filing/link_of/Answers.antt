use Rattle.std.proofs.Common.{arith}
use Rattle.hp_elem.proofs.FilingLemmas.{key_within, link_is_of}
use Rattle.hp_elem.proofs.filing.link_of.Goals as goal

pub index-requires : goal.index-requires
index-requires c = omega (arith, key_within c.args.links.now.items c.args.firsts.now.items c.requires.filed c.args.key c.requires.number.0 c.requires.number.1, c.args.links.now.ok.0)

pub returns : goal.returns
returns c =
    link_is_of c.args.links.now.items c.args.firsts.now.items c.requires.filed c.args.key c.requires.number.0 c.requires.number.1
    c.args.links.now.len c.index.result.now c.args.links.now.ok.0 c.index.ensures
