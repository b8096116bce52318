use Rattle.std.proofs.Common.{arith}
use Rattle.std.proofs.lemmas.Bool.{ltb-false}
use Rattle.hp_freelist.proofs.AboveLemmas.{all_small, none_small}
use Rattle.hp_freelist.proofs.KeptReads.{read_within}
use Rattle.hp_freelist.proofs.search.has_above.Goals as goal

pub returns-in_default : goal.returns-in_default
returns-in_default c = λ none. none_small c.args.links.now.items c.args.first c.args.most c.in_default.is

pub index-requires-2 : goal.index-requires-2
index-requires-2 c =
    omega (
      arith,
      c.args.links.now.ok.0,
      read_within c.args.links.now.items c.args.greatests.now.items c.args.first c.in-Some.first c.in-Some.is c.requires.kept c.requires.within
          c.index.result.now c.index.ensures,
    )

pub returns : goal.returns
returns c = λ none.
    all_small c.args.links.now.items c.args.greatests.now.items c.args.first c.in-Some.first c.in-Some.is c.requires.kept c.requires.within
    c.index.result.now c.index.ensures c.index-2.result.now c.index-2.ensures c.args.most (omega (arith, ltb-false c.args.most c.index-2.result.now.whole none))
