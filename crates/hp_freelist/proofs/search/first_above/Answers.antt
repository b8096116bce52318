use Rattle.hp_freelist.specs.Links.{list_from}
use Rattle.hp_freelist.proofs.AboveLemmas.{none_above}
use Rattle.hp_freelist.proofs.search.first_above.Goals as goal

pub returns-else-has_above : goal.returns-else-has_above
returns-else-has_above g c =
    none_above (goal.F-post g c.args.test.now) c.args.most (list_from c.args.links.now.items c.args.first) c.requires.small (c.has_above.ensures c.if-has_above.false)
