use Rattle.std.proofs.Common.{refl, ap, ◌∙◌}
use Rattle.hp_elem.specs.Items.{Items, first_tagged}
use Rattle.hp_elem.specs.Links.{items_of}
use Rattle.hp_elem.proofs.AtLemmas.{walk_back_part}
use Rattle.std.proofs.Common.{[]}
use Rattle.hp_elem.proofs.chain.Chain.find_tag.Goals as goal

pub returns : goal.returns
returns c =
    let items : Items = items_of c.self.inside.slots c.self.inside.first in
    rw (← c.self.view_is)
    (c.find_tag.ensures ∙ ap (λ (zs : Items). first_tagged c.args.tag.zone c.args.tag.number zs)
    (walk_back_part c.self.inside.slots c.self.inside.first c.self.inside.last items [] items c.self.inside.first c.self.invariant refl c.self.invariant.begins))
