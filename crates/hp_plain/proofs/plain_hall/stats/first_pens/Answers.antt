use Rattle.hp_plain.proofs.Opened.{first_pens}
use Rattle.hp_plain.proofs.plain_hall.stats.first_pens.Goals as goal

pub returns : goal.returns
returns c = first_pens c.in_ok-pens.field-0.cells c.in_ok-pens.field-0.pens.items c.in_ok-pens.ensures.cells c.in_ok-pens.ensures.pens
