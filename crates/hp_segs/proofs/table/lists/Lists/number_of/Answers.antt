-- Where no number can stand there is no list.
use Rattle.std.proofs.Common.{◌∙◌, sym}
use Rattle.hp_segs.proofs.SlotFacts.NumberLemmas.{none_placed}
use Rattle.hp_segs.proofs.table.lists.Lists.number_of.Goals as goal

pub returns-in_default : goal.returns-in_default
returns-in_default c =
    rw (← c.self.view_is)
    (sym (none_placed c.self.inside.infos.items c.self.inside.numbers.value c.args.socket c.args.page c.self.invariant (sym c.number_place.ensures ∙ c.in_default.is)))
