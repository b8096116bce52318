use Rattle.hp_zone.proofs.IndexLemmas.{not_missing, taken_out}
use Rattle.hp_zone.proofs.places.take_out.Goals as goal

pub unreachable-requires : goal.unreachable-requires
unreachable-requires c = not_missing c.args.order.now.items c.args.index c.requires (rw c.deref.ensures.value at c.in_default.ensures)

pub returns-clause-taken : goal.returns-clause-taken
returns-clause-taken c =
    taken_out c.args.order.now.items c.remove-index.new.self.items c.args.index c.in-Some.at (rw c.deref.ensures.value at c.in-Some.ensures) c.remove-index.ensures.items
