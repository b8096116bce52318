-- It is among the outcomes from that place on.
use Rattle.std.proofs.Common.{◌∙◌}
use Rattle.hp_segs.proofs.SinceLemmas.{outcome_since}
use Rattle.hp_segs.proofs.asks.Asks.outcome.Goals as goal

pub returns : goal.returns
returns c =
    let none = rw (← c.self.view_is) at c.since-since.ensures.none in
    let found = rw c.deref.ensures.value at c.first_outcome.ensures in
    rw (← c.self.view_is) (found ∙ outcome_since c.self.inside.entries.items c.args.from c.args.number c.since-since.result none)
