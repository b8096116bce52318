-- The last failed call of the participant says it.
use Rattle.std.proofs.Common.{◌∙◌, ap, sym, arith}
use Rattle.hp_segs.proofs.GrowthSteps.FailedLemmas.{failed_at, has_failed_is, is_up_to}
use Rattle.hp_segs.proofs.asks.Asks.has_failed_from.Goals as goal

pub returns-in-Some : goal.returns-in-Some
returns-in-Some c =
    let at = failed_at c.self.inside.entries.items c.self.inside.failed.value c.args.participant c.self.invariant.failures (omega (arith, c.ranges.participant.fits)) in
    rw (← c.self.view_is)
    (ap (is_up_to c.args.call) (sym (rw c.deref.ensures at c.in-Some.is) ∙ at) ∙ has_failed_is c.self.inside.entries.items c.args.participant c.args.call)

pub returns-in-None : goal.returns-in-None
returns-in-None c =
    let at = failed_at c.self.inside.entries.items c.self.inside.failed.value c.args.participant c.self.invariant.failures (omega (arith, c.ranges.participant.fits)) in
    rw (← c.self.view_is)
    (ap (is_up_to c.args.call) (sym (rw c.deref.ensures at c.in-None.is) ∙ at) ∙ has_failed_is c.self.inside.entries.items c.args.participant c.args.call)
