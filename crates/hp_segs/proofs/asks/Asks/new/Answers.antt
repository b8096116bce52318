-- Nothing is kept beside no outcomes.
use Rattle.std.proofs.Common.{refl, arith}
use Rattle.hp_segs.proofs.GrowthSteps.FailedLemmas.{none_failed}
use Rattle.hp_segs.proofs.asks.Asks.new.Goals as goal

pub invariant_of-result : goal.invariant_of-result
invariant_of-result c =
    rw (c.new-2.ensures.items, c.new-3.ensures.items, c.in_ok-failed.ensures.ok)
    (record { now = refl; long = refl; each = λ place d within. absurd (omega (arith, within)); failures = none_failed })
