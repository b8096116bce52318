use Rattle.std.proofs.Common.{◌≡◌, ℕ, ◌-◌, List}
use Rattle.hp_chain.specs.Chain.{Keyed}
use Rattle.hp_freelist.specs.Kept.{StoodIn}
use Rattle.hp_freelist.proofs.Mending.{IsMending}
use Rattle.hp_freelist.proofs.greatest.mend.Given as goal

abbrev pub invariant-loop-step : goal.invariant-loop-step
invariant-loop-step l =
    (l.greatests.len ≡ l.fn.greatests.len)
    × ((front : List (Keyed ℕ)) (whole : ℕ) (back : List (Keyed ℕ)) → StoodIn l.links.items l.fn.greatests.items l.fn.key l.fn.prev front whole back
    → IsMending l.fn.greatests.items l.greatests.items front back l.before (l.links.len - l._step))
