use Rattle.std.proofs.Common.{◌-◌}
use Rattle.hp_chain.specs.Chain.{walk}
use Rattle.hp_elem.specs.Tags.{place_at, entry_of, tagged_start}
use Rattle.hp_elem.specs.Lowest.{IsSoFar}
use Rattle.hp_elem.proofs.lowest.lowest_in.Given as goal

abbrev pub invariant-loop-step : goal.invariant-loop-step
invariant-loop-step l = IsSoFar (entry_of (tagged_start l.tag.zone l.tag.number) l.chain.items) l.chain.items l.best (walk (place_at l.links.items) (l.links.len - l._step) l.next)
