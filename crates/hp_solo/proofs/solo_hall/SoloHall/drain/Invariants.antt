use Rattle.std.proofs.Common.{◌≡◌, ◌≤◌, false}
use Rattle.hp_solo.specs.Draining.{Drains, TurnsLeave}
use Rattle.hp_solo.specs.Solo.{has_stopped, solo_measure}
use Rattle.hp_solo.proofs.solo_hall.SoloHall.drain.Given as goal

abbrev pub invariant-draining : goal.invariant-draining
invariant-draining g l = record {
  leaves : TurnsLeave l.initial.self l.self;
  measure : solo_measure l.self ≤ solo_measure l.initial.self;
  drains : has_stopped l.self.servers ≡ false → Drains l.initial.self l.self;
}

abbrev pub decreases-draining : goal.decreases-draining
decreases-draining g l = solo_measure l.self
