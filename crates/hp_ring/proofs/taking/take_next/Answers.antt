use Rattle.std.proofs.Common.{ap}
use Rattle.hp_ring.specs.PassViews.{TakeView}
use Rattle.hp_ring.proofs.taking.take_next.Goals as goal

pub gather-requires : goal.gather-requires
gather-requires g c = record {
  before = c.args.taken.now.pass.taken;
  taken = ap (λ (p : TakeView). p.taken) c.in-Some.ensures.some;
  first = c.requires.taken.first;
  second = c.requires.taken.second;
}
