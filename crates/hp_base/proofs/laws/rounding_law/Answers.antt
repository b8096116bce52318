use Rattle.hp_base.proofs.Rounding.{floor_aligned, floor_below, floor_greatest, floor_idempotent, ceil_aligned, ceil_above, ceil_least, ceil_idempotent}
use Rattle.hp_base.proofs.laws.rounding_law.Goals as goal

pub returns : goal.returns
returns c n unit some = record {
  down = record { multiple = floor_aligned n unit; below = floor_below n unit; greatest = λ other aligned below. floor_greatest n unit other some aligned below };
  up = record { multiple = ceil_aligned n unit; above = ceil_above n unit some; least = λ other aligned above. ceil_least n unit other some aligned above };
  down_twice = floor_idempotent n unit;
  up_twice = ceil_idempotent n unit some;
}
