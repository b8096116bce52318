-- Those up to the place are set, and the others are as they were.
use Rattle.std.proofs.Common.{◌≡◌, ◌&&◌, ℕ, get_or, length, nat_le, nat_lt}
use Rattle.std.specs.Prelude.{if◌then◌else◌}
use Rattle.hp_maps.proofs.last_drops.set_all.Given as goal

abbrev pub invariant-loop-place : goal.invariant-loop-place
invariant-loop-place l = record {
  long : length l.numbers ≡ length l.initial.numbers;
  set : (place : ℕ) → get_or l.numbers place 0
      ≡ (if nat_le l.first place && nat_lt place l.place then l.number else get_or l.initial.numbers place 0);
}
