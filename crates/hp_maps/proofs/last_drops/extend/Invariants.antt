-- There are so many numbers, and those that were there are as they were.
use Rattle.std.proofs.Common.{◌≡◌, ◌≤◌, ℕ, get_or, vec_capacity, vec_len}
use Rattle.hp_maps.proofs.last_drops.extend.Given as goal

abbrev pub invariant-loop-place : goal.invariant-loop-place
invariant-loop-place l = record {
  long : vec_len l.numbers ≡ l._place;
  room : vec_capacity l.numbers ≡ vec_capacity l.initial.numbers;
  same : (place : ℕ) → get_or l.numbers.items place 0 ≡ get_or l.initial.numbers.items place 0;
}
