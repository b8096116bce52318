-- A clock that goes by steps, as contracts see it: the rule "The clock" of docs/OUTSIDE.md.
use Rattle.std.specs.Prelude.{ℕ, ◌+◌, ◌^◌, ◌≤◌, min}

-- how far it goes with each reading, its last reading, 0 before the first, and its next one
pub record ClockState : Type 0 where
  pub step : ℕ
  pub last : ℕ
  pub next : ℕ

-- the clock after a reading: the next one is a step more, and never past 2^63 ("The clock")
abbrev pub after_reading : ClockState → ClockState
after_reading clock = record { step = clock.step; last = clock.next; next = min (clock.next + clock.step) (2 ^ 63) }

-- readings don't fall, and are at most 2^63
pub record IsClock (last next : ℕ) : Type 0 where
  pub rises : last ≤ next
  pub small : next ≤ 2 ^ 63
