-- Scales of the picture: where a number of the report stands.
use Rattle.std.specs.Prelude.{ℕ, ◌+◌, ◌-◌, ◌*◌, ◌/◌, ◌^◌, ◌==◌, min, Bool, nat_lt, if◌then◌else◌}

-- two numbers together; from 2^64 - 1 on no more is told apart
abbrev pub plus : ℕ → ℕ → ℕ
plus a b = min (a + b) (2 ^ 64 - 1)

-- a number that is so many times another, as far as it is told apart
abbrev pub times : ℕ → ℕ → ℕ
times a b = min (a * b) (2 ^ 64 - 1)

-- a part of a whole on a scale of so many pixels: rounded down, and never past its end
unfoldable pub scaled : ℕ → ℕ → ℕ → ℕ
scaled part whole pixels =
    if whole == 0 then 0 else (if nat_lt (part * pixels / whole) pixels then part * pixels / whole else pixels)

-- where a part of a whole ends between the left edge, at 20 pixels, and the right one, 1,160 pixels further on
abbrev pub place : ℕ → ℕ → ℕ
place part whole = plus 20 (scaled part whole 1160)

-- a part of a whole takes less than a pixel
abbrev pub is_narrow : ℕ → ℕ → Bool
is_narrow part whole = nat_lt (part * 1160) whole
