-- The draws of the generator.
use Rattle.std.specs.Prelude.{ℕ, ◌+◌, ◌*◌, ◌/◌, ◌%◌, ◌^◌}

-- the state after a draw
unfoldable pub next_state : ℕ → ℕ
next_state state = (state * 6364136223846793005 + 1442695040888963407) % 2 ^ 64

-- the number below n that is drawn at a state: by the upper bits of the state after the draw
unfoldable pub drawn : ℕ → ℕ → ℕ
drawn n state = next_state state / 2 ^ 33 % n
