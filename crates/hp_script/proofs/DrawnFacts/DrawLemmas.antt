-- The draws of the generator, as they are reckoned with 64 bits.
use Rattle.std.proofs.Common.{◌≡◌, ℕ, ◌+◌, ◌*◌, ◌/◌, ◌%◌, ◌^◌, ◌<◌, refl}
use Rattle.std.proofs.Math.Nat.{mod-add-mod}
use Rattle.std.proofs.lemmas.Nat.{mod_below}
use Rattle.hp_script.specs.DrawnWords.Draws.{next_state, drawn}

-- a product that wraps and then a sum that wraps are the next state
pub wrapped : (state : ℕ) → (state * 6364136223846793005 % 2 ^ 64 + 1442695040888963407) % 2 ^ 64 ≡ next_state state
unfolding next_state
wrapped state = mod-add-mod (state * 6364136223846793005) (2 ^ 64) 1442695040888963407

-- the upper bits of the next state give the number
pub draws : (n state : ℕ) → next_state state / 2 ^ 33 % n ≡ drawn n state
unfolding drawn
draws n state = refl

pub drawn_below : (n state : ℕ) → 0 < n → drawn n state < n
unfolding drawn
drawn_below n state some = mod_below (next_state state / 2 ^ 33) n some
