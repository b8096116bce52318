-- Masks of participants: bit p is set where participant p is marked.
use Rattle.std.specs.Prelude.{ℕ, ◌^◌, Bool, not, ◌&&◌, ◌==◌, nat_lt, bit_and, bit_or}

abbrev pub is_marked : ℕ → ℕ → Bool
is_marked mask party = nat_lt party 16 && not (bit_and mask (2 ^ party) == 0)

-- the mask with a participant marked too
abbrev pub with_mark : ℕ → ℕ → ℕ
with_mark mask party = bit_or mask (2 ^ party)
