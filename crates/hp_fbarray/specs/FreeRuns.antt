-- The first free run and the longest free stretch of a mask as values that definitions compute with.
-- What they mean is said by IsFirstFreeRun, HasNoFreeRun and IsLongestFree of Mask.
use Rattle.std.specs.Prelude.{ℕ, ◌+◌, ◌==◌, nat_le, max, Bool, List, [], ◌∷◌, length, drop, Option, Some, None, if◌then◌else◌}
use Rattle.std.specs.List.{position_or_len}

-- how many places are clear before the first used one
abbrev pub leading_free : List Bool → ℕ
leading_free mask = position_or_len (λ used. used) mask

-- the first free run of n places in a mask whose places are numbered from `first` on
abbrev pub run_from : ℕ → List Bool → ℕ → Option ℕ
run_from first [] n = if n == 0 then Some first else None
run_from first (used ∷ rest) n =
    if nat_le n (leading_free (used ∷ rest)) then Some first else run_from (first + 1) rest n

-- the first free run of n places from the place `from` on, if there is one
abbrev pub first_free_run : List Bool → ℕ → ℕ → Option ℕ
first_free_run mask from n =
    if nat_le from (length mask) then run_from from (drop from mask) n else None

-- the greatest number of clear places that follow one another
abbrev pub longest_free_run : List Bool → ℕ
longest_free_run [] = 0
longest_free_run (used ∷ rest) = max (leading_free (used ∷ rest)) (longest_free_run rest)
