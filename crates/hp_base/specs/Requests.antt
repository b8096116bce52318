-- Requests for memory, which are refused and what is kept of the others: the rule "Requests" of docs/HEAP.md.
use Rattle.std.specs.Prelude.{◌≡◌, ℕ, ◌+◌, ◌%◌, ◌^◌, ◌<◌, ◌≤◌, max, Bool, not, ◌&&◌, ◌||◌, ◌==◌, nat_le, IsTrue, Option, Some, None, if◌then◌else◌}
use Rattle.std.specs.Int.{is_power_of_two}
use Rattle.hp_base.specs.Round.{ceil_of}
use Rattle.hp_base.specs.declared.page_size.TheConstants.{GREATEST_PAGE}
use Rattle.hp_base.specs.declared.request.BadRequest.{BadRequest}
use Rattle.hp_base.specs.declared.request.BadRequest.TheVariants.{Zero, Overflow, Align, Bound}
use Rattle.hp_base.specs.declared.round.TheConstants.{HEADER, LINE}

-- a size in whole cache lines ("Requests")
abbrev pub rounded_size : ℕ → ℕ
rounded_size size = ceil_of size LINE

-- an alignment of at least a cache line ("Requests")
abbrev pub raised_align : ℕ → ℕ
raised_align align = max align LINE

-- an alignment is 0 or a power of two ("Requests", 3)
abbrev pub is_align : ℕ → Bool
is_align align = (align == 0) || is_power_of_two align

-- a bound is 0, or a power of two of at least the size ("Requests", 4)
abbrev pub is_bound : ℕ → ℕ → Bool
is_bound size bound = (bound == 0) || (is_power_of_two bound && nat_le size bound)

-- what a size takes at an alignment with its header, in whole pages of the greatest size ("Requests", 2)
abbrev pub bytes_asked : ℕ → ℕ → ℕ
bytes_asked size align = ceil_of (ceil_of size align + HEADER) GREATEST_PAGE

-- the rounded size passes 64 bits, or what it takes at a good alignment does ("Requests", 2)
abbrev pub is_too_large : ℕ → ℕ → Bool
is_too_large size align =
    nat_le (2 ^ 64) (rounded_size size)
    || (is_align align && nat_le (2 ^ 64) (bytes_asked (rounded_size size) (raised_align align)))

-- the first refusal of a size, an alignment and a bound, in the order in which they are judged ("Requests")
abbrev pub refusal_of : ℕ → ℕ → ℕ → Option BadRequest
refusal_of size align bound =
    if size == 0 then Some Zero
    else (if is_too_large size align then Some Overflow
    else (if not (is_align align) then Some Align
    else (if is_bound (rounded_size size) bound then None else Some Bound)))

-- what an accepted request keeps: rounded numbers, within their limits ("Requests")
pub record IsAccepted (size align bound : ℕ) : Type 0 where
  pub some : 0 < size
  pub lines : size % LINE ≡ 0
  pub power : IsTrue (is_power_of_two align)
  pub line : LINE ≤ align
  pub block : IsTrue (is_bound size bound)
  pub fits : bytes_asked size align < 2 ^ 64
