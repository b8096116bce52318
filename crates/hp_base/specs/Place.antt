-- Where the data of a request lie in a range of a heap: the rule "Place" of docs/HEAP.md.
use Rattle.std.specs.Prelude.{◌≡◌, ℕ, ◌+◌, ◌-◌, ◌/◌, ◌%◌, ◌<◌, ◌≤◌, Bool, ◌&&◌, ◌||◌, ◌==◌, nat_le, Option, Some, None, if◌then◌else◌}
use Rattle.hp_base.specs.Round.{floor_of}
use Rattle.hp_base.specs.declared.request.Request.{Request}
use Rattle.hp_base.specs.declared.round.TheConstants.{HEADER}

-- the data of a request may begin at an address of the range from start to end ("Place")
pub record HasRoom (start end : ℕ) (request : Request) (address : ℕ) : Type 0 where
  -- at its alignment
  pub aligned : address % request.align ≡ 0
  -- behind a header
  pub behind : start + HEADER ≤ address
  -- before the end
  pub before : address + request.size ≤ end
  -- in one block of its bound
  pub block : 0 < request.bound → address / request.bound ≡ (address + request.size - 1) / request.bound

-- the place is the greatest address with room ("Place")
pub record IsPlace (start end : ℕ) (request : Request) (address : ℕ) : Type 0 where
  pub room : HasRoom start end request address
  pub greatest : (other : ℕ) → HasRoom start end request other → other ≤ address

-- no address has room ("Place")
abbrev pub HasNoPlace : ℕ → ℕ → Request → Type 0
HasNoPlace start end request = (address : ℕ) → HasRoom start end request address → ⊥

-- the bytes from one address up to another lie in one block of the bound, 0 being none ("Place")
abbrev pub is_one_block : ℕ → ℕ → ℕ → Bool
is_one_block bound from to = (bound == 0) || (from / bound == (to - 1) / bound)

-- the last address: the greatest at the alignment with the size before the end ("Place")
abbrev pub last_address : ℕ → ℕ → ℕ → ℕ
last_address end size align = floor_of (end - size) align

-- the end, lowered to its last block's begin where the bytes behind the last address pass a block ("Place")
abbrev pub lowered_end : ℕ → Request → ℕ
lowered_end end request =
    if is_one_block request.bound (last_address end request.size request.align) end then end
    else floor_of end request.bound

-- the address computed from the end: the last one before the lowered end ("Place")
abbrev pub computed_address : ℕ → Request → ℕ
computed_address end request = last_address (lowered_end end request) request.size request.align

-- whether an address has room ("Place")
abbrev pub is_roomy : ℕ → ℕ → Request → ℕ → Bool
is_roomy start end request address =
    nat_le (start + HEADER) address
    && (nat_le (address + request.size) end && is_one_block request.bound address (address + request.size))

-- the computed place: the address computed from the end, if it has room ("Place")
unfoldable pub place_of : ℕ → ℕ → Request → Option ℕ
place_of start end request =
    if is_roomy start end request (computed_address end request) then Some (computed_address end request)
    else None
