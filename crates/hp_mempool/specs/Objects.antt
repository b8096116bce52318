-- Where the objects of a pool lie.
use Rattle.std.specs.Prelude.{◌≡◌, ◌≢◌, ℕ, ◌⊎◌, ◌+◌, ◌*◌, ◌<◌, ◌≤◌}
use Rattle.hp_mempool.specs.declared.judging.TheConstants.{OBJECT_HEADER}
use Rattle.hp_mempool.specs.PassView.{PoolView}

-- the address of the data of the object with that number
abbrev pub addr_of : PoolView → ℕ → ℕ
addr_of pool number = pool.first + number * pool.stride

-- the pool has so many objects of so many bytes, the first one after a header at the address, and each so far after the one before it
pub record IsLaid (pool : PoolView) (addr count size stride : ℕ) : Type 0 where
  pub count_is : pool.count ≡ count
  pub size_is : pool.size ≡ size
  pub first_is : pool.first ≡ addr + OBJECT_HEADER
  pub stride_is : pool.stride ≡ stride

-- the data of each object lies in the memory of that address and length
abbrev pub LieIn : PoolView → ℕ → ℕ → Type 0
LieIn pool addr len = (number : ℕ) → number < pool.count → (addr ≤ addr_of pool number) × (addr_of pool number + pool.size ≤ addr + len)

-- the data of one object ends before the data of another begins
abbrev pub AreApart : PoolView → Type 0
AreApart pool = (one other : ℕ) → one < pool.count → other < pool.count → one ≢ other
    → (addr_of pool one + pool.size ≤ addr_of pool other) ⊎ (addr_of pool other + pool.size ≤ addr_of pool one)
