-- What stands against a pool, and which of it is named.
use Rattle.std.specs.Prelude.{◌≡◌, ℕ, ⊤, ◌⊎◌, ◌+◌, ◌*◌, ◌<◌}
use Rattle.hp_base.specs.Requests.{rounded_size}
use Rattle.hp_mempool.specs.declared.fault.PoolFault.{PoolFault}
use Rattle.hp_mempool.specs.declared.fault.PoolFault.TheVariants.{BadCount, BadSize, BadCache, TooSmall, OutOfMemory}
use Rattle.hp_mempool.specs.declared.judging.TheConstants.{MAX_CACHE, MAX_OBJECTS, MAX_SIZE, OBJECT_HEADER}

-- how many objects of how many bytes a pool is to have, how many have a place in the cache of a worker, and how long the zone is
pub record Asked : Type 0 where
  pub count : ℕ
  pub size : ℕ
  pub cache : ℕ
  pub have : ℕ

abbrev pub asked_of : ℕ → ℕ → ℕ → ℕ → Asked
asked_of count size cache have = record { count = count; size = size; cache = cache; have = have }

-- an object takes its size, rounded up to cache lines, and a header of 64 bytes
abbrev pub stride_of : ℕ → ℕ
stride_of size = rounded_size size + OBJECT_HEADER

-- a fault stands against a pool, whatever else does
abbrev pub StandsAgainst : Asked → PoolFault → Type 0
StandsAgainst asked (BadCount n) = (n ≡ asked.count) × ((n ≡ 0) ⊎ (MAX_OBJECTS < n))
StandsAgainst asked (BadSize size) = (size ≡ asked.size) × ((size ≡ 0) ⊎ (MAX_SIZE < size))
StandsAgainst asked (BadCache cache) = (cache ≡ asked.cache) × (MAX_CACHE < cache)
StandsAgainst asked (TooSmall have need) = (have ≡ asked.have) × (need ≡ asked.count * stride_of asked.size) × (have < need)
StandsAgainst asked OutOfMemory = ⊤

-- the order in which faults are judged
abbrev pub turn_of : PoolFault → ℕ
turn_of (BadCount n) = 1
turn_of (BadSize size) = 2
turn_of (BadCache cache) = 3
turn_of (TooSmall have need) = 4
turn_of OutOfMemory = 5

-- the fault is the first that stands against the pool
pub record IsFirstFault (asked : Asked) (fault : PoolFault) : Type 0 where
  pub stands : StandsAgainst asked fault
  pub first : (earlier : PoolFault) → turn_of earlier < turn_of fault → ¬ StandsAgainst asked earlier

-- nothing stands against the pool but want of memory
abbrev pub IsAcceptable : Asked → Type 0
IsAcceptable asked = (fault : PoolFault) → turn_of fault < 5 → ¬ StandsAgainst asked fault

-- no fault stands against the pool, and its objects are so far apart
pub record IsFitFor (asked : Asked) (stride : ℕ) : Type 0 where
  pub acceptable : IsAcceptable asked
  pub stride_is : stride ≡ stride_of asked.size
