-- Where the pool of a socket and page size stands in the list. No public clause cites this module.
use Rattle.std.specs.Prelude.{◌≡◌, ℕ, ◌<◌, List, length, slice_get}
use Rattle.std.specs.List.{position_or_len}
use Rattle.hp_pool.specs.declared.pool.Pool.{Pool}
use Rattle.hp_pool.specs.Pools.{is_of, pool_of}

-- the first pool of this socket and page size stands at this place
pub record IsPlaceOf (pools : List Pool) (socket page place : ℕ) : Type 0 where
  pub within : place < length pools
  pub first : place ≡ position_or_len (is_of socket page) pools
  pub here : pool_of pools socket page ≡ slice_get pools place
