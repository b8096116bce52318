-- How a pool is kept. No public clause cites this module.
use Rattle.std.specs.Prelude.{◌≡◌, ◌+◌, ◌*◌, ◌<◌, ◌≤◌, ◌^◌, [], vec_capacity}
use Rattle.hp_mempool.specs.declared.pool.Pool.TheInside.{Inside}
use Rattle.hp_mempool.specs.PassView.{PoolView}

abbrev pub pool_view : Inside → PoolView
pool_view a = record {
  id = a.queue.table.shared.table_id;
  count = a.queue.cap;
  size = a.size;
  first = a.first;
  stride = a.stride;
}

-- the objects end below 2^63, and there is room for all their numbers
pub record IsPool (a : Inside) : Type 0 where
  pub fits : a.first + a.queue.cap * a.stride ≤ 2 ^ 63 + 64
  pub few : a.queue.cap < 2 ^ 32
  pub none : a.numbers.items ≡ []
  pub room : a.queue.cap ≤ vec_capacity a.numbers
