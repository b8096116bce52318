-- How a pass is kept. No public clause cites this module.
use Rattle.std.specs.Prelude.{◌≡◌, ◌≢◌, ◌≤◌, ℕ, [], length, vec_capacity}
use Rattle.crossbeam_queue.specs.Passes.{view}
use Rattle.hp_mempool.specs.declared.pool_pass.PoolPass.TheInside.{Inside}
use Rattle.hp_mempool.specs.PassView.{PassView}
use Rattle.hp_mempool.specs.Views.{once_below, times}

abbrev pub pass_view : Inside → PassView
pass_view a = record {
  pool = a.token.table_id;
  total = (view a.token).total;
  places = a.places;
  cached = a.cache.items;
  has = (view a.token).has;
  part = (view a.token).part;
  halvings = (view a.token).halvings;
}

-- what is cached it has, each number once; it is not spent; there is room for the cache; and no slot of the queue is out with the token
pub record IsPass (a : Inside) : Type 0 where
  pub some : (view a.token).part ≢ 0
  pub once : (number : ℕ) → times number (view a.token).has ≤ once_below (view a.token).total number
  pub cached : (number : ℕ) → times number a.cache.items ≤ times number (view a.token).has
  pub few : length a.cache.items ≤ a.places
  pub room : a.places ≤ vec_capacity a.cache
  pub out : a.token.me.1 ≡ []
