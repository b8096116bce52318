-- What contracts see of a pool and of a pass, and what becomes of a pass.
use Rattle.std.specs.Prelude.{◌≡◌, ◌≢◌, ℕ, ◌+◌, ◌*◌, ◌/◌, ◌<◌, ◌≤◌, ◌^◌, List, [], ◌∷◌, ◌++◌, length, take, drop}
use Rattle.atomic_table.specs.Seated.{TableId}
use Rattle.hp_mempool.specs.Views.{once_below, times, without_all}

-- which pool it is, how many objects it has, of how many bytes, where the data of the first one is, and how far apart they are
pub record PoolView : Type 0 where
  pub id : TableId
  pub count : ℕ
  pub size : ℕ
  pub first : ℕ
  pub stride : ℕ

-- the number of an object, and the address of its data
pub record ObjView : Type 0 where
  pub number : ℕ
  pub addr : ℕ

-- the pool that a pass is for, and how many objects that has; for how many objects its cache has a place; the numbers in its cache, oldest
-- first; all numbers that it has, in cache or out, in the order in which they came; and its part of the pool, `part` of 2^`halvings`
pub record PassView : Type 0 where
  pub pool : TableId
  pub total : ℕ
  pub places : ℕ
  pub cached : List ℕ
  pub has : List ℕ
  pub part : ℕ
  pub halvings : ℕ

-- a pool's first pass, which has no number and the whole pool
abbrev pub first_pass : PoolView → ℕ → PassView
first_pass pool places = record { pool = pool.id; total = pool.count; places = places; cached = []; has = []; part = 1; halvings = 0 }

-- the pass is one of the pool's
pub record IsOf (pass : PassView) (pool : PoolView) : Type 0 where
  pub pool_is : pass.pool ≡ pool.id
  pub total_is : pass.total ≡ pool.count

-- the pass has the whole pool: every other pass was taken in
abbrev pub IsWhole : PassView → Type 0
IsWhole pass = pass.part ≡ 2 ^ pass.halvings

-- the object with that number is out with the pass: it was got by it, and not put
pub record IsOut (pass : PassView) (number : ℕ) : Type 0 where
  pub has : times number pass.has ≡ 1
  pub out : times number pass.cached ≡ 0

-- the objects with these numbers are out with the pass, and none is there twice
pub record AreOut (pass : PassView) (numbers : List ℕ) : Type 0 where
  pub out : (number : ℕ) → 0 < times number numbers → IsOut pass number
  pub once : (number : ℕ) → times number numbers ≤ 1

-- half of a pass's part goes to a new pass, without a number
abbrev pub after_halving : PassView → PassView
after_halving pass = record pass { halvings = pass.halvings + 1 }

abbrev pub new_half : PassView → PassView
new_half pass = record pass { cached = []; has = []; halvings = pass.halvings + 1 }

-- a pass without a number was taken in
abbrev pub with_part_of : PassView → PassView → PassView
with_part_of other pass = record pass {
  part = pass.part * 2 ^ other.halvings + other.part * 2 ^ pass.halvings;
  halvings = pass.halvings + other.halvings;
}

-- What a pass shows of the numbers in the queue at a step of a call: with its own they are numbers of the pool, each once at most. A pass
-- that has the whole pool shows that they are all numbers of it.
pub record ShowsQueue (pass : PassView) (numbers : List ℕ) : Type 0 where
  pub once : (number : ℕ) → times number pass.has + times number numbers ≤ once_below pass.total number
  pub all : IsWhole pass → (number : ℕ) → times number pass.has + times number numbers ≡ once_below pass.total number

-- The queue was empty at a step of the call, for all that the pass shows: one that has the whole pool has each number of it then.
abbrev pub WasEmpty : PassView → Type 0
WasEmpty pass = (numbers : List ℕ) × (numbers ≡ []) × ShowsQueue pass numbers

-- the last object of the cache is got
pub record GetsCached (old new : PassView) (number : ℕ) : Type 0 where
  pub cached : old.cached ≡ new.cached ++ number ∷ []
  pub rest : new ≡ record old { cached = new.cached }

-- With an empty cache, one object comes from the queue, and then further ones into the cache, for half of its places; fewer only where the
-- queue was empty at a step of the call. None of them is one that the pass had.
pub record GetsQueued (old new : PassView) (number : ℕ) : Type 0 where
  pub empty : old.cached ≡ []
  pub rest : new ≡ record old { cached = new.cached; has = old.has ++ number ∷ new.cached }
  pub few : length new.cached ≤ old.places / 2
  pub fewer : length new.cached < old.places / 2 → WasEmpty new

-- an object is got: it is a number of the pool, the pass has it out, and it has each number of the pool once at most
pub record Gets (old new : PassView) (number : ℕ) : Type 0 where
  pub within : number < old.total
  pub out : IsOut new number
  pub once : (other : ℕ) → times other new.has ≤ once_below old.total other
  pub cached : old.cached ≢ [] → GetsCached old new number
  pub queued : old.cached ≡ [] → GetsQueued old new number

-- an object is put: where the cache has a place, it comes last there; a full cache gives its oldest half and this object to the queue
pub record Puts (old new : PassView) (number : ℕ) : Type 0 where
  pub kept : length old.cached < old.places → new ≡ record old { cached = old.cached ++ number ∷ [] }
  pub full : old.places ≤ length old.cached → new ≡ record old {
    cached = drop (old.places / 2) old.cached;
    has = without_all (take (old.places / 2) old.cached ++ number ∷ []) old.has;
  }

-- the cache goes to the queue
abbrev pub after_flush : PassView → PassView
after_flush pass = record pass { cached = []; has = without_all pass.cached pass.has }
