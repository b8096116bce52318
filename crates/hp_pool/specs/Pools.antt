-- Hugepage pools as a list, seen by the pool of a socket and page size.
use Rattle.std.specs.Prelude.{◌≡◌, ℕ, ◌+◌, ◌-◌, ◌≤◌, ◌==◌, ◌&&◌, Bool, List, Option, Some, IsSomeAnd, find}
use Rattle.std.specs.List.{AllByRecursion, AllPairs}
use Rattle.std.specs.Option.{option_map}
use Rattle.hp_pool.specs.declared.pool.Pool.{Pool}

-- whether the pool is that of this socket and page size
abbrev pub is_of : ℕ → ℕ → Pool → Bool
is_of socket page pool = (pool.socket == socket) && (pool.page == page)

-- the pool of this socket and page size, if there is one
abbrev pub pool_of : List Pool → ℕ → ℕ → Option Pool
pool_of pools socket page = find (is_of socket page) pools

-- how many pages of the pool are free
abbrev pub free_pages : List Pool → ℕ → ℕ → Option ℕ
free_pages pools socket page = option_map (λ pool. pool.free) (pool_of pools socket page)

-- the pool exists, and at least n of its pages are free
abbrev pub HasFree : List Pool → ℕ → ℕ → ℕ → Type 0
HasFree pools socket page n = IsSomeAnd (free_pages pools socket page) (λ have. n ≤ have)

-- the pool exists, and at least n of its pages are out
abbrev pub HasOut : List Pool → ℕ → ℕ → ℕ → Type 0
HasOut pools socket page n =
    IsSomeAnd (pool_of pools socket page) (λ pool. pool.free + n ≤ pool.pages)

-- no pool has more free pages than pages in all
abbrev pub IsCounted : List Pool → Type 0
IsCounted pools = AllByRecursion (λ pool. pool.free ≤ pool.pages) pools

-- the other socket or the other page size differs
abbrev pub IsOther : ℕ → ℕ → ℕ → ℕ → Type 0
IsOther socket page other_socket other_page =
    ¬ ((other_socket ≡ socket) × (other_page ≡ page))

-- no two pools are of one socket and page size
abbrev pub AreSingle : List Pool → Type 0
AreSingle pools = AllPairs (λ pool other. IsOther pool.socket pool.page other.socket other.page) pools

-- every pool but that of this socket and page size stays as it was
abbrev pub KeepsOthers : List Pool → List Pool → ℕ → ℕ → Type 0
KeepsOthers old new socket page = (s p : ℕ) → IsOther socket page s p
    → pool_of new s p ≡ pool_of old s p

-- the pool with n free pages less
abbrev pub with_fewer : ℕ → Pool → Pool
with_fewer n pool = record pool { free = pool.free - n }

-- the pool with n free pages more
abbrev pub with_more : ℕ → Pool → Pool
with_more n pool = record pool { free = pool.free + n }

-- a pool of so many pages, all free, is new
pub record Adds (old new : List Pool) (socket page pages : ℕ) : Type 0 where
  pub this_pool : pool_of new socket page
      ≡ Some (record { socket = socket; page = page; pages = pages; free = pages })
  pub other_pools : KeepsOthers old new socket page

-- the pool has n free pages less, of at least n
pub record Takes (old new : List Pool) (socket page n : ℕ) : Type 0 where
  pub enough : HasFree old socket page n
  pub this_pool : pool_of new socket page
      ≡ option_map (with_fewer n) (pool_of old socket page)
  pub other_pools : KeepsOthers old new socket page

-- the pool has n free pages more
pub record Gives (old new : List Pool) (socket page n : ℕ) : Type 0 where
  pub this_pool : pool_of new socket page
      ≡ option_map (with_more n) (pool_of old socket page)
  pub other_pools : KeepsOthers old new socket page
