-- What the passes of a pool's queue know, and how their steps change that.
use Rattle.std.specs.Prelude.{◌≡◌, ◌≢◌, ℕ, ◌+◌, ◌*◌, ◌<◌, ◌≤◌, ◌^◌, ◌==◌, nat_lt, not, cond, List, [], ◌∷◌, ◌++◌, length, count_by}
use Rattle.std.specs.List.{filter}
use Rattle.hp_mempool.specs.declared.view.View.{View}

-- how often a number stands in a list
abbrev pub times : ℕ → List ℕ → ℕ
times number numbers = count_by (λ other. other == number) numbers

-- once for each number below a bound
abbrev pub once_below : ℕ → ℕ → ℕ
once_below bound number = cond (nat_lt number bound) 1 0

-- the view of a pool's first pass, which has no number and the whole pool
abbrev pub first_view : ℕ → View
first_view total = record { has = []; total = total; part = 1; halvings = 0 }

-- the next number was put into the queue for the first time
abbrev pub after_fill : View → View
after_fill v = record v { total = v.total + 1 }

-- the view of a pass that was taken in by another
abbrev pub spent_view : View
spent_view = record { has = []; total = 0; part = 0; halvings = 0 }

-- a pass gave half of its part to a new pass: what is left to it, and what the new one has
abbrev pub after_halving : View → View
after_halving v = record v { halvings = v.halvings + 1 }

abbrev pub new_half : View → View
new_half v = record v { has = []; halvings = v.halvings + 1 }

-- a pass takes in another: a part of 2^h and one of 2^k, as a part of 2^(h + k)
abbrev pub both_parts : View → View → View
both_parts v w = record v {
  has = v.has ++ w.has;
  part = v.part * 2 ^ w.halvings + w.part * 2 ^ v.halvings;
  halvings = v.halvings + w.halvings;
}

-- numbers without one of them
abbrev pub without : ℕ → List ℕ → List ℕ
without number numbers = filter (λ other. not (other == number)) numbers

-- numbers without some of them
abbrev pub without_all : List ℕ → List ℕ → List ℕ
without_all [] numbers = numbers
without_all (number ∷ gone) numbers = without_all gone (without number numbers)

-- a number went to the queue
abbrev pub after_put : ℕ → View → View
after_put number v = record v { has = without number v.has }

-- a number came from the queue
abbrev pub after_get : ℕ → View → View
after_get number v = record v { has = v.has ++ number ∷ [] }

-- a number that comes from the queue is one of the pool, and the pass did not have it
pub record IsFresh (v : View) (number : ℕ) : Type 0 where
  pub within : number < v.total
  pub fresh : times number v.has ≡ 0

-- What a pass shows of the numbers in the queue: with its own they are numbers of the pool, each once at most. A pass that has the whole
-- pool shows that they are all numbers of it.
pub record Shows (v : View) (numbers : List ℕ) : Type 0 where
  pub once : (number : ℕ) → times number v.has + times number numbers ≤ once_below v.total number
  pub all : v.part ≡ 2 ^ v.halvings → (number : ℕ) → times number v.has + times number numbers ≡ once_below v.total number

-- numbers went to the queue, one after another
abbrev pub after_puts : List ℕ → View → View
after_puts [] v = v
after_puts (number ∷ numbers) v = after_puts numbers (after_put number v)

-- the pass knows that there are so many numbers, and is not spent
pub record IsTotal (n : ℕ) (v : View) : Type 0 where
  pub some : v.part ≢ 0
  pub total : v.total ≡ n

-- The pass can put the numbers, one after another: it has each as often as they have it, and none twice.
pub record CanPut (n : ℕ) (numbers : List ℕ) (v : View) : Type 0 where
  pub total : IsTotal n v
  pub has : (number : ℕ) → times number numbers ≤ times number v.has
  pub once : (number : ℕ) → times number v.has ≤ 1

-- Numbers came from the queue, none of which the pass had.
pub record TakesIn (old new : View) (numbers : List ℕ) : Type 0 where
  pub has : new ≡ record old { has = old.has ++ numbers }
  pub once : (number : ℕ) → 0 < times number numbers → times number new.has ≤ once_below old.total number

-- Numbers came from the queue into a cache: up to so many, and fewer only where the queue was empty at a step of the call.
pub record Refills (most : ℕ) (old new : View) (cached : List ℕ) : Type 0 where
  pub takes : TakesIn old new cached
  pub few : length cached ≤ most
  pub rest : length cached < most → (numbers : List ℕ) × (length numbers ≡ 0) × Shows new numbers
