-- What a mapper holds, when it may map, and what each call leaves: the rule "The mapper" of docs/OUTSIDE.md.
use Rattle.std.specs.Prelude.{◌≡◌, ℕ, ◌+◌, ◌-◌, ◌*◌, ◌^◌, ◌<◌, ◌≤◌, Bool, true, false, not, ◌&&◌, ◌==◌, List, [], ◌∷◌, ◌++◌, length, filter, map, count_by, All, Contains, Option, Some, None, ⊤}
use Rattle.std.specs.List.{list_any}
use Rattle.hp_base.specs.declared.caught.Caught.{Caught}
use Rattle.hp_base.specs.declared.caught.Caught.TheVariants as caught
use Rattle.hp_base.specs.declared.row.Row.{Row}
use Rattle.hp_base.specs.declared.map_answer.MapAnswer.{MapAnswer}
use Rattle.hp_base.specs.declared.map_answer.MapAnswer.TheVariants.{At, Refused}

-- a row that is held, and the answer that it was mapped by
pub record Held : Type 0 where
  pub row : Row
  pub got : MapAnswer

-- a row's own place
abbrev pub own_place : Row → MapAnswer
own_place row = At row.addr row.page row.socket

-- a row that is held at its own place
abbrev pub at_own_place : Row → Held
at_own_place row = record { row = row; got = own_place row }

-- rows that are held, each at its own place, in the order of mapping
abbrev pub owned : List Row → List Held
owned rows = map at_own_place rows

-- each row that is held is at its own place
abbrev pub ArePlaced : List Held → Type 0
ArePlaced held = All (λ one. one.got ≡ own_place one.row) held

-- nothing was mapped
abbrev pub is_refused : MapAnswer → Bool
is_refused (At addr page socket) = false
is_refused Refused = true

-- the row has that address
abbrev pub has_addr : ℕ → Row → Bool
has_addr addr row = row.addr == addr

-- no two of the rows have one address
abbrev pub AreApart : List Row → Type 0
AreApart rows = (addr : ℕ) → count_by (has_addr addr) rows ≤ 1

-- the row could come out one page further on
abbrev pub IsWithin : Row → Type 0
IsWithin row = row.addr + 2 * row.page < 2 ^ 64

-- the other row is this one, in all six fields
abbrev pub is_row : Row → Row → Bool
is_row row other =
    (other.addr == row.addr) && ((other.page == row.page) && ((other.socket == row.socket)
    && ((other.list == row.list) && ((other.slot == row.slot) && (other.generation == row.generation)))))

-- what is held after an answer to the mapping of a row: that row too, at the place of the answer, or what was held before
abbrev pub held_after : Row → MapAnswer → List Held → List Held
held_after row (At addr page socket) held = held ++ record { row = row; got = At addr page socket } ∷ []
held_after row Refused held = held

-- what is held once a row is unmapped: all others, in their order
abbrev pub without_row : Row → List Held → List Held
without_row row held = filter (λ one. not (is_row row one.row)) held

-- what is held once rows are unmapped, one after the other
abbrev pub without_rows : List Row → List Held → List Held
without_rows [] held = held
without_rows (row ∷ rows) held = without_rows rows (without_row row held)

-- a row is of the same list and generation as another one, at the next slot
pub record IsNextTo (row next : Row) : Type 0 where
  pub list : next.list ≡ row.list
  pub slot : next.slot ≡ row.slot + 1
  pub generation : next.generation ≡ row.generation

-- the first of the rows, where there is one, is next to another row
abbrev pub GoesOn : Row → List Row → Type 0
GoesOn row [] = ⊤
GoesOn row (next ∷ rows) = IsNextTo row next

-- the rows are adjacent: each is next to the one before it
abbrev pub AreAdjacent : List Row → Type 0
AreAdjacent [] = ⊤
AreAdjacent (row ∷ rows) = GoesOn row rows × AreAdjacent rows

-- how a mapping call fails: the row is refused, or it comes out one page above its address
pub data Failure : Type 0 where
  Refuses : Failure
  Misplaces : Failure

-- a mapping call that may fail, by its number from 1, and how
pub record FailingCall : Type 0 where
  pub call : ℕ
  pub how : Failure

-- the place one page above a row's own
abbrev pub next_place : Row → MapAnswer
next_place row = At (row.addr + row.page) row.page row.socket

-- what a row is answered where its mapping fails so
abbrev pub failed_answer : Failure → Row → MapAnswer
failed_answer Refuses row = Refused
failed_answer Misplaces row = next_place row

-- these mapping calls may fail, each with a refusal
abbrev pub refusals_at : List ℕ → List FailingCall
refusals_at calls = map (λ call. record { call = call; how = Refuses }) calls

-- a row may fail at a mapping call: the call is among those at which the mapper may fail, or these are not told
abbrev pub may_fail_at : Option (List FailingCall) → ℕ → Bool
may_fail_at None call = true
may_fail_at (Some calls) call = list_any (λ one. one.call == call) calls

-- one of the calls has that number, and a row is answered so where it fails as that one does
pub record IsFailing (calls : List FailingCall) (call : ℕ) (row : Row) (got : MapAnswer) : Type 0 where
  pub how : Failure
  pub its : Contains calls (record { call = call; how = how })
  pub is : got ≡ failed_answer how row

-- a row may be answered so where that mapping call fails: as one of the calls at which the mapper may fail; or in any way, where these are
-- not told
abbrev pub FailsSo : Option (List FailingCall) → ℕ → Row → MapAnswer → Type 0
FailsSo None call row got = ⊤
FailsSo (Some calls) call row got = IsFailing calls call row got

-- a mapper is steady: it may fail at no call, so each row comes out at its own place
abbrev pub IsSteady : Option (List FailingCall) → Type 0
IsSteady may_fail = may_fail ≡ Some []

-- when a mapper may be asked to map a row, by what it holds, its capacity and the number of its mapping calls so far
pub record CanMap (row : Row) (held : List Held) (capacity calls : ℕ) : Type 0 where
  -- no row of that address is held
  pub apart : list_any (λ one. has_addr row.addr one.row) held ≡ false
  -- it has room: it holds fewer rows than its capacity, each at its own place
  pub placed : ArePlaced held
  pub room : length held < capacity
  -- the call can be counted in 64 bits
  pub countable : calls < 2 ^ 64 - 1
  -- the row could come out one page further on
  pub within : IsWithin row

-- when a mapper may be asked to map rows, as many of them as go at once: each may be mapped after those before it
pub record CanMapAll (rows : List Row) (held : List Held) (capacity calls : ℕ) : Type 0 where
  -- no two of what is held and of the rows have one address
  pub apart : AreApart (map (λ (one : Held). one.row) held ++ rows)
  -- it has room for all of them: it holds its rows each at its own place
  pub placed : ArePlaced held
  pub room : length held + length rows ≤ capacity
  -- the calls can be counted in 64 bits
  pub countable : calls + length rows < 2 ^ 64
  -- each row could come out one page further on
  pub within : All IsWithin rows

-- catching up, or attaching a chunk, mapped all its rows
abbrev pub is_done : Caught → Bool
is_done caught.Done = true
is_done (caught.Refused row call) = false
is_done (caught.Elsewhere row call got) = false
