-- The elements of a heap under keys, with their free lists, as the calls of a heap edit them. No public clause cites this module.
use Rattle.std.specs.Prelude.{◌≡◌, ℕ, ◌≤◌, Bool, true, false, List, ◌∷◌, ◌++◌, map, Option, Contains, MatchOption}
use Rattle.std.specs.List.{range_with_len}
use Rattle.hp_base.specs.declared.span.Span.{Span}
use Rattle.hp_chain.specs.Chain.{Keyed}
use Rattle.hp_elem.specs.Items.{Items, IsInside, Touches}
use Rattle.hp_heap.specs.PlainHeap.{is_free}
use Rattle.hp_heap.specs.Lists.{free_list, range_class}
use Rattle.hp_heap.specs.Choice.{precedes}

-- the elements in address order, each under its key; where the elements of each linked list begin, in its order; how many more elements
-- there is room for; the insertions into free lists so far
pub record HeadersView : Type 0 where
  pub items : Items
  pub lists : List (List ℕ)
  pub spare : ℕ
  pub insertions : ℕ

-- the elements without their keys
abbrev pub spans_of : Items → List Span
spans_of items = map (λ e. e.value) items

-- the free lists that elements have to have
abbrev pub exact_lists : List Span → List (List ℕ)
exact_lists spans = map (free_list spans) (range_with_len 0 13)

-- an element is free, or busy
abbrev pub IsFree : Span → Type 0
IsFree span = is_free span ≡ true

abbrev pub IsBusy : Span → Type 0
IsBusy span = is_free span ≡ false

-- a busy element may be cut at an address
pub record CanSplit (at : ℕ) (span : Span) : Type 0 where
  pub busy : is_free span ≡ false
  pub inside : IsInside at span

-- two busy elements may be joined
pub record CanJoin (first second : Span) : Type 0 where
  pub busy : is_free first ≡ false
  pub second_busy : is_free second ≡ false
  pub touches : Touches first second

-- a busy element may become free: it is large enough for a free list
pub record CanInsert (span : Span) : Type 0 where
  pub busy : is_free span ≡ false
  pub least : 192 ≤ span.whole

-- a free element of at least a class passes a test, and none that stands before it in the order of the search does
pub record IsFirstFree (test : ℕ → Bool → Type 0) (class : ℕ) (items : Items) (key : ℕ) : Type 0 where
  pub front : Items
  pub found : Keyed Span
  pub back : Items
  pub is : items ≡ front ++ found ∷ back
  pub same : found.key ≡ key
  pub free : is_free found.value ≡ true
  pub upwards : class ≤ range_class found.value
  pub passes : test key true
  pub before : (other : Keyed Span) → Contains items other → is_free other.value ≡ true → class ≤ range_class other.value
      → precedes other.value found.value ≡ true → test other.key false

-- no free element of at least a class passes a test
abbrev pub HasNoneFree : (ℕ → Bool → Type 0) → ℕ → Items → Type 0
HasNoneFree test class items = (other : Keyed Span) → Contains items other → is_free other.value ≡ true → class ≤ range_class other.value
    → test other.key false

-- what a search by a test finds, from a class upwards
abbrev pub FindsFirstFree : (ℕ → Bool → Type 0) → ℕ → Items → Option ℕ → Type 0
FindsFirstFree test class items found = MatchOption found (HasNoneFree test class items) (IsFirstFree test class items)
