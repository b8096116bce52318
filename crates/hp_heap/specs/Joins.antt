-- How a busy element becomes free as one with its free neighbours, over elements under keys. No public clause cites this module.
use Rattle.std.specs.Prelude.{◌≡◌, ℕ, ◌^◌, ◌≤◌, false, List, [], ◌∷◌, ◌++◌, if◌then◌else◌}
use Rattle.std.specs.List.{AllByRecursion}
use Rattle.hp_base.specs.declared.span.Span.{Span}
use Rattle.hp_chain.specs.Chain.{Keyed, AreApart}
use Rattle.hp_elem.specs.Items.{Items, IsAt, joined}
use Rattle.hp_heap.specs.PlainHeap.{end_of, is_free, freed}
use Rattle.hp_heap.specs.Tiling.{joins, IsRisingFrom, IsApart}
use Rattle.hp_heap.specs.Joining.{stretch_down}
use Rattle.hp_heap.specs.FreeSearch.{HasSpace}
use Rattle.hp_heap.specs.Headers.{spans_of}

-- elements have bytes, below the end of the addresses
abbrev pub HasRoom : List Span → Type 0
HasRoom spans = AllByRecursion HasSpace spans

-- elements rise, have bytes, and no two free neighbours touch
pub record IsJoinable (spans : List Span) : Type 0 where
  pub rising : IsRisingFrom 0 spans
  pub room : HasRoom spans
  pub apart : IsApart spans

-- a busy element may become free, or a part of a free one: it is large enough for a free list, and ends within the addresses
pub record CanStretch (span : Span) : Type 0 where
  pub busy : is_free span ≡ false
  pub least : 192 ≤ span.whole
  pub end : end_of span ≤ 2 ^ 63

-- the element under a key may become free, or a part of a free one, among elements of which no two neighbours would be one
pub record CanInsertJoined (key : ℕ) (items : Items) : Type 0 where
  pub apart : AreApart items
  pub at : IsAt CanStretch key items
  pub joinable : IsJoinable (spans_of items)

-- a busy element took the one below it where the two would be one
pub record IsLowered (key : ℕ) (old : Items) (result : ℕ) (new : Items) : Type 0 where
  pub front : Items
  pub found : Keyed Span
  pub back : Items
  pub is : old ≡ front ++ found ∷ back
  pub same : found.key ≡ key
  pub left : Items
  pub lowered : Keyed Span
  pub new_is : new ≡ left ++ lowered ∷ back
  pub result_is : lowered.key ≡ result
  pub can : CanStretch lowered.value
  pub down : (stamp : ℕ) → stretch_down (spans_of front) (freed stamp found.value)
      ≡ record { left = spans_of left; range = freed stamp lowered.value }

-- a busy element with the one above it where the two would be one
abbrev pub with_upper : Keyed Span → Items → Items
with_upper e [] = e ∷ []
with_upper e (n ∷ es) =
    if joins (freed 0 e.value) n.value then record e { value = joined e.value n.value } ∷ es else e ∷ (n ∷ es)
