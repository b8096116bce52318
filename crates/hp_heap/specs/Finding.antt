-- How elements are found under keys, and what a free makes of them. No public clause cites this module.
use Rattle.std.specs.Prelude.{◌≡◌, ℕ, ◌+◌, Bool, true, false, not, ◌&&◌, List, ◌∷◌, ◌++◌, Option, Some, None, MatchOption, if◌then◌else◌}
use Rattle.std.specs.List.{find, AllByRecursion}
use Rattle.hp_base.specs.declared.span.Span.{Span}
use Rattle.hp_base.specs.declared.span.SpanState.{SpanState}
use Rattle.hp_base.specs.declared.span.SpanState.TheVariants.{Free, Busy}
use Rattle.hp_base.specs.declared.tag.Tag.{Tag}
use Rattle.hp_chain.specs.Chain.{Keyed, AreApart}
use Rattle.hp_elem.specs.Items.{Items}
use Rattle.hp_heap.specs.PlainHeap.{is_free, freed, pad_of_state}
use Rattle.hp_heap.specs.Tiling.{IsElement}
use Rattle.hp_heap.specs.Joining.{has_data_at, is_zone_range, with_stretch}
use Rattle.hp_heap.specs.Joins.{IsJoinable}
use Rattle.hp_heap.specs.Headers.{HeadersView, spans_of}

-- elements as a heap has them: keys are apart, and they tile
pub record IsOfHeap (headers : HeadersView) : Type 0 where
  pub apart : AreApart headers.items
  pub joinable : IsJoinable (spans_of headers.items)
  pub elements : AllByRecursion (IsElement headers.insertions) (spans_of headers.items)

-- the busy element with its data at an address stands under a key
pub record HasDataAt (addr : ℕ) (items : Items) (key : ℕ) : Type 0 where
  pub front : Items
  pub found : Keyed Span
  pub back : Items
  pub is : items ≡ front ++ found ∷ back
  pub same : found.key ≡ key
  pub busy : is_free found.value ≡ false
  pub found_is : find (has_data_at addr) (spans_of items) ≡ Some found.value

-- no busy element has its data at an address, behind a pad
abbrev pub LacksData : ℕ → ℕ → Items → Type 0
LacksData addr pad items = AllByRecursion (λ e. has_data_at addr e.value ≡ true → pad_of_state e.value.state ≡ pad → ⊥) items

-- the key of the busy element with its data at an address behind that pad, or that there is none
abbrev pub FindsPadded : ℕ → ℕ → Items → Option ℕ → Type 0
FindsPadded addr pad items result = MatchOption result (LacksData addr pad items) (HasDataAt addr items)

-- the key of the busy element with its data at an address, or that there is none
abbrev pub FindsData : ℕ → Items → Option ℕ → Type 0
FindsData addr items result = MatchOption result (find (has_data_at addr) (spans_of items) ≡ None) (HasDataAt addr items)

-- the tag by which a free is refused
abbrev pub kept_tag : Bool → SpanState → Option Tag
kept_tag zone (Free stamp) = None
kept_tag zone (Busy pad size tag) = if tag.zone && not zone then Some tag else None

-- elements and insertions after a free of an element, or of none
abbrev pub ranges_freed : Option Span → Bool → ℕ → List Span → List Span
ranges_freed None zone insertions ranges = ranges
ranges_freed (Some range) zone insertions ranges =
    if is_zone_range range && not zone then ranges else with_stretch (freed (insertions + 1) range) ranges

abbrev pub insertions_freed : Option Span → Bool → ℕ → ℕ
insertions_freed None zone insertions = insertions
insertions_freed (Some range) zone insertions = if is_zone_range range && not zone then insertions else insertions + 1
