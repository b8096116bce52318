-- The search among free elements as the code makes it. No public clause cites this module.
use Rattle.std.specs.Prelude.{◌≡◌, ℕ, ◌<◌, ◌≤◌, ◌^◌, Bool, true, false, ◌&&◌, ◌||◌, ◌==◌, List, Option, None, is_some, MatchOption, Contains}
use Rattle.std.specs.List.{list_any}
use Rattle.hp_base.specs.Place.{place_of}
use Rattle.hp_base.specs.declared.span.Span.{Span}
use Rattle.hp_base.specs.declared.chunk.Chunk.{Chunk}
use Rattle.hp_base.specs.declared.request.Request.{Request}
use Rattle.hp_chain.specs.Chain.{Keyed}
use Rattle.hp_elem.specs.Items.{Items}
use Rattle.hp_heap.specs.declared.choice.Need.{Need}
use Rattle.hp_heap.specs.PlainHeap.{end_of, is_free}
use Rattle.hp_base.specs.Flags.{has_bit, is_fitting_page, is_hint}
use Rattle.hp_heap.specs.Choice.{precedes}

-- an element has bytes, below the end of the addresses
pub record HasSpace (range : Span) : Type 0 where
  pub some : 0 < range.whole
  pub end : end_of range ≤ 2 ^ 63

-- whether an element has a place for a request
abbrev pub has_place : Request → Span → Bool
has_place request range = is_some (place_of range.addr (end_of range) request)

-- whether the elements of a segment list may be used
abbrev pub is_usable : List Chunk → Need → ℕ → Bool
is_usable chunks need list =
    need.any_chunk || list_any (λ chunk. (chunk.list == list) && has_bit chunk.attached need.participant) chunks

-- whether an element has what a request needs
abbrev pub is_suitable : List Chunk → Need → Span → Bool
is_suitable chunks need range =
    (has_place need.request range && (need.any_page || is_fitting_page need.request.flags range.page))
    && is_usable chunks need range.list

-- a free element under a key passes a test, and none that stands before it in the order of the search does
pub record IsFirstBy (test : Span → Bool) (items : Items) (key : ℕ) : Type 0 where
  pub found : Keyed Span
  pub among : Contains items found
  pub same : found.key ≡ key
  pub free : is_free found.value ≡ true
  pub passes : test found.value ≡ true
  pub before : (other : Keyed Span) → Contains items other → is_free other.value ≡ true → precedes other.value found.value ≡ true
      → test other.value ≡ false

abbrev pub HasNoneBy : (Span → Bool) → Items → Type 0
HasNoneBy test items = (other : Keyed Span) → Contains items other → is_free other.value ≡ true → test other.value ≡ false

abbrev pub FindsFirstBy : (Span → Bool) → Items → Option ℕ → Type 0
FindsFirstBy test items found = MatchOption found (HasNoneBy test items) (IsFirstBy test items)

abbrev pub FindsFirstSuitable : List Chunk → Need → Items → Option ℕ → Type 0
FindsFirstSuitable chunks need items found = FindsFirstBy (is_suitable chunks need) items found

-- what is found by the flags, or where nothing is and they are a hint, without them
pub record FindsChoice (chunks : List Chunk) (need : Need) (items : Items) (found : Option ℕ) : Type 0 where
  pub fitting : Option ℕ
  pub first : FindsFirstSuitable chunks need items fitting
  pub some : is_some fitting ≡ true → found ≡ fitting
  pub strict : is_some fitting ≡ false → is_hint need.request.flags ≡ false → found ≡ None
  pub hinted : is_some fitting ≡ false → is_hint need.request.flags ≡ true
      → FindsFirstSuitable chunks (record need { any_page = true }) items found
