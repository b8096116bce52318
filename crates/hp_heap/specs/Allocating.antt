-- What an allocation makes of the elements under keys. No public clause cites this module.
use Rattle.std.specs.Prelude.{◌≡◌, ℕ, ◌∷◌, ◌++◌, List, Option, Some, None}
use Rattle.hp_base.specs.declared.span.Span.{Span}
use Rattle.hp_base.specs.declared.chunk.Chunk.{Chunk}
use Rattle.hp_base.specs.declared.tag.Tag.{Tag}
use Rattle.hp_chain.specs.Chain.{Keyed}
use Rattle.hp_elem.specs.Items.{Items}
use Rattle.hp_heap.specs.declared.choice.Need.{Need}
use Rattle.hp_heap.specs.Placing.{place_in, pieces_of, insertions_of}
use Rattle.hp_heap.specs.Headers.{HeadersView, spans_of}
use Rattle.hp_heap.specs.FreeSearch.{FindsChoice}

-- data at an address were cut out of the element under a key
pub record IsCutOut (request_size address : ℕ) (tag : Tag) (key : ℕ) (old new : HeadersView) : Type 0 where
  pub front : Items
  pub found : Keyed Span
  pub back : Items
  pub is : old.items ≡ front ++ found ∷ back
  pub same : found.key ≡ key
  pub spans : spans_of new.items ≡ spans_of front ++ (pieces_of found.value address request_size tag old.insertions ++ spans_of back)
  pub insertions : new.insertions ≡ insertions_of found.value address request_size old.insertions

-- the request has its place in what the search found, or nothing was found
pub record IsPlacedAt (chunks : List Chunk) (need : Need) (tag : Tag) (old new : HeadersView) (address : ℕ) : Type 0 where
  pub key : ℕ
  pub choice : FindsChoice chunks need old.items (Some key)
  pub cut : IsCutOut need.request.size address tag key old new
  pub place : place_in need.request cut.found.value ≡ Some address

pub record IsLeft (chunks : List Chunk) (need : Need) (old new : HeadersView) : Type 0 where
  pub choice : FindsChoice chunks need old.items None
  pub items : new.items ≡ old.items
  pub insertions : new.insertions ≡ old.insertions

abbrev pub IsAllocated : List Chunk → Need → Tag → HeadersView → HeadersView → Option ℕ → Type 0
IsAllocated chunks need tag old new None = IsLeft chunks need old new
IsAllocated chunks need tag old new (Some address) = IsPlacedAt chunks need tag old new address
