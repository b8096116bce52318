-- How the numbers of the busy elements' tags are kept: a number under each key, in buckets. No public clause cites this module.
use Rattle.std.specs.Prelude.{◌≡◌, ℕ, ◌%◌, ◌<◌, ◌≤◌, ◌⊎◌, Bool, false, List, [], ◌∷◌, Option, Some, None, IfSome, length, map, nat_eq, option_map, slice_get, slice_index_or, if◌then◌else◌}
use Rattle.hp_base.specs.declared.span.Span.{Span}
use Rattle.hp_base.specs.declared.span.SpanState.{SpanState}
use Rattle.hp_base.specs.declared.span.SpanState.TheVariants.{Free, Busy}
use Rattle.hp_chain.specs.Chain.{Keyed, Place, Places, AreApart, Spells, first_key, has_key, walk}
use Rattle.hp_elem.specs.declared.link.Link.{Link}
use Rattle.hp_elem.specs.Items.{Items, is_tagged_state}

-- the number of a busy element's tag
abbrev pub number_of : SpanState → Option ℕ
number_of (Free stamp) = None
number_of (Busy pad size tag) = Some tag.number

-- a table by key, with another entry under one key
abbrev pub with_entry : ℕ → Option ℕ → (ℕ → Option ℕ) → ℕ → Option ℕ
with_entry key entry table other = if nat_eq other key then entry else table other

-- what a function gives of the element under a key
abbrev pub entry_of : (Span → Option ℕ) → Items → ℕ → Option ℕ
entry_of f [] = λ key. None
entry_of f (e ∷ es) = with_entry e.key (f e.value) (entry_of f es)

-- the number of the tag under a key
abbrev pub tag_number : Items → ℕ → Option ℕ
tag_number items = entry_of (λ span. number_of span.state) items

-- where an element begins that is busy with the tag
abbrev pub tagged_start : Bool → ℕ → Span → Option ℕ
tagged_start zone number span = if is_tagged_state zone number span.state then Some span.addr else None

-- the number under a key of a list of numbers
abbrev pub number_at : List (Option ℕ) → ℕ → Option ℕ
number_at numbers key = slice_index_or numbers key None

abbrev pub numbers_of : List Link → List (Option ℕ)
numbers_of links = map (λ link. link.number) links

-- where there is a number for each key, it is that of the element's tag
abbrev pub IsNoted : Items → ℕ → List (Option ℕ) → Type 0
IsNoted items key_end numbers = key_end ≤ length numbers → number_at numbers ≡ tag_number items

-- the links as a memory of chains of numbers
abbrev pub place_of : Link → Place (Option ℕ)
place_of link = record { prev = link.prev; next = link.next; value = link.number }

abbrev pub place_at : List Link → Places (Option ℕ)
place_at links key = option_map place_of (slice_get links key)

-- the number that stands under a key
abbrev pub kept : Option (Place (Option ℕ)) → Option ℕ
kept None = None
kept (Some place) = place.value

abbrev pub number_in : Places (Option ℕ) → ℕ → Option ℕ
number_in at key = kept (at key)

-- a number falls into a bucket, of so many
abbrev pub falls : ℕ → ℕ → Option ℕ → Bool
falls count bucket None = false
falls count bucket (Some number) = nat_eq (number % count) bucket

-- from the first key on, the links have exactly the keys whose numbers fall into the bucket, each once
pub record IsBucket (at : Places (Option ℕ)) (count bucket : ℕ) (first : Option ℕ) : Type 0 where
  pub list : List (Keyed (Option ℕ))
  pub head : first ≡ first_key list None
  pub spelled : Spells at None list None
  pub apart : AreApart list
  pub exact : (key : ℕ) → has_key key list ≡ falls count bucket (number_in at key)

-- each bucket is one, under its first key
abbrev pub AreBuckets : Places (Option ℕ) → List (Option ℕ) → Type 0
AreBuckets at firsts = (bucket : ℕ) → bucket < length firsts → IsBucket at (length firsts) bucket (slice_index_or firsts bucket None)

-- there are as many buckets as keys
pub record AreFiled (links : List Link) (firsts : List (Option ℕ)) : Type 0 where
  pub count : length firsts ≡ length links
  pub buckets : AreBuckets (place_at links) firsts

-- the list that the links have from a key on
abbrev pub list_from : List Link → Option ℕ → List (Keyed (Option ℕ))
list_from links first = walk (place_at links) (length links) first

-- a key has the lowest entry of a table, or there is no entry
abbrev pub IsLowest : (ℕ → Option ℕ) → Option ℕ → Type 0
IsLowest table None = (key : ℕ) → table key ≡ None
IsLowest table (Some key) = (addr : ℕ) × (table key ≡ Some addr) × ((other entry : ℕ) → table other ≡ Some entry → addr ≤ entry)

-- what is kept of a key that is in a bucket: its neighbours have links too
pub record IsLinkOf (links : List Link) (room key : ℕ) (link : Link) : Type 0 where
  pub stands : place_at links key ≡ Some (place_of link)
  pub within : key < room
  pub prev : IfSome link.prev (λ k. k < room)
  pub next : IfSome link.next (λ k. k < room)
