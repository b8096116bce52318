-- The elements of a heap in address order, each under its key, and what the calls make of them.
use Rattle.std.specs.Prelude.{◌≡◌, ℕ, ◌+◌, ◌-◌, ◌<◌, ◌++◌, ◌&&◌, ◌==◌, Bool, true, false, not, List, [], ◌∷◌, Option, Some, None, nat_eq, nat_lt, nat_le, if◌then◌else◌}
use Rattle.std.specs.List.{find}
use Rattle.std.specs.Option.{option_map}
use Rattle.hp_base.specs.declared.span.Span.{Span}
use Rattle.hp_base.specs.declared.span.SpanState.{SpanState}
use Rattle.hp_base.specs.declared.span.SpanState.TheVariants.{Free, Busy}
use Rattle.hp_chain.specs.Chain.{Keyed, first_key, last_key, has_key}
use Rattle.hp_chain.specs.Edits.{edited}
use Rattle.hp_elem.specs.declared.node.Node.{Node}

abbrev pub Items : Type 0
Items = List (Keyed Span)

-- where an element ends: the address behind its last byte
abbrev pub end_of : Span → ℕ
end_of span = span.addr + span.whole

-- an element stands in the list under the key, and the fact holds of it
pub record IsAt (P : Span → Type 0) (key : ℕ) (items : Items) : Type 0 where
  pub front : Items
  pub found : Keyed Span
  pub back : Items
  pub is : items ≡ front ++ found ∷ back
  pub same : found.key ≡ key
  pub holds : P found.value

-- two elements stand in the list one after the other, the first of them under the key, and the fact holds of the two
pub record AreAt (P : Span → Span → Type 0) (key : ℕ) (items : Items) : Type 0 where
  pub front : Items
  pub found : Keyed Span
  pub next : Keyed Span
  pub back : Items
  pub is : items ≡ front ++ found ∷ next ∷ back
  pub same : found.key ≡ key
  pub holds : P found.value next.value

-- the key, where there is one, is that of an element
abbrev pub HasKey : Option ℕ → Items → Type 0
HasKey key items = (k : ℕ) → key ≡ Some k → has_key k items ≡ true

-- the place between two neighbours, or at an end: the keys on its two sides
pub record IsBetween (items : Items) (prev next : Option ℕ) : Type 0 where
  pub front : Items
  pub back : Items
  pub is : items ≡ front ++ back
  pub last : prev ≡ last_key None front
  pub first : next ≡ first_key back None

-- the list is cut in two in front of a key, or after all
pub record IsCutFrom (items : Items) (key : Option ℕ) : Type 0 where
  pub front : Items
  pub back : Items
  pub is : items ≡ front ++ back
  pub first : key ≡ first_key back None

-- a header is what the list has under the key: the element, and the keys of its neighbours
pub record Stands (items : Items) (key : ℕ) (node : Node) : Type 0 where
  pub front : Items
  pub back : Items
  pub is : items ≡ front ++ (record { key = key; value = node.span }) ∷ back
  pub prev : node.prev ≡ last_key None front
  pub next : node.next ≡ first_key back None

-- the element under a key
abbrev pub at_key : ℕ → Items → Option Span
at_key key [] = None
at_key key (e ∷ es) = if nat_eq e.key key then Some e.value else at_key key es

-- an address lies inside an element, and is not its start
pub record IsInside (at : ℕ) (span : Span) : Type 0 where
  pub above : span.addr < at
  pub below : at < end_of span

-- a second element begins where the first ends, in the same segment list
pub record Touches (first second : Span) : Type 0 where
  pub adjacent : end_of first ≡ second.addr
  pub same_list : first.list ≡ second.list

-- the two parts of an element that is cut at an address
abbrev pub lower_part : ℕ → Span → Span
lower_part at span = record span { whole = at - span.addr }

abbrev pub upper_part : ℕ → Span → Span
upper_part at span = record span { addr = at; whole = end_of span - at }

-- two elements as one, which is as the first
abbrev pub joined : Span → Span → Span
joined first second = record first { whole = first.whole + second.whole }

-- the element in two parts, the second under a key of its own
abbrev pub cut_at : ℕ → ℕ → Keyed Span → Items → Items
cut_at at new e es = record e { value = lower_part at e.value } ∷ (record { key = new; value = upper_part at e.value } ∷ es)

-- the element with the next one joined to it
abbrev pub with_next_joined : Keyed Span → Items → Items
with_next_joined e [] = e ∷ []
with_next_joined e (n ∷ es) = record e { value = joined e.value n.value } ∷ es

-- the element in another state
abbrev pub restated : SpanState → Keyed Span → Items → Items
restated state e es = record e { value = record e.value { state = state } } ∷ es

-- the elements after each call
abbrev pub after_split : ℕ → ℕ → ℕ → Items → Items
after_split key at new items = edited key (cut_at at new) items

abbrev pub after_join : ℕ → Items → Items
after_join key items = edited key with_next_joined items

abbrev pub after_set : ℕ → SpanState → Items → Items
after_set key state items = edited key (restated state) items

-- a new element in front of the one with a key, or after all
abbrev pub before : Option ℕ → Keyed Span → Items → Items
before None new items = items ++ new ∷ []
before (Some key) new items = edited key (λ e es. new ∷ (e ∷ es)) items

-- the element in front of the first one that begins above it
abbrev pub after_add : Keyed Span → Items → Items
after_add new [] = new ∷ []
after_add new (e ∷ es) = if nat_lt new.value.addr e.value.addr then new ∷ (e ∷ es) else e ∷ after_add new es

-- whether an element contains an address
abbrev pub contains : ℕ → Keyed Span → Bool
contains addr e = nat_le e.value.addr addr && nat_lt addr (end_of e.value)

-- the key of the element that contains the address
abbrev pub key_at : ℕ → Items → Option ℕ
key_at addr items = option_map (λ e. e.key) (find (contains addr) items)

-- whether an element begins at an address
abbrev pub begins_at : ℕ → Keyed Span → Bool
begins_at addr e = e.value.addr == addr

-- the key of the element that begins at the address
abbrev pub key_from : ℕ → Items → Option ℕ
key_from addr items = option_map (λ e. e.key) (find (begins_at addr) items)

-- whether an element is busy with a zone mark and a number: a tag, but for who asked
abbrev pub is_tagged_state : Bool → ℕ → SpanState → Bool
is_tagged_state zone number (Free stamp) = false
is_tagged_state zone number (Busy pad size tag) = (if zone then tag.zone else not tag.zone) && (tag.number == number)

abbrev pub is_tagged : Bool → ℕ → Keyed Span → Bool
is_tagged zone number e = is_tagged_state zone number e.value.state

-- the key of the first element, by address, that is busy with the tag
abbrev pub first_tagged : Bool → ℕ → Items → Option ℕ
first_tagged zone number items = option_map (λ e. e.key) (find (is_tagged zone number) items)
