-- How the links of the elements are kept: headers in a slab, each with the keys of its neighbours. No public clause cites this module.
use Rattle.std.specs.Prelude.{◌≡◌, ℕ, length, Option, Some, None}
use Rattle.std.specs.Option.{option_map}
use Rattle.slab.specs.Slab.{Slab, get, slab_len, ContainsKey}
use Rattle.hp_base.specs.declared.span.Span.{Span}
use Rattle.hp_chain.specs.Chain.{Place, Places, AreApart, Spells, walk, first_key, last_key}
use Rattle.hp_base.specs.declared.span.SpanState.{SpanState}
use Rattle.hp_chain.specs.Writes.{written, with_next, with_prev, with_place}
use Rattle.hp_elem.specs.Items.{Items}
use Rattle.hp_elem.specs.declared.node.Node.{Node}

abbrev pub place_of : Node → Place Span
place_of node = record { prev = node.prev; next = node.next; value = node.span }

-- the slab as a memory
abbrev pub place_at : Slab Node → Places Span
place_at slots key = option_map place_of (get slots key)

-- the elements that one comes to from the first key on
abbrev pub items_of : Slab Node → Option ℕ → Items
items_of slots first = walk (place_at slots) (length slots.slots) first

-- the slab has these elements in this order, and no others
pub record IsLinked (slots : Slab Node) (first last : Option ℕ) (items : Items) : Type 0 where
  pub spelled : Spells (place_at slots) None items None
  pub apart : AreApart items
  pub begins : first ≡ first_key items None
  pub ends : last ≡ last_key None items
  pub counted : slab_len slots ≡ length items

-- the key, where there is one, is that of a header
abbrev pub IsKnown : Slab Node → Option ℕ → Type 0
IsKnown slots key = (k : ℕ) → key ≡ Some k → ContainsKey slots k

-- a write of a header: the same keys have one, and there is the same room
pub record Keeps (old new : Slab Node) : Type 0 where
  pub kept : (key : ℕ) → ContainsKey old key → ContainsKey new key
  pub len : slab_len new ≡ slab_len old
  pub capacity : new.capacity ≡ old.capacity

-- a header whose neighbours have headers
pub record CanUnlink (slots : Slab Node) (key : ℕ) : Type 0 where
  pub here : ContainsKey slots key
  pub prev : (node : Node) → get slots key ≡ Some node → IsKnown slots node.prev
  pub next : (node : Node) → get slots key ≡ Some node → IsKnown slots node.next

-- the neighbours of a header name each other, and it is out
abbrev pub IsUnlinked : Slab Node → Slab Node → ℕ → Type 0
IsUnlinked old new key = (node : Node) → get old key ≡ Some node
    → place_at new ≡ with_place key None (with_prev node.next node.prev (with_next node.prev node.next (place_at old)))

-- an end of the elements, first or last: another one where nothing lies beyond
abbrev pub end_unless : Option ℕ → Option ℕ → Option ℕ → Option ℕ
end_unless None stays other = other
end_unless (Some beyond) stays other = stays

-- another whole size, or another state, of what is under a key
abbrev pub resized : ℕ → Place Span → Place Span
resized whole place = record place { value = record place.value { whole = whole } }

abbrev pub restated : SpanState → Place Span → Place Span
restated state place = record place { value = record place.value { state = state } }

-- the memory with it
abbrev pub with_whole : ℕ → ℕ → Places Span → Places Span
with_whole key whole at = written (Some key) (λ slot. option_map (resized whole) slot) at

abbrev pub with_state : ℕ → SpanState → Places Span → Places Span
with_state key state at = written (Some key) (λ slot. option_map (restated state) slot) at
