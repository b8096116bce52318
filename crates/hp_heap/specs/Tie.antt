-- How the free lists of a heap are tied to its elements. No public clause cites this module.
use Rattle.std.specs.Prelude.{◌≡◌, ℕ, ◌^◌, ◌<◌, ◌≤◌, Bool, List, [], ◌∷◌, Option, Some, None, map, length, nat_lt, nat_le, if◌then◌else◌}
use Rattle.std.specs.List.{AllByRecursion, filter}
use Rattle.hp_base.specs.declared.span.Span.{Span}
use Rattle.hp_chain.specs.Chain.{Keyed, AreApart}
use Rattle.hp_elem.specs.Items.{Items, at_key}
use Rattle.hp_elem.specs.Order.{KeysBelow}
use Rattle.hp_elem.specs.View.{ElemsView}
use Rattle.hp_freelist.specs.Lists.{FreeLists, list_at}
use Rattle.hp_heap.specs.PlainHeap.{stamp_of}
use Rattle.hp_heap.specs.Lists.{is_of_class}

-- whether an element under a key stands on the free list of a class
abbrev pub is_on : ℕ → Keyed Span → Bool
is_on class e = is_of_class class e.value

-- elements under keys by falling stamp, as the free lists have them
abbrev pub put_by_stamp : Keyed Span → Items → Items
put_by_stamp e [] = e ∷ []
put_by_stamp e (other ∷ others) =
    if nat_lt (stamp_of e.value) (stamp_of other.value) then other ∷ put_by_stamp e others else e ∷ other ∷ others

abbrev pub newest : Items → Items
newest [] = []
newest (e ∷ es) = put_by_stamp e (newest es)

-- the key of an element with its whole size, as a link has them
abbrev pub link_of : Keyed Span → Keyed ℕ
link_of e = record { key = e.key; value = e.value.whole }

-- the free elements of a class, the one inserted last at the head
abbrev pub links_of : Items → ℕ → List (Keyed ℕ)
links_of items class = map link_of (newest (filter (is_on class) items))

-- each list has the free elements of its class, the one inserted last at the head
abbrev pub IsTied : Items → List (List (Keyed ℕ)) → Type 0
IsTied items lists = (class : ℕ) → class < 13 → list_at lists class ≡ links_of items class

-- where an element begins; without one the end of the addresses, where none does
abbrev pub start_of : Option Span → ℕ
start_of None = 2 ^ 64
start_of (Some span) = span.addr

-- where the elements begin whose keys lists have, in the order of the lists
abbrev pub starts_of : Items → List (List (Keyed ℕ)) → List (List ℕ)
starts_of items lists = map (λ list. map (λ e. start_of (at_key e.key items)) list) lists

-- elements and lists are tied, no stamp is above the number of insertions, and each key has its place in the lists
pub record AreTied (elems : ElemsView) (lists : FreeLists) : Type 0 where
  pub apart : AreApart elems.items
  pub count : length lists.lists ≡ 13
  pub tied : IsTied elems.items lists.lists
  pub stamps : AllByRecursion (λ e. stamp_of e.value ≤ elems.stamps) elems.items
  pub places : KeysBelow lists.room elems.items

-- the room for more elements: where the lists have no place for some key that may come, there is none
abbrev pub spare_of : ElemsView → FreeLists → ℕ
spare_of elems lists = if nat_le elems.key_end lists.room then elems.spare else 0
