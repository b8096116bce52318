-- What holds of the elements of a heap at every moment.
use Rattle.std.specs.Prelude.{ℕ, ◌<◌, ◌≤◌, ◌^◌, ◌⊎◌, [], ◌∷◌}
use Rattle.std.specs.List.{AllByRecursion}
use Rattle.hp_base.specs.declared.span.Span.{Span}
use Rattle.hp_chain.specs.Chain.{AreApart}
use Rattle.hp_elem.specs.Items.{Items, end_of}

-- the greatest address that is behind the last byte of an element
abbrev pub greatest_end : ℕ
greatest_end = 2 ^ 63

-- the elements stand by rising address, from an address on; each has a byte at least, none overlaps the next, and all end by
-- the greatest end
abbrev pub IsRising : ℕ → Items → Type 0
IsRising from [] = from ≤ greatest_end
IsRising from (e ∷ es) = (from ≤ e.value.addr) × (1 ≤ e.value.whole) × IsRising (end_of e.value) es

-- two elements share no byte
abbrev pub AreDisjoint : Span → Span → Type 0
AreDisjoint one other = (end_of one ≤ other.addr) ⊎ (end_of other ≤ one.addr)

-- a new element has a byte at least, ends by the greatest end and shares no byte with one that is there
pub record FitsBeside (span : Span) (items : Items) : Type 0 where
  pub least : 1 ≤ span.whole
  pub ends : end_of span ≤ greatest_end
  pub beside : AllByRecursion (λ e. AreDisjoint span e.value) items

-- each key is below a number
abbrev pub KeysBelow : ℕ → Items → Type 0
KeysBelow bound items = AllByRecursion (λ e. e.key < bound) items

-- the elements stand by rising address, under keys that differ and are below the end of keys
pub record IsOrdered (items : Items) (key_end : ℕ) : Type 0 where
  pub apart : AreApart items
  pub rising : IsRising 0 items
  pub below : KeysBelow key_end items
