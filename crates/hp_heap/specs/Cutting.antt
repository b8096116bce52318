-- How a request is cut out of an element under a key, step by step. No public clause cites this module.
use Rattle.std.specs.Prelude.{◌≡◌, ℕ, ◌+◌, ◌-◌, ◌<◌, ◌≤◌, ◌^◌, Bool, true, false, ◌∷◌, if◌then◌else◌}
use Rattle.hp_base.specs.declared.span.Span.{Span}
use Rattle.hp_chain.specs.Chain.{Keyed}
use Rattle.hp_elem.specs.Items.{Items, IsInside, lower_part, upper_part}
use Rattle.hp_heap.specs.PlainHeap.{end_of, is_free, freed}

-- data lie in an element, behind a header
pub record IsWithin (range : Span) (address size : ℕ) : Type 0 where
  pub before : range.addr + 128 ≤ address
  pub behind : address + size ≤ end_of range
  pub end : end_of range ≤ 2 ^ 63

-- data lie in a free element
pub record IsCarving (range : Span) (address size : ℕ) : Type 0 where
  pub free : is_free range ≡ true
  pub some : 0 < size
  pub within : IsWithin range address size

-- a busy element may be cut at an address, where some part of it is to be free
pub record CanCutBehind (some : Bool) (at : ℕ) (range : Span) : Type 0 where
  pub busy : is_free range ≡ false
  pub inside : some ≡ true → IsInside at range
  pub least : some ≡ true → 192 ≤ end_of range - at

pub record CanCutBefore (some : Bool) (at : ℕ) (range : Span) : Type 0 where
  pub busy : is_free range ≡ false
  pub inside : some ≡ true → IsInside at range
  pub least : some ≡ true → 192 ≤ at - range.addr

-- the element with the part behind an address free, where there is to be one
abbrev pub behind_if : Bool → ℕ → ℕ → ℕ → Keyed Span → Items → Items
behind_if some at new stamp e es =
    if some
    then record e { value = lower_part at e.value } ∷ (record { key = new; value = freed stamp (upper_part at e.value) } ∷ es)
    else e ∷ es

-- the element with the part before an address free, where there is to be one
abbrev pub before_if : Bool → ℕ → ℕ → ℕ → Keyed Span → Items → Items
before_if some at new stamp e es =
    if some
    then record e { value = freed stamp (lower_part at e.value) } ∷ (record { key = new; value = upper_part at e.value } ∷ es)
    else e ∷ es
