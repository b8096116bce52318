-- What stands beside the links: where elements begin, by address, and where gaps end. No public clause cites this module.
use Rattle.std.specs.Prelude.{◌≡◌, ℕ, ◌+◌, ◌≤◌, ◌++◌, List, [], ◌∷◌, Option, Some, None, nat_eq, nat_lt, if◌then◌else◌}
use Rattle.hp_chain.specs.Chain.{first_key}
use Rattle.hp_elem.specs.Items.{Items, end_of}
use Rattle.hp_elem.specs.Order.{IsOrdered}

-- a table of keys by address, with another entry at one address
abbrev pub with_start : ℕ → Option ℕ → (ℕ → Option ℕ) → ℕ → Option ℕ
with_start addr key table other = if nat_eq addr other then key else table other

-- the key of the element that begins at an address
abbrev pub start_key : Items → ℕ → Option ℕ
start_key [] = λ addr. None
start_key (e ∷ es) = with_start e.value.addr (Some e.key) (start_key es)

-- where elements end that stand from an address on
abbrev pub reach : ℕ → Items → ℕ
reach from [] = from
reach from (e ∷ es) = reach (end_of e.value) es

-- an address with a gap in front of it, where what is before ends below it
abbrev pub gap : ℕ → ℕ → List ℕ
gap before addr = if nat_lt before addr then addr ∷ [] else []

-- the starts of the elements with a gap in front of them, that is of the extents that elements cover
abbrev pub gap_starts : ℕ → Items → List ℕ
gap_starts from [] = []
gap_starts from (e ∷ es) = gap from e.value.addr ++ gap_starts (end_of e.value) es

-- a key from which a walk by rising address comes to an address: what stands before it ends at or below that
pub record IsWalkStart (items : Items) (addr : ℕ) (key : Option ℕ) : Type 0 where
  pub front : Items
  pub back : Items
  pub is : items ≡ front ++ back
  pub first : key ≡ first_key back None
  pub reached : reach 0 front ≤ addr

-- the elements are ordered, and what stands beside the links says what they are
pub record IsIndexed (items : Items) (key_end : ℕ) (starts : ℕ → Option ℕ) (gaps : List ℕ) : Type 0 where
  pub ordered : IsOrdered items key_end
  pub started : starts ≡ start_key items
  pub gapped : gaps ≡ gap_starts 0 items

-- there is room for so many more elements everywhere
pub record HasSpare (spare count key_end starts gaps : ℕ) : Type 0 where
  pub keys : count + spare ≤ key_end
  pub starts_fit : spare ≤ starts
  pub gaps_fit : count + spare ≤ gaps
