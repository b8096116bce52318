-- The lowest element so far, in a walk along a bucket. No public clause cites this module.
use Rattle.std.specs.Prelude.{◌≡◌, ℕ, ◌≤◌, ◌⊎◌, Bool, List, Option, Some, None, nat_le, true, if◌then◌else◌}
use Rattle.hp_base.specs.declared.span.Span.{Span}
use Rattle.hp_chain.specs.Chain.{Keyed, has_key}
use Rattle.hp_elem.specs.declared.lowest.Lowest.{Lowest}
use Rattle.hp_elem.specs.Items.{Items, is_tagged_state}

-- the lower of the one so far and another one
abbrev pub lower_of : Option Lowest → ℕ → ℕ → Option Lowest
lower_of None key addr = Some (record { key = key; addr = addr })
lower_of (Some best) key addr = if nat_le best.addr addr then Some best else Some (record { key = key; addr = addr })

-- the lower of the one so far and another one, which counts only if it is busy with the tag
abbrev pub with_span : Bool → ℕ → Option Lowest → ℕ → Span → Option Lowest
with_span zone number best key span = if is_tagged_state zone number span.state then lower_of best key span.addr else best

-- the lower of the one so far and the element under a key, where that one has an entry: where it begins
abbrev pub with_start : Option Lowest → ℕ → Option ℕ → Option Lowest
with_start best key None = best
with_start best key (Some addr) = lower_of best key addr

-- the one so far begins no higher than an address
abbrev pub IsUnder : Option Lowest → ℕ → Type 0
IsUnder None addr = ⊥
IsUnder (Some best) addr = best.addr ≤ addr

-- the one so far has its entry in the table
abbrev pub HasEntry : (ℕ → Option ℕ) → Option Lowest → Type 0
HasEntry table None = Unit {0}
HasEntry table (Some best) = table best.key ≡ Some best.addr

-- of a table's entries, each is one that is left or is no lower than the one so far; the keys that are left are elements
pub record IsSoFar (table : ℕ → Option ℕ) (items : Items) (best : Option Lowest) (left : List (Keyed (Option ℕ))) : Type 0 where
  pub entry : HasEntry table best
  pub rest : (key addr : ℕ) → table key ≡ Some addr → (has_key key left ≡ true) ⊎ IsUnder best addr
  pub known : (key : ℕ) → has_key key left ≡ true → has_key key items ≡ true
