-- What events tell, in the words of bytes: the rule "Bytes" of docs/TABLES.md.
use Rattle.std.specs.Prelude.{◌≡◌, ℕ, ◌+◌, Bool, true, false, not, ◌&&◌, ◌||◌, nat_le, nat_lt, List, [], ◌∷◌}
use Rattle.std.specs.List.{list_any}
use Rattle.hp_base.specs.declared.event.Event.{Event}
use Rattle.hp_base.specs.declared.event.EventKind.{EventKind}
use Rattle.hp_base.specs.declared.event.EventKind.TheVariants as kind
use Rattle.hp_base.specs.declared.row.Row.{Row}

-- the byte lies in the row
abbrev pub in_row : ℕ → Row → Bool
in_row byte row = nat_le row.addr byte && nat_lt byte (row.addr + row.page)

-- the byte lies in one of the rows
abbrev pub has_byte : List Row → ℕ → Bool
has_byte rows byte = list_any (in_row byte) rows

-- the byte lies in what an event tells
abbrev pub in_event : ℕ → Event → Bool
in_event byte event = nat_le event.addr byte && nat_lt byte (event.addr + event.len)

-- whether a byte is there once it was told to come, or to go
abbrev pub told_byte : EventKind → Bool → Bool → Bool
told_byte kind.Alloc told there = told || there
told_byte kind.Free told there = there && not told

-- which bytes are there after an event
abbrev pub bytes_after : Event → (ℕ → Bool) → ℕ → Bool
bytes_after event bytes byte = told_byte event.kind (in_event byte event) (bytes byte)

-- the bytes after events, one after the other
abbrev pub bytes_after_all : List Event → (ℕ → Bool) → ℕ → Bool
bytes_after_all [] bytes = bytes
bytes_after_all (event ∷ events) bytes = bytes_after_all events (bytes_after event bytes)

-- whether the bytes of an event are there before it
abbrev pub was_there : EventKind → Bool
was_there kind.Alloc = false
was_there kind.Free = true

-- nothing is freed that is not there, and nothing comes that is there already
abbrev pub Fits : Event → (ℕ → Bool) → Type 0
Fits event bytes = (byte : ℕ) → in_event byte event ≡ true → bytes byte ≡ was_there event.kind

abbrev pub AllFit : List Event → (ℕ → Bool) → Type 0
AllFit [] bytes = Unit {0}
AllFit (event ∷ events) bytes = Fits event bytes × AllFit events (bytes_after event bytes)

-- events tell how the bytes of rows became those of others
pub record AreTold (events : List Event) (before after : List Row) : Type 0 where
  pub fit : AllFit events (has_byte before)
  pub leave : (byte : ℕ) → bytes_after_all events (has_byte before) byte ≡ has_byte after byte
