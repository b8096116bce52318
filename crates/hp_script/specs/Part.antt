-- A part of a text.
use Rattle.std.specs.Prelude.{ℕ, ◌+◌, ◌-◌, Bool, List, drop}
use denote.Ref.{Bor}
use Rattle.std.specs.List.{starts_with}
use Rattle.std.specs.Str.{bytes_eq}
use Rattle.std.specs.Prelude.{nat_eq}

-- the place of its first byte, from 0, its bytes, and the address of the text that it is a part of
pub record Part : Type 0 where
  pub start : ℕ
  pub text : List ℕ
  pub base : ℕ × ℕ

-- the address of its first byte
abbrev pub address_of : Part → ℕ × ℕ
address_of part = (part.base.0, part.base.1 + part.start)

-- what a slice is at a place of a text
abbrev pub part_at : ℕ → Bor (List ℕ) → Part
part_at start slice = record { start = start; text = slice.now; base = (slice.ref_ptr.0, slice.ref_ptr.1 - start) }

-- what stands in a part after its first bytes
abbrev pub behind : ℕ → Part → Part
behind n part = record { start = part.start + n; text = drop n part.text; base = part.base }

-- the part is this word
abbrev pub is_word : List ℕ → Part → Bool
is_word word part = bytes_eq part.text word

-- the part begins with this word
abbrev pub has_front : List ℕ → Part → Bool
has_front word part = starts_with nat_eq part.text word
