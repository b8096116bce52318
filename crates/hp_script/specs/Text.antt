-- The lines of a text, and the fields of a line.
use Rattle.std.specs.Prelude.{ℕ, ◌+◌, Bool, ◌&&◌, ◌||◌, ◌==◌, nat_lt, nat_le, List, [], ◌∷◌, length, map, filter, Option, Some, None, slice_index, true, false}
use Rattle.std.specs.Char.{is_ascii_digit}
use Rattle.std.specs.List.{slice_split}
use Rattle.std.specs.Str.Lines.{strip_carriage_return}
use denote.Ref.{Bor}
use Rattle.hp_script.specs.Part.{Part}
use Rattle.hp_script.specs.declared.text.Separator.{Separator}
use Rattle.hp_script.specs.declared.text.Separator.TheVariants.{Newline, Blank}

-- a newline ends a line; a space or a tab ends a field
abbrev pub is_separator : Separator → ℕ → Bool
is_separator Newline byte = byte == 10
is_separator Blank byte = (byte == 32) || (byte == 9)

-- texts that stand from a place on, with one byte between each two
abbrev pub placed : ℕ × ℕ → ℕ → List (List ℕ) → List Part
placed base at [] = []
placed base at (text ∷ others) = record { start = at; text = text; base = base } ∷ placed base (at + length text + 1) others

-- the parts of a part between its separators
unfoldable pub parts_of : Separator → Part → List Part
parts_of separator whole = placed whole.base whole.start (slice_split (is_separator separator) whole.text)

-- the parts of what may be left
abbrev pub parts_left : Separator → Option Part → List Part
parts_left separator None = []
parts_left separator (Some rest) = parts_of separator rest

-- a carriage return at the end of a line is dropped
abbrev pub without_return : Part → Part
without_return part = record { start = part.start; text = strip_carriage_return part.text; base = part.base }

-- the lines of a part
abbrev pub lines_in : Part → List Part
lines_in part = map without_return (parts_of Newline part)

-- the lines of a text
unfoldable pub lines_of : Bor (List ℕ) → List Part
lines_of bytes = lines_in (record { start = 0; text = bytes.now; base = bytes.ref_ptr })

abbrev pub is_filled : Part → Bool
is_filled part = nat_lt 0 (length part.text)

-- the fields of a line: what stands between its spaces and tabs
unfoldable pub fields_of : Part → List Part
fields_of line = filter is_filled (parts_of Blank line)

-- the first byte of a line's fields
abbrev pub first_byte : List Part → Option ℕ
first_byte [] = None
first_byte (first ∷ others) = Some (slice_index first.text 0)

-- a line whose first field begins with a digit is a participant line
abbrev pub is_call : List Part → Bool
is_call [] = false
is_call (first ∷ others) = is_ascii_digit (slice_index first.text 0)

-- a line without fields is skipped, and one whose first field begins with '#'
abbrev pub is_skipped : List Part → Bool
is_skipped [] = true
is_skipped (first ∷ others) = slice_index first.text 0 == 35

-- the bytes of a line are printable ASCII or tabs
abbrev pub is_plain : ℕ → Bool
is_plain byte = (byte == 9) || (nat_le 32 byte && nat_le byte 126)

-- a field has at most 255 bytes
abbrev pub is_long : Part → Bool
is_long field = nat_lt 255 (length field.text)
