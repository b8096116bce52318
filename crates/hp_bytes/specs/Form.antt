-- The form of an input: the rule "Form" of docs/BYTES.md.
use Rattle.std.specs.Prelude.{◌≡◌, ℕ, ◌+◌, ◌==◌, ◌&&◌, Bool, nat_le, nat_lt, List, [], ◌∷◌, length, codes, Option, Some, None, Result, Ok, Err, if◌then◌else◌, ⊤}
use Rattle.std.specs.Char.{digit_value}
use Rattle.std.specs.List.{list_all, slice_split}
use Rattle.std.specs.Option.{option_and_then, option_map}
use Rattle.std.specs.Str.{bytes_eq}
use Rattle.std.specs.Str.Parse.{digits_value}
use Rattle.hp_base.specs.Round.{fitting}
use Rattle.hp_bytes.specs.declared.line.Line.{Line}
use Rattle.hp_bytes.specs.declared.line.Line.TheVariants as line
use Rattle.hp_bytes.specs.declared.reading.FormFault.{FormFault}
use Rattle.hp_bytes.specs.declared.reading.FormFault.TheVariants as fault

-- the bytes of labels: printable ASCII but the space
abbrev pub is_visible : ℕ → Bool
is_visible byte = nat_le 33 byte && nat_le byte 126

-- a label has 1 to 64 such bytes
abbrev pub is_label : List ℕ → Bool
is_label text = (nat_lt 0 (length text) && nat_le (length text) 64) && list_all is_visible text

abbrev pub label_of : List ℕ → Option (List ℕ)
label_of text = if is_label text then Some text else None

-- a number is one decimal digit or more, and nothing else
abbrev pub is_numeral : List ℕ → Bool
is_numeral digits = nat_lt 0 (length digits) && list_all (λ digit. nat_lt (digit_value digit) 10) digits

-- the number of at most 64 bits that the digits write
unfoldable pub decimal : List ℕ → Option ℕ
decimal digits = if is_numeral digits then fitting (digits_value 10 digits) else None

abbrev pub if_within : ℕ → ℕ → ℕ → Option ℕ
if_within low high n = if nat_le low n && nat_le n high then Some n else None

-- such a number from a least to a greatest one
abbrev pub number_within : ℕ → ℕ → List ℕ → Option ℕ
number_within low high digits = option_and_then (if_within low high) (decimal digits)

-- `new <label> <size>`
abbrev pub new_line : List ℕ → List ℕ → Option Line
new_line label size =
    option_and_then (λ name. option_map (λ n. line.New name n) (decimal size)) (label_of label)

-- `put <label> <at> <byte> <len>`, where the byte is at most 255
abbrev pub put_line : List ℕ → List ℕ → List ℕ → List ℕ → Option Line
put_line label at byte len =
    option_and_then (λ name.
    option_and_then (λ place.
    option_and_then (λ value. option_map (λ n. line.Put name place value n) (decimal len)) (number_within 0 255 byte))
    (decimal at)) (label_of label)

-- `copy <a> <b>`
abbrev pub copy_line : List ℕ → List ℕ → Option Line
copy_line from to =
    option_and_then (λ source. option_map (λ target. line.Copy source target) (label_of to)) (label_of from)

-- `get <label> <at> <len>`, of 1 to 64 bytes
abbrev pub get_line : List ℕ → List ℕ → List ℕ → Option Line
get_line label at len =
    option_and_then (λ name.
    option_and_then (λ place. option_map (λ n. line.Get name place n) (number_within 1 64 len)) (decimal at)) (label_of label)

-- `drop <label>`
abbrev pub drop_line : List ℕ → Option Line
drop_line label = option_map (λ name. line.Drop name) (label_of label)

abbrev pub three_fields : List ℕ → List ℕ → List ℕ → Option Line
three_fields word first second =
    if bytes_eq word (codes "new") then new_line first second
    else (if bytes_eq word (codes "copy") then copy_line first second else None)

-- what a line asks for by its fields, where it is of one of the forms
abbrev pub form_of : List (List ℕ) → Option Line
form_of [] = None
form_of (word ∷ []) = None
form_of (word ∷ label ∷ []) = if bytes_eq word (codes "drop") then drop_line label else None
form_of (word ∷ first ∷ second ∷ []) = three_fields word first second
form_of (word ∷ label ∷ at ∷ len ∷ []) = if bytes_eq word (codes "get") then get_line label at len else None
form_of (word ∷ label ∷ at ∷ byte ∷ len ∷ []) = if bytes_eq word (codes "put") then put_line label at byte len else None
form_of (word ∷ a ∷ b ∷ c ∷ d ∷ e ∷ more) = None

-- the fields of a line: what stands before, between and after its spaces
unfoldable pub fields_of : List ℕ → List (List ℕ)
fields_of text = slice_split (λ byte. byte == 32) text

-- what a line asks for
abbrev pub line_of : List ℕ → Option Line
line_of text = form_of (fields_of text)

-- what stands before, between and after the newlines of an input
unfoldable pub parts_of : List ℕ → List (List ℕ)
parts_of input = slice_split (λ byte. byte == 10) input

-- nothing may stand after the last newline
abbrev pub end_of : ℕ → List ℕ → Result (List Line) ℕ
end_of number [] = Ok []
end_of number (byte ∷ bytes) = Err number

-- a line before others
abbrev pub with_line : Option Line → ℕ → Result (List Line) ℕ → Result (List Line) ℕ
with_line None number rest = Err number
with_line (Some line) number (Ok lines) = Ok (line ∷ lines)
with_line (Some line) number (Err bad) = Err bad

abbrev pub read_part : ℕ → List ℕ → List (List ℕ) → Result (List Line) ℕ → Result (List Line) ℕ
read_part number text [] rest = end_of number text
read_part number text (next ∷ others) rest = with_line (line_of text) number rest

-- the lines of these parts, numbered from a number on, or the number of the first that is of no form
abbrev pub reading_from : ℕ → List (List ℕ) → Result (List Line) ℕ
reading_from number [] = Ok []
reading_from number (text ∷ others) = read_part number text others (reading_from (number + 1) others)

-- the lines of an input, or the number of the first that is of no form, counted from 1
unfoldable pub reading : List ℕ → Result (List Line) ℕ
reading input = reading_from 1 (parts_of input)

-- an input has no session: a line is the first of no form, or memory ran out
abbrev pub IsFormFault : Result (List Line) ℕ → FormFault → Type 0
IsFormFault due (fault.Bad number) = due ≡ Err number
IsFormFault due fault.OutOfMemory = ⊤
