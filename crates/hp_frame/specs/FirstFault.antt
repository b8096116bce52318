-- The first fault of a text that is no frame.
use Rattle.std.specs.Prelude.{ℕ, ◌+◌, ◌-◌, Bool, ◌||◌, ◌==◌, not, nat_lt, if◌then◌else◌, List, [], ◌∷◌, length, slice_index, slice_range, Option, Some, is_none, option_and_then, find, position}
use Rattle.std.specs.Option.{option_map, option_or}
use Rattle.std.specs.Int.{w16, from_le_bytes}
use Rattle.std.specs.Char.{is_ascii_graphic}
use Rattle.hp_frame.specs.declared.kind.Kind.{Kind}
use Rattle.hp_frame.specs.declared.kind.Kind.TheVariants as kinds
use Rattle.hp_frame.specs.declared.fault.Fault.{Fault}
use Rattle.hp_frame.specs.declared.fault.Fault.TheVariants as faults
use Rattle.hp_frame.specs.declared.layout.TheConstants.{HEADER_LEN, PARAM_LEN_PLACE, NAME_MAX, PARAM_MAX}
use Rattle.hp_frame.specs.Spelling.{kind_with_byte, param_len_of}

-- the length of the name, as the header says it
abbrev pub name_len : List ℕ → ℕ
name_len text = slice_index text 1

-- the length of the parameter, as the header says it
abbrev pub param_len : List ℕ → ℕ
param_len text = from_le_bytes w16 (slice_index text 2 ∷ slice_index text 3 ∷ [])

-- the length of the whole frame, as the header says it
abbrev pub whole_len : List ℕ → ℕ
whole_len text = HEADER_LEN + name_len text + param_len text

-- the name, where the header says that it stands
abbrev pub name_in : List ℕ → List ℕ
name_in text = slice_range text HEADER_LEN (HEADER_LEN + name_len text)

-- the parameter, where the header says that it stands
abbrev pub param_in : List ℕ → List ℕ
param_in text = slice_range text (HEADER_LEN + name_len text) (whole_len text)

-- no name has this length
abbrev pub is_no_name_len : ℕ → Bool
is_no_name_len len = (len == 0) || nat_lt NAME_MAX len

-- the values of a field of one byte: its place in the parameter, and the least and the greatest
pub record FieldRange : Type 0 where
  pub place : ℕ
  pub least : ℕ
  pub greatest : ℕ

-- the fields of a kind that do not take every value, by rising place
abbrev pub field_ranges : Kind → List FieldRange
field_ranges kinds.Alloc = record { place = 0; least = 0; greatest = 15 } ∷ []
field_ranges kinds.Free = record { place = 0; least = 0; greatest = 15 } ∷ []
field_ranges kinds.Sync = record { place = 8; least = 1; greatest = 2 } ∷ []
field_ranges kinds.Answer =
    record { place = 0; least = 0; greatest = 15 } ∷ record { place = 9; least = 1; greatest = 3 }
    ∷ record { place = 10; least = 0; greatest = 1 } ∷ []

-- the byte of the parameter is none of the field's values
abbrev pub is_out_of_range : List ℕ → FieldRange → Bool
is_out_of_range param l =
    nat_lt (slice_index param l.place) l.least || nat_lt l.greatest (slice_index param l.place)

-- the first byte of a parameter that is none of its values
abbrev pub bad_param_byte : Kind → List ℕ → Option ℕ
bad_param_byte kind param = option_map (λ l. l.place) (find (is_out_of_range param) (field_ranges kind))

-- the first byte of a name that is none of its values
abbrev pub bad_name_byte : List ℕ → Option ℕ
bad_name_byte name = position (λ byte. not (is_ascii_graphic byte)) name

-- the first place of a frame whose byte is none of its values: the parameter's length before all others
abbrev pub bad_place : Kind → List ℕ → List ℕ → Option ℕ
bad_place kind name param =
    if not (length param == param_len_of kind) then Some PARAM_LEN_PLACE
    else option_or (option_map (λ i. HEADER_LEN + i) (bad_name_byte name))
    (option_map (λ i. HEADER_LEN + length name + i) (bad_param_byte kind param))

-- the first place whose byte is none of its values, in a text whose header and length are as they must be. A text with no kind has a
-- fault before it comes to this.
abbrev pub bad_place_in : List ℕ → Option ℕ
bad_place_in text =
    option_and_then (λ kind. bad_place kind (name_in text) (param_in text))
    (kind_with_byte (slice_index text 0))

-- the first fault of a text, a line for each check in its order
abbrev pub first_fault : List ℕ → Option Fault
first_fault text =
    if nat_lt (length text) HEADER_LEN then Some (faults.Short (length text) HEADER_LEN)
    else (if is_none (kind_with_byte (slice_index text 0)) then Some (faults.Kind (slice_index text 0))
    else (if is_no_name_len (name_len text) then Some (faults.NameLong (name_len text))
    else (if nat_lt PARAM_MAX (param_len text) then Some (faults.ParamLong (param_len text))
    else (if nat_lt (length text) (whole_len text) then Some (faults.Short (length text) (whole_len text))
    else (if nat_lt (whole_len text) (length text) then Some (faults.Extra (length text - whole_len text))
    else option_map faults.Field (bad_place_in text))))))
