-- The tokens of a line.
use Rattle.std.specs.Prelude.{◌≡◌, ℕ, ◌≤◌, ◌<◌, Bool, true, not, ◌&&◌, nat_le, List, ◌∷◌, length, Option, Some, None, IfSome, Result, Ok}
use Rattle.std.specs.List.{list_all, list_any}
use Rattle.hp_script.specs.Part.{Part}
use Rattle.hp_script.specs.Text.{is_plain, is_long, fields_of, parts_of, parts_left}
use Rattle.hp_script.specs.Judge.{◌>>=◌, refuse}
use Rattle.hp_script.specs.declared.bad_kind.BadKind.{BadKind}
use Rattle.hp_script.specs.declared.bad_kind.BadKind.TheVariants as bad
use Rattle.hp_script.specs.declared.text.Separator.TheVariants.{Blank}

-- a byte that can be seen: printable ASCII, and no space
abbrev pub is_visible : ℕ → Bool
is_visible byte = nat_le 33 byte && nat_le byte 126

-- the text of a token: 1 to 255 bytes, all from 0x21 to 0x7E
pub record IsWord (text : List ℕ) : Type 0 where
  pub filled : 1 ≤ length text
  pub short : length text ≤ 255
  pub visible : list_all is_visible text ≡ true

-- the tokens of a line are its fields: its bytes are plain, and no field is long
unfoldable pub tokens_in : Part → Result (List Part) BadKind
tokens_in line = do
  plain ← refuse (not (list_all is_plain line.text)) bad.Byte
  short ← refuse (list_any is_long (fields_of line)) bad.Long
  Ok (fields_of line)

-- a byte that stands in no field
abbrev pub is_blind : ℕ → Bool
is_blind byte = not (is_visible byte)

-- what may be left of a line is plain
abbrev pub is_plain_rest : Option Part → Bool
is_plain_rest None = true
is_plain_rest (Some rest) = list_all is_plain rest.text

-- a line is cut after its first field
pub record IsFieldCut (whole field : Part) (rest : Option Part) : Type 0 where
  pub parts : parts_of Blank whole ≡ field ∷ parts_left Blank rest
  pub visible : list_all is_visible field.text ≡ true
  pub plain : list_all is_plain whole.text ≡ is_plain_rest rest
  pub shorter : IfSome rest (λ behind. length behind.text < length whole.text)
