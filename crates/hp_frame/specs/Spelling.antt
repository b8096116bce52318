-- A message as bytes: each has one spelling, with the lowest byte of a number first.
use Rattle.std.specs.Prelude.{◌≡◌, ℕ, ◌<◌, ◌≤◌, ◌^◌, ◌==◌, List, [], ◌∷◌, ◌++◌, length, All, Option, find}
use Rattle.std.specs.Int.{w16, w32, w64, to_le_bytes}
use Rattle.std.specs.Char.{IsAsciiGraphic}
use Rattle.hp_base.specs.Names.{IsNameText}
use Rattle.hp_frame.specs.declared.kind.Kind.{Kind}
use Rattle.hp_frame.specs.declared.kind.Kind.TheVariants as kinds
use Rattle.hp_frame.specs.declared.message.Body.{Body}
use Rattle.hp_frame.specs.declared.message.Body.TheVariants.{Alloc, Free, Sync, Answer}
use Rattle.hp_frame.specs.declared.message.Message.{Message}

-- the kind of what a message says
abbrev pub kind_of : Body → Kind
kind_of (Alloc from number heap socket page size align bound flags) = kinds.Alloc
kind_of (Free from number heap address len) = kinds.Free
kind_of (Sync generation round) = kinds.Sync
kind_of (Answer from number what code) = kinds.Answer

-- the byte that stands for a kind
abbrev pub byte_of : Kind → ℕ
byte_of kinds.Alloc = 1
byte_of kinds.Free = 2
byte_of kinds.Sync = 3
byte_of kinds.Answer = 4

-- the kind that a byte stands for
abbrev pub kind_with_byte : ℕ → Option Kind
kind_with_byte byte =
    find (λ kind. byte_of kind == byte) (kinds.Alloc ∷ kinds.Free ∷ kinds.Sync ∷ kinds.Answer ∷ [])

-- how many bytes the parameter of a kind has
abbrev pub param_len_of : Kind → ℕ
param_len_of kinds.Alloc = 53
param_len_of kinds.Free = 29
param_len_of kinds.Sync = 9
param_len_of kinds.Answer = 11

-- the parameter: the numbers of the kind, one after the other
abbrev pub param_of : Body → List ℕ
param_of (Alloc from number heap socket page size align bound flags) =
    (from ∷ []) ++ to_le_bytes w64 number ++ to_le_bytes w32 heap ++ to_le_bytes w32 socket
    ++ to_le_bytes w64 page ++ to_le_bytes w64 size ++ to_le_bytes w64 align ++ to_le_bytes w64 bound
    ++ to_le_bytes w32 flags
param_of (Free from number heap address len) =
    (from ∷ []) ++ to_le_bytes w64 number ++ to_le_bytes w32 heap ++ to_le_bytes w64 address
    ++ to_le_bytes w64 len
param_of (Sync generation round) = to_le_bytes w64 generation ++ (round ∷ [])
param_of (Answer from number what code) = (from ∷ []) ++ to_le_bytes w64 number ++ (what ∷ []) ++ (code ∷ [])

-- a kind, the length of the name, the length of the parameter in two bytes, the name, the parameter
abbrev pub spelling : Message → List ℕ
spelling m =
    byte_of (kind_of m.body) ∷ length m.name ∷ to_le_bytes w16 (param_len_of (kind_of m.body))
    ++ (m.name ++ param_of m.body)

-- the bytes with few values have one of them; every other number takes each value of its width
abbrev pub HasFieldValues : Body → Type 0
HasFieldValues (Alloc from number heap socket page size align bound flags) = from ≤ 15
HasFieldValues (Free from number heap address len) = from ≤ 15
HasFieldValues (Sync generation round) = (1 ≤ round) × (round ≤ 2)
HasFieldValues (Answer from number what code) = (from ≤ 15) × (1 ≤ what) × (what ≤ 3) × (code ≤ 1)

-- the numbers fit their places, as those of every `Body` of the program do: a wider one has no spelling
abbrev pub FitsWidths : Body → Type 0
FitsWidths (Alloc from number heap socket page size align bound flags) =
    (from < 2 ^ 8) × (number < 2 ^ 64) × (heap < 2 ^ 32) × (socket < 2 ^ 32) × (page < 2 ^ 64)
    × (size < 2 ^ 64) × (align < 2 ^ 64) × (bound < 2 ^ 64) × (flags < 2 ^ 32)
FitsWidths (Free from number heap address len) =
    (from < 2 ^ 8) × (number < 2 ^ 64) × (heap < 2 ^ 32) × (address < 2 ^ 64) × (len < 2 ^ 64)
FitsWidths (Sync generation round) = (generation < 2 ^ 64) × (round < 2 ^ 8)
FitsWidths (Answer from number what code) =
    (from < 2 ^ 8) × (number < 2 ^ 64) × (what < 2 ^ 8) × (code < 2 ^ 8)

-- each byte of the name, from 0x21 to 0x7E, and each field is among its values
pub record IsValid (m : Message) : Type 0 where
  pub name : All IsAsciiGraphic m.name
  pub fields : HasFieldValues m.body

-- what has a spelling
pub record HasSpelling (m : Message) : Type 0 where
  pub name : IsNameText m.name
  pub valid : IsValid m
  pub widths : FitsWidths m.body

-- the text is the frame of the message
pub record Spells (text : List ℕ) (m : Message) : Type 0 where
  pub has_spelling : HasSpelling m
  pub is_spelling : text ≡ spelling m
