-- Texts that are read and written part by part. No public clause cites this module.
use Rattle.std.specs.Prelude.{◌≡◌, ℕ, ◌+◌, ◌≤◌, false, List, ◌++◌, length, take, drop, slice_index, Some, None}
use Rattle.hp_frame.specs.declared.kind.Kind.{Kind}
use Rattle.hp_frame.specs.Spelling.{kind_with_byte}
use Rattle.hp_frame.specs.FirstFault.{name_len, whole_len, name_in, param_in, is_no_name_len, bad_place}

-- a text is this part and then the rest
pub record Takes (text part rest : List ℕ) : Type 0 where
  pub parts : text ≡ part ++ rest
  pub len : length text ≡ length part + length rest

-- the part stands from place at on, up to the end, and all else is as before
pub record Puts (old : List ℕ) (at : ℕ) (part new : List ℕ) (end : ℕ) : Type 0 where
  pub room : at + length part ≤ length old
  pub bytes : new ≡ take at old ++ (part ++ drop (at + length part) old)
  pub end_is : end ≡ at + length part

-- the text passes each check as a frame of the kind
pub record IsChecked (text : List ℕ) (kind : Kind) : Type 0 where
  pub kind_is : kind_with_byte (slice_index text 0) ≡ Some kind
  pub name_len_is : is_no_name_len (name_len text) ≡ false
  pub whole : length text ≡ whole_len text
  pub no_bad_place : bad_place kind (name_in text) (param_in text) ≡ None
