-- What a view of a frame shows.
use Rattle.std.specs.Prelude.{◌≡◌, ℕ, ◌+◌, List, length, slice_range}
use Rattle.hp_frame.specs.declared.layout.TheConstants.{HEADER_LEN}
use Rattle.hp_frame.specs.declared.message.Body.{Body}
use Rattle.hp_frame.specs.declared.message.Message.{Message}
use Rattle.hp_frame.specs.Spelling.{Spells}

-- the address of the frame's first byte in memory, and the message that the frame spells
pub record Viewed : Type 0 where
  pub address : ℕ × ℕ
  pub message : Message

-- the address so many bytes behind another
abbrev pub bytes_behind : ℕ × ℕ → ℕ → ℕ × ℕ
bytes_behind address n = (address.0, address.1 + n)

-- the message of a text whose name has that length, with that body
abbrev pub message_in : List ℕ → ℕ → Body → Message
message_in text name_len body = record { name = slice_range text HEADER_LEN (HEADER_LEN + name_len); body = body }

-- the text is the frame of that message
pub record IsFrameOf (text : List ℕ) (name_len : ℕ) (body : Body) : Type 0 where
  pub spelled : Spells text (message_in text name_len body)
  pub name_len_is : length (slice_range text HEADER_LEN (HEADER_LEN + name_len)) ≡ name_len
