-- What frames say to participants: the rule "Serving" of docs/PARTICIPANTS.md.
use Rattle.std.specs.Prelude.{ℕ, List, [], ◌∷◌, take}
use Rattle.hp_frame.specs.Spelling.{Spells}
use Rattle.hp_frame.specs.declared.frame.Frame.{Frame}
use Rattle.hp_frame.specs.declared.message.Body.{Body}
use Rattle.hp_frame.specs.declared.message.Message.{Message}

-- the name of the handler of growths, which all frames of participants have: malloc
abbrev pub handler_name : List ℕ
handler_name = 109 ∷ 97 ∷ 108 ∷ 108 ∷ 111 ∷ 99 ∷ []

-- the message to the handler that says so
abbrev pub to_handler : Body → Message
to_handler body = record { name = handler_name; body = body }

-- a frame says that to the handler
abbrev pub Says : Frame → Body → Type 0
Says frame body = Spells (take frame.len frame.bytes) (to_handler body)

-- a frame says nothing to the handler: it doesn't read, or has another name
abbrev pub SaysNothing : Frame → Type 0
SaysNothing frame = (body : Body) → Says frame body → ⊥
