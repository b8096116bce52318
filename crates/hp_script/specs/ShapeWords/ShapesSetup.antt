-- The fields of setup lines, and their first refusal.
use Rattle.std.specs.Prelude.{ℕ, max, Bool, not, nat_lt, List, [], ◌∷◌, length, Result, Ok, Err}
use Rattle.std.specs.Option.{ok_or}
use Rattle.hp_base.specs.Pages.{is_page_size}
use Rattle.hp_script.specs.Part.{Part}
use Rattle.hp_script.specs.Judge.{◌>>=◌, refuse, is_within, number_field, party_field}
use Rattle.hp_script.specs.ShapeWords.Verbs.{kind_named}
use Rattle.hp_script.specs.declared.bad_kind.BadKind.{BadKind}
use Rattle.hp_script.specs.declared.bad_kind.BadKind.TheVariants as bad
use Rattle.hp_script.specs.declared.shape.Setup.{Setup}
use Rattle.hp_script.specs.declared.shape.Setup.TheVariants.{Participants, Absent, Socket, Deadline, Pool, Message, Mapping}

-- `participants <n>`, 1 to 16
unfoldable pub participants_line : List Part → Result Setup BadKind
participants_line (n ∷ []) = do
  count ← number_field n
  within ← refuse (not (is_within 1 16 count)) bad.Range
  Ok (Participants count)
participants_line _ = Err bad.Fields

-- `absent <p>`, 1 to 15
unfoldable pub absent_line : List Part → Result Setup BadKind
absent_line (p ∷ []) = do
  party ← party_field p
  within ← refuse (not (is_within 1 15 party)) bad.Range
  Ok (Absent party)
absent_line _ = Err bad.Fields

-- `socket <p> <s>`, s 0 to 31
unfoldable pub socket_line : List Part → Result Setup BadKind
socket_line (p ∷ s ∷ []) = do
  party ← party_field p
  socket ← number_field s
  within ← refuse (nat_lt 31 socket) bad.Range
  Ok (Socket party socket)
socket_line _ = Err bad.Fields

-- `deadline <ms>`, 1 to 3,600,000
unfoldable pub deadline_line : List Part → Result Setup BadKind
deadline_line (n ∷ []) = do
  ms ← number_field n
  within ← refuse (not (is_within 1 3600000 ms)) bad.Range
  Ok (Deadline ms)
deadline_line _ = Err bad.Fields

-- the slots of a pool's list: those that are given, or the pages, but at least 1
abbrev pub slots_field : List Part → ℕ → Result ℕ BadKind
slots_field [] pages = Ok (max pages 1)
slots_field (slots ∷ others) pages = number_field slots

-- `pool <s> <page> <pages> [slots]`: s 0 to 31, a page size, pages 0 to 8,192, slots 1 to 8,192
unfoldable pub pool_line : List Part → Result Setup BadKind
pool_line (s ∷ size ∷ n ∷ words) = do
  few ← refuse (nat_lt 1 (length words)) bad.Fields
  socket ← number_field s
  page ← number_field size
  pages ← number_field n
  slots ← slots_field words pages
  socket_within ← refuse (nat_lt 31 socket) bad.Range
  page_within ← refuse (not (is_page_size page)) bad.Range
  pages_within ← refuse (nat_lt 8192 pages) bad.Range
  slots_within ← refuse (not (is_within 1 8192 slots)) bad.Range
  Ok (Pool (record { socket = socket; page = page; pages = pages; slots = slots }))
pool_line _ = Err bad.Fields

-- a participant, and the number of one of its messages or mapping calls, 1 to 1,000,000
unfoldable pub counted_line : List Part → Result (ℕ × ℕ) BadKind
counted_line (p ∷ n ∷ []) = do
  party ← party_field p
  k ← number_field n
  within ← refuse (not (is_within 1 1000000 k)) bad.Range
  Ok (party, k)
counted_line _ = Err bad.Fields

-- `lose <kind> <p> <k>` and `repeat <kind> <p> <k>`
unfoldable pub message_line : Bool → List Part → Result Setup BadKind
message_line twice (word ∷ others) = do
  kind ← ok_or (kind_named word) bad.Verb
  counted ← counted_line others
  Ok (Message kind counted.0 counted.1 twice)
message_line twice _ = Err bad.Fields

-- `refuse <p> <k>` and `elsewhere <p> <k>`
unfoldable pub mapping_line : Bool → List Part → Result Setup BadKind
mapping_line elsewhere arguments = do
  counted ← counted_line arguments
  Ok (Mapping counted.0 counted.1 elsewhere)
