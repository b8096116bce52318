-- What participant lines add to what was read, and their refusals along the text.
use Rattle.std.specs.Prelude.{ℕ, Bool, false, nat_lt, nat_le, [], ◌∷◌, ◌++◌, length, Option, Some, None, Result, Ok}
use Rattle.std.specs.Option.{option_map_or}
use Rattle.hp_script.specs.Part.{Part}
use Rattle.hp_script.specs.Judge.{◌>>=◌, refuse}
use Rattle.hp_script.specs.Makers.{Makers, is_taken, is_unmade}
use Rattle.hp_script.specs.Counts.{lines_by}
use Rattle.hp_script.specs.Setups.{is_strange}
use Rattle.hp_script.specs.declared.bad_kind.BadKind.{BadKind}
use Rattle.hp_script.specs.declared.bad_kind.BadKind.TheVariants as bad
use Rattle.hp_script.specs.declared.line.Act.{Act}
use Rattle.hp_script.specs.declared.line.Act.TheVariants as act
use Rattle.hp_script.specs.declared.reader.Reader.{Reader}

-- the label that an act makes
abbrev pub label_made : Act → Option Part
label_made (act.Alloc label size options) = Some label
label_made _ = None

-- the label or name that an act frees or resizes
abbrev pub label_used : Act → Option Part
label_used (act.Free label) = Some label
label_used (act.Resize label size) = Some label
label_used _ = None

-- its label is taken
abbrev pub is_duplicate : Makers → ℕ → Act → Bool
is_duplicate makers number deed = option_map_or (λ label. is_taken makers number label.text) (label_made deed) false

-- its label or name is made by no line
abbrev pub is_unknown : Makers → Act → Bool
is_unknown makers deed = option_map_or (λ label. is_unmade makers label.text) (label_used deed) false

-- one participant line more, of at most 20,000
unfoldable pub add_line : Reader → ℕ → ℕ → Act → Result Reader BadKind
add_line read number party deed = do
  room ← refuse (nat_le 20000 (length read.lines)) bad.Limit
  Ok (record read { lines = read.lines ++ record { line = number; participant = party; act = deed } ∷ [] })

-- a participant line other than `await`
unfoldable pub add_act : Makers → Reader → ℕ → ℕ → Act → Result Reader BadKind
add_act makers read number party deed = do
  once ← refuse (is_duplicate makers number deed) bad.Duplicate
  declared ← refuse (is_strange read party) bad.Unknown
  made ← refuse (is_unknown makers deed) bad.Unknown
  add_line read number party deed

-- an `await` line: the awaited line stands before it
unfoldable pub add_await : Reader → ℕ → ℕ → ℕ → ℕ → Result Reader BadKind
add_await read number party other k = do
  declared ← refuse (is_strange read party) bad.Unknown
  other_declared ← refuse (is_strange read other) bad.Unknown
  before ← refuse (nat_lt (lines_by other read.lines) k) bad.Ahead
  add_line read number party (act.Await other k)
