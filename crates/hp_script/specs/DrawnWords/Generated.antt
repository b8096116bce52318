-- What is read of the text that the generator writes.
use Rattle.std.specs.Prelude.{◌≡◌, ℕ, ◌+◌, List, [], ◌∷◌, ◌++◌, length, replicate, Some, None, Result, Ok, ⊤, codes}
use Rattle.std.specs.Fmt.{decimal}
use Rattle.hp_base.specs.declared.pool_line.PoolLine.{PoolLine}
use Rattle.hp_script.specs.DrawnWords.Generator.{generated_lines}
use Rattle.hp_script.specs.Workloads.{Refusal}
use Rattle.hp_script.specs.declared.drawn_line.DrawnAct.{DrawnAct}
use Rattle.hp_script.specs.declared.drawn_line.DrawnAct.TheVariants as drawn
use Rattle.hp_script.specs.declared.drawn_line.DrawnLine.{DrawnLine}
use Rattle.hp_script.specs.declared.line.Act.{Act}
use Rattle.hp_script.specs.declared.line.Act.TheVariants as act
use Rattle.hp_script.specs.declared.line.Line.{Line}
use Rattle.hp_script.specs.declared.options.SocketChoice.TheVariants.{Number}
use Rattle.hp_script.specs.declared.options.Options.{Options}
use Rattle.hp_script.specs.declared.reader.Reader.{Reader}

-- the label that the line of a number makes
abbrev pub label_text : ℕ → List ℕ
label_text number = codes "l" ++ decimal number

-- the options of an allocation on a socket
abbrev pub on_socket : ℕ → Options
on_socket socket = record { socket = Number socket; heap = None; align = 0; bound = 0; flags = 0 }

-- an act that is read is the one that was drawn
abbrev pub IsActAsDrawn : DrawnAct → Act → Type 0
IsActAsDrawn (drawn.Alloc label size socket) (act.Alloc token bytes options) = (token.text ≡ label_text label) × (bytes ≡ size) × (options ≡ on_socket socket)
IsActAsDrawn (drawn.Free label) (act.Free token) = token.text ≡ label_text label
IsActAsDrawn (drawn.Resize label size) (act.Resize token bytes) = (token.text ≡ label_text label) × (bytes ≡ size)
IsActAsDrawn _ _ = ⊥

-- a line that is read at a number is the one that was drawn
pub record IsLineAsDrawn (number : ℕ) (drawn : DrawnLine) (line : Line) : Type 0 where
  pub number_is : line.line ≡ number
  pub participant_is : line.participant ≡ drawn.participant
  pub act_is : IsActAsDrawn drawn.act line.act

-- lines that are read from a number on are those that were drawn, as many and in their order
abbrev pub AreLinesAsDrawn : ℕ → List DrawnLine → List Line → Type 0
AreLinesAsDrawn number [] [] = ⊤
AreLinesAsDrawn number (drawn ∷ more) (line ∷ lines) = IsLineAsDrawn number drawn line × AreLinesAsDrawn (number + 1) more lines
AreLinesAsDrawn number _ _ = ⊥

-- a pool of 1,024 pages of 2 MB
abbrev pub generated_pool : ℕ → PoolLine
generated_pool socket = record { socket = socket; page = 2097152; pages = 1024; slots = 1024 }

-- what is read of the first three lines and of such participant lines: four participants, and two pools
abbrev pub generated_reading : List Line → Reader
generated_reading lines =
    record { participants = Some 4; absent = 0; placed = 0; sockets = replicate 16 0; deadline = None; pools = generated_pool 0 ∷ generated_pool 1 ∷ []; plan = []; lines = lines }

-- so many lines from a start are read: none is refused, and the participant lines, which stand after three others, are those that were
-- drawn
pub record IsReadAsDrawn (start lines : ℕ) (reading : Result Reader Refusal) : Type 0 where
  pub read : List Line
  pub whole : reading ≡ Ok (generated_reading read)
  pub drawn : AreLinesAsDrawn 4 (generated_lines start lines) read
  pub count : length read ≡ lines
