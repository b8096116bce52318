-- What is read of a report: docs/VIEW.md, "What is read".
use Rattle.std.specs.Prelude.{◌≡◌, ℕ, ◌+◌, ◌==◌, Bool, true, false, List, [], ◌∷◌, codes, Option, Some, None, Result, Ok, Err, if◌then◌else◌, ⊤}
use Rattle.std.specs.List.{slice_split}
use Rattle.std.specs.Str.{bytes_eq}
use Rattle.hp_view.specs.declared.line.Line.{Line}
use Rattle.hp_view.specs.declared.line.Line.TheVariants as line
use Rattle.hp_view.specs.declared.reading.FormFault.{FormFault}
use Rattle.hp_view.specs.declared.reading.FormFault.TheVariants as fault
use Rattle.hp_view.specs.Form.{line_of}

-- what stands before, between and after the newlines of an input
unfoldable pub parts_of : List ℕ → List (List ℕ)
parts_of input = slice_split (λ byte. byte == 10) input

abbrev pub is_end : Line → Bool
is_end line.End = true
is_end _ = false

-- after the last line nothing may stand but its newline
abbrev pub ended : ℕ → List (List ℕ) → Result (List Line) ℕ
ended number ([] ∷ []) = Ok []
ended number _ = Err number

abbrev pub before : Line → Result (List Line) ℕ → Result (List Line) ℕ
before first (Ok lines) = Ok (first ∷ lines)
before first (Err bad) = Err bad

-- a line with parts after it, and what is read of these
abbrev pub with_line : Option Line → ℕ → List (List ℕ) → Result (List Line) ℕ → Result (List Line) ℕ
with_line None number after rest = Err number
with_line (Some first) number after rest = if is_end first then ended (number + 1) after else before first rest

-- what stands after the last newline is no line, and `end` did not come
abbrev pub read_part : ℕ → List ℕ → List (List ℕ) → Result (List Line) ℕ → Result (List Line) ℕ
read_part number text [] rest = Err number
read_part number text (next ∷ others) rest = with_line (line_of text) number (next ∷ others) rest

-- what is read of these parts, numbered from a number on, or the number of the first that is no line of a report at its place
abbrev pub reading_from : ℕ → List (List ℕ) → Result (List Line) ℕ
reading_from number [] = Err number
reading_from number (text ∷ others) = read_part number text others (reading_from (number + 1) others)

-- the first line says what the text is
abbrev pub after_first : List ℕ → List (List ℕ) → Result (List Line) ℕ
after_first text [] = Err 1
after_first text (next ∷ others) = if bytes_eq text (codes "heapsim report 1") then reading_from 2 (next ∷ others) else Err 1

abbrev pub reading_of : List (List ℕ) → Result (List Line) ℕ
reading_of [] = Err 1
reading_of (text ∷ others) = after_first text others

-- what is read of an input, or the number of the first line, from 1, that is none of a report at its place
unfoldable pub reading : List ℕ → Result (List Line) ℕ
reading input = reading_of (parts_of input)

-- an input is no report: a line is the first that is none, or memory ran out
abbrev pub IsFormFault : Result (List Line) ℕ → FormFault → Type 0
IsFormFault due (fault.Bad number) = due ≡ Err number
IsFormFault due fault.OutOfMemory = ⊤
