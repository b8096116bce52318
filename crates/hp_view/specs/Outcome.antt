-- How the program ends: what each status says. docs/VIEW.md, "Statuses".
use Rattle.std.specs.Prelude.{◌≡◌, ℕ, ◌==◌, Bool, true, false, List, ◌++◌, length, codes, Option, Ok, Err}
use Rattle.std.specs.Fmt.{decimal}
use Rattle.hp_base.specs.declared.status.Status.{Status}
use Rattle.hp_base.specs.declared.status.Status.TheVariants as status
use Rattle.hp_command.specs.Words.{values_of}
use Rattle.hp_command.specs.Writing.{Holds, HoldsFront}
use Rattle.hp_view.specs.declared.line.Line.{Line}
use Rattle.hp_view.specs.Picture.{picture_of}
use Rattle.hp_view.specs.Reading.{reading}
use Rattle.hp_view.specs.Streaming.{GaveAll, GaveTooMuch}

-- the program takes no values
abbrev pub is_own : List (List ℕ) → Bool
is_own words = length (values_of words) == 0

abbrev pub usage_text : List ℕ
usage_text = codes "usage: heapview\n"

-- what is said of an input that is no report
abbrev pub refusal_text : ℕ → List ℕ
refusal_text line = codes "heapview: line " ++ decimal line ++ codes " is no line of a report\n"

-- what a sink holds, and whether it failed meanwhile
pub record Held : Type 1 where
  pub old : Option (List ℕ)
  pub new : Option (List ℕ)
  pub failed : Type 0

abbrev pub held_by : Option (List ℕ) → Option (List ℕ) → Type 0 → Held
held_by old new failed = record { old = old; new = new; failed = failed }

-- nothing was written to a sink
abbrev pub Silent : Held → Type 0
Silent held = held.new ≡ held.old

-- a text was written to a sink with a status, or a front of it before the sink failed
pub data IsWritten (ended : Status) (text : List ℕ) (held : Held) : Status → Type 0 where
  whole : Holds held.old held.new text → IsWritten ended text held ended
  front : HoldsFront held.old held.new text → held.failed → IsWritten ended text held status.WriteFault

-- which line is none of a report was said, or a front of it, or nothing where memory ran out
pub data IsSaid (line : ℕ) (err : Held) : Status → Type 0 where
  said : (result : Status) → IsWritten status.BadWorkload (refusal_text line) err result → IsSaid line err result
  unsaid : Silent err → IsSaid line err status.OutOfMemory

-- what there is to write for an input was written, or nothing where memory ran out: a picture as the output, or what is wrong as an error
pub data IsAnswered (input : List ℕ) (out err : Held) : Status → Type 0 where
  drawn : (lines : List Line) (result : Status) → reading input ≡ Ok lines → IsWritten status.Ok (picture_of lines) out result → Silent err
      → IsAnswered input out err result
  refused : (line : ℕ) (result : Status) → reading input ≡ Err line → IsWritten status.BadWorkload (refusal_text line) err result → Silent out
      → IsAnswered input out err result
  ran_out : Silent out → Silent err → IsAnswered input out err status.OutOfMemory

-- what a run did: its words are not the program's and that was said; or it read, and answered what it read; or it could not read all
pub data Ends (right : Bool) (left left' : Option (List ℕ)) (source_failed : Type 0) (out err : Held) : Status → Type 0 where
  usage : (result : Status) → right ≡ false → left' ≡ left → IsWritten status.Usage usage_text err result → Silent out
      → Ends right left left' source_failed out err result
  answered : (input : List ℕ) (result : Status) → right ≡ true → GaveAll left left' input → IsAnswered input out err result
      → Ends right left left' source_failed out err result
  failed : right ≡ true → source_failed → Silent out → Silent err → Ends right left left' source_failed out err status.ReadFault
  too_long : right ≡ true → GaveTooMuch left left' → Silent out → Silent err → Ends right left left' source_failed out err status.TooLong
  no_memory : right ≡ true → Silent out → Silent err → Ends right left left' source_failed out err status.OutOfMemory
