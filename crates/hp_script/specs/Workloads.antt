-- The workload of a text, or its first refusal.
use Rattle.std.specs.Prelude.{◌≡◌, ℕ, ◌+◌, List, [], ◌∷◌, ◌++◌, length, unwrap_or, Result, Ok, Err}
use denote.Ref.{Bor}
use Rattle.hp_script.specs.Part.{Part}
use Rattle.hp_script.specs.Text.{lines_of}
use Rattle.hp_script.specs.Makers.{Makers, makers_of}
use Rattle.hp_script.specs.Setups.{nothing}
use Rattle.hp_script.specs.Reading.{read_line}
use Rattle.hp_script.specs.declared.bad_kind.BadKind.{BadKind}
use Rattle.hp_script.specs.declared.parse_fault.ParseFault.{ParseFault}
use Rattle.hp_script.specs.declared.parse_fault.ParseFault.TheVariants as parse_fault
use Rattle.hp_script.specs.declared.reader.Reader.{Reader}
use Rattle.hp_script.specs.declared.workload.Workload.{Workload}

-- a line that is refused, and its first refusal
pub record Refusal : Type 0 where
  pub line : ℕ
  pub kind : BadKind

-- what follows a line that is not refused
abbrev pub go_on : Result Reader BadKind → ℕ → (Reader → Result Reader Refusal) → Result Reader Refusal
go_on (Ok read) number more = more read
go_on (Err kind) number more = Err (record { line = number; kind = kind })

-- the lines from a number on, one after another
abbrev pub read_from : Makers → Reader → ℕ → List Part → Result Reader Refusal
read_from makers read number [] = Ok read
read_from makers read number (line ∷ others) =
    go_on (read_line makers read number line) number (λ more. read_from makers more (number + 1) others)

-- what is read further, where nothing is refused
abbrev pub read_further : Result Reader Refusal → (Reader → Result Reader Refusal) → Result Reader Refusal
read_further (Ok read) more = more read
read_further (Err refusal) more = Err refusal

-- the whole text, where it stands
unfoldable pub reading_at : Bor (List ℕ) → Result Reader Refusal
reading_at bytes = read_from (makers_of (lines_of bytes)) nothing 1 (lines_of bytes)

-- what a text says, and whether it is refused, does not depend on where it stands: as if it stood at the address 0
abbrev pub reading_of : List ℕ → Result Reader Refusal
reading_of bytes = reading_at (record { ref_ptr = (0, 0); now = bytes })

-- of the lines from a number on the first bad one: all lines before it are accepted, and it is refused so
pub record IsFirstBad (makers : Makers) (read : Reader) (start : ℕ) (lines : List Part) (number : ℕ) (kind : BadKind) : Type 0 where
  pub before : List Part
  pub line : Part
  pub after : List Part
  pub so_far : Reader
  pub lines_are : lines ≡ before ++ line ∷ after
  pub accepted : read_from makers read start before ≡ Ok so_far
  pub number_is : number ≡ start + length before
  pub refused : read_line makers so_far number line ≡ Err kind

-- the fault names the first bad line of the text, and its first kind of refusal, unless memory runs out
abbrev pub NamesFirstBad : Bor (List ℕ) → ParseFault → Type 0
NamesFirstBad bytes (parse_fault.Bad line kind) = IsFirstBad (makers_of (lines_of bytes)) nothing 1 (lines_of bytes) line kind
NamesFirstBad bytes parse_fault.OutOfMemory = Unit {0}

-- what was read is the workload; what no line says has its default
pub record IsWorkloadOf (read : Reader) (workload : Workload) : Type 0 where
  pub participants : workload.participants ≡ unwrap_or read.participants 1
  pub absent : workload.absent ≡ read.absent
  pub sockets : workload.sockets ≡ read.sockets
  pub deadline : workload.deadline ≡ unwrap_or read.deadline 5000
  pub pools : workload.pools.items ≡ read.pools
  pub plan : workload.plan.items ≡ read.plan
  pub lines : workload.lines.items ≡ read.lines

-- a text is read as the workload, where it stands: none of its lines is refused
pub record IsReadAs (bytes : List ℕ) (workload : Workload) : Type 0 where
  pub at : ℕ × ℕ
  pub read : Reader
  pub whole : reading_at (record { ref_ptr = at; now = bytes }) ≡ Ok read
  pub workload_is : IsWorkloadOf read workload

-- the fault is the first refusal of the lines from a number on, unless memory runs out
abbrev pub IsRefusalOf : Result Reader Refusal → ParseFault → Type 0
IsRefusalOf read (parse_fault.Bad line kind) = read ≡ Err (record { line = line; kind = kind })
IsRefusalOf read parse_fault.OutOfMemory = Unit {0}

-- lines are read so, unless memory runs out
abbrev pub Reads : Result Reader ParseFault → Result Reader Refusal → Type 0
Reads (Ok reader) read = read ≡ Ok reader
Reads (Err fault) read = IsRefusalOf read fault
