-- What there is to write where a text is read and not run: how many participant lines it has, or its first refusal.
use Rattle.std.specs.Prelude.{◌≡◌, ℕ, List, length, ◌++◌, codes, Option, Result, Ok, Err}
use Rattle.std.specs.Fmt.{decimal}
use Rattle.hp_base.specs.declared.status.Status.{Status}
use Rattle.hp_base.specs.declared.status.Status.TheVariants as status
use Rattle.hp_script.specs.Workloads.{IsReadAs, Refusal, reading_of}
use Rattle.hp_script.specs.declared.bad_kind.BadKind.{BadKind}
use Rattle.hp_script.specs.declared.reader.Reader.{Reader}
use Rattle.hp_script.specs.declared.workload.Workload.{Workload}
use Rattle.hp_run.specs.Outcome.{ReadEnds}
use Rattle.hp_run.specs.Refusals.{refusal_text}

-- how many participant lines there are
abbrev pub count_text : ℕ → List ℕ
count_text lines = codes "ok " ++ decimal lines ++ codes "\n"

-- the text is what there is to write for an input, with the status that it goes with
pub data IsChecked (input : List ℕ) : Status → List ℕ → Type 0 where
  -- the language refuses the input
  of_refusal : (line : ℕ) (kind : BadKind) → reading_of input ≡ Err (record { line = line; kind = kind })
      → IsChecked input status.BadWorkload (refusal_text (record { line = line; kind = kind }))
  -- the input is a workload
  of_workload : (workload : Workload) → IsReadAs input workload → IsChecked input status.Ok (count_text (length workload.lines.items))

-- the status for what was read, and for the bytes of a text
abbrev pub checked_status : Result Reader Refusal → Status
checked_status (Ok read) = status.Ok
checked_status (Err refusal) = status.BadWorkload

abbrev pub check_status : List ℕ → Status
check_status bytes = checked_status (reading_of bytes)

-- what each status says of the source and the sink, before and after
abbrev pub CheckEnds : Option (List ℕ) → Option (List ℕ) → Option (List ℕ) → Option (List ℕ) → Type 0 → Type 0 → Status → Type 0
CheckEnds = ReadEnds IsChecked
