-- Why a text is not run, and how that is written.
use Rattle.std.specs.Prelude.{List, ℕ, ◌++◌, codes, Option, Some, None, Result, Ok, Err}
use Rattle.std.specs.Fmt.{decimal}
use Rattle.hp_script.specs.Kinds.{kind_word}
use Rattle.hp_script.specs.Workloads.{Refusal, reading_of}
use Rattle.hp_script.specs.declared.reader.Reader.{Reader}
use Rattle.hp_run.specs.declared.refusal.Refusal as run

-- the line with the word of its kind
abbrev pub refusal_text : run.Refusal → List ℕ
refusal_text refusal = codes "refused line " ++ decimal refusal.line ++ codes " " ++ kind_word refusal.kind ++ codes "\n"

-- the first refusal of the language, where there is one
abbrev pub first_refusal : Result Reader Refusal → Option run.Refusal
first_refusal (Err refusal) = Some (record { line = refusal.line; kind = refusal.kind })
first_refusal (Ok read) = None

-- why a text is not run, where it is not
unfoldable pub refusal_of : List ℕ → Option run.Refusal
refusal_of bytes = first_refusal (reading_of bytes)
