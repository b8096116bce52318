-- How the program ends: what each status says of its words, by the form that they are.
use Rattle.std.specs.Prelude.{◌≡◌, ℕ, List, codes, Option, Some, None, ⊤}
use Rattle.hp_base.specs.Mapping.{FailingCall}
use Rattle.hp_base.specs.declared.status.Status.{Status}
use Rattle.hp_base.specs.declared.status.Status.TheVariants as status
use Rattle.hp_report.specs.Writing.{Holds, HoldsFront}
use Rattle.hp_script.specs.DrawnWords.GeneratedText.{generated_text}
use Rattle.hp_words.specs.Forms.{form_of}
use Rattle.hp_words.specs.declared.form.Form.{Form}
use Rattle.hp_words.specs.declared.form.Form.TheVariants.{Solo, Run, Check, Text, Summary}
use Rattle.hp_run.specs.Checking.{CheckEnds, check_status}
use Rattle.hp_run.specs.Making.{IsGenerated, IsMade, IsSummaryFor}
use Rattle.hp_run.specs.Outcome.{RunEnds, SoloEnds, read_status_of, solo_status_of}

-- what is written where the words are no form
abbrev pub usage_text : List ℕ
usage_text = codes "usage: heapsim solo|run|check|generate <start> <lines> [summary]\n"

-- what each status says where the words are no form: nothing is read, and the usage text is written, or a front of it where the sink failed
abbrev pub UsageEnds : Option (List ℕ) → Option (List ℕ) → Option (List ℕ) → Option (List ℕ) → Type 0 → Status → Type 0
UsageEnds left left' held held' sink_failed status.Usage = (left' ≡ left) × Holds held held' usage_text
UsageEnds left left' held held' sink_failed status.WriteFault = (left' ≡ left) × HoldsFront held held' usage_text × sink_failed
UsageEnds left left' held held' sink_failed _ = ⊥

-- what each status says where the words are a form: it is what the call for it says, and one that generates reads nothing
abbrev pub FormEnds : Option Form → List (Option (List FailingCall)) → Option (List ℕ) → Option (List ℕ) → Option (List ℕ) → Option (List ℕ)
    → Type 0 → Type 0 → Status → Type 0
FormEnds None mappers left left' held held' source_failed sink_failed result = UsageEnds left left' held held' sink_failed result
FormEnds (Some Solo) mappers left left' held held' source_failed sink_failed result =
    SoloEnds mappers left left' held held' source_failed sink_failed result
FormEnds (Some Run) mappers left left' held held' source_failed sink_failed result =
    RunEnds mappers left left' held held' source_failed sink_failed result
FormEnds (Some Check) mappers left left' held held' source_failed sink_failed result =
    CheckEnds left left' held held' source_failed sink_failed result
FormEnds (Some (Text start lines)) mappers left left' held held' source_failed sink_failed result =
    (left' ≡ left) × IsMade (IsGenerated start lines) held held' sink_failed result
FormEnds (Some (Summary start lines)) mappers left left' held held' source_failed sink_failed result =
    (left' ≡ left) × IsMade (IsSummaryFor mappers (generated_text start lines)) held held' sink_failed result

-- what each status says of the words and the mappers, and of the source and the sink, before and after: what it says for the form of the
-- words, or memory ran out before anything was read or written
pub data Ends (words : List (List ℕ)) (mappers : List (Option (List FailingCall))) (left left' held held' : Option (List ℕ))
    (source_failed sink_failed : Type 0) (result : Status) : Type 0 where
  by_form : (form : Option Form) → form_of words ≡ form → FormEnds form mappers left left' held held' source_failed sink_failed result
      → Ends words mappers left left' held held' source_failed sink_failed result
  at_once : result ≡ status.OutOfMemory → left' ≡ left → held' ≡ held → Ends words mappers left left' held held' source_failed sink_failed result

-- the status for a form and an input, where reading, writing and memory do not fail
abbrev pub form_status_of : Option Form → List ℕ → Status
form_status_of None input = status.Usage
form_status_of (Some Solo) input = solo_status_of input
form_status_of (Some Run) input = solo_status_of input
form_status_of (Some Check) input = read_status_of check_status input
form_status_of (Some (Text start lines)) input = status.Ok
form_status_of (Some (Summary start lines)) input = status.Ok

-- that for words and an input
abbrev pub status_of : List (List ℕ) → List ℕ → Status
status_of words = form_status_of (form_of words)
