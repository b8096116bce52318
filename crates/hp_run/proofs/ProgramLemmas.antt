-- How the program ends, by how the call for its words ended.
use Rattle.std.proofs.Common.{◌≡◌, ℕ, List, Option, Some, None, IfSome, ap, sym, refl, subst}
use Rattle.hp_base.specs.Mapping.{FailingCall}
use Rattle.hp_base.specs.declared.status.Status.{Status}
use Rattle.hp_base.specs.declared.status.Status.TheVariants as status
use Rattle.hp_words.specs.Forms.{form_of}
use Rattle.hp_words.specs.declared.form.Form.{Form}
use Rattle.hp_words.specs.declared.form.Form.TheVariants.{Solo, Run, Check, Text, Summary}
use Rattle.hp_run.specs.Apart.{IsLeftFor}
use Rattle.hp_run.specs.Checking.{IsChecked, check_status}
use Rattle.hp_run.specs.Making.{IsMade}
use Rattle.hp_run.specs.Making.IsMade.{wrote, wrote_nothing}
use Rattle.hp_run.specs.Outcome.{IsAnswer, IsEndFor, IsPut, IsUnlessFailure, run_status}
use Rattle.hp_run.specs.Outcome.IsPut.{whole, front}
use Rattle.hp_run.specs.Program.{Ends, FormEnds, UsageEnds, form_status_of, status_of, usage_text}
use Rattle.hp_run.specs.Program.Ends.{by_form, at_once}
use Rattle.hp_run.proofs.CheckedLemmas.{check_tells}
use Rattle.hp_run.proofs.OutcomeLemmas.{read_settled, solo_tells, threads_tell}

-- the usage text was written, and nothing read
pub usage_written : (left held held' : Option (List ℕ)) (sink_failed : Type 0) (result : Status)
    → IsPut status.Usage usage_text held held' sink_failed result → UsageEnds left left held held' sink_failed result
usage_written left held held' sink_failed _ (whole written) = (refl, written)
usage_written left held held' sink_failed _ (front some failed) = (refl, some, failed)

-- where the words are no form the status is Usage, or a failure
usage_settled : (left left' held held' : Option (List ℕ)) (sink_failed : Type 0) (result : Status)
    → UsageEnds left left' held held' sink_failed result → IsUnlessFailure status.Usage result
usage_settled left left' held held' sink_failed status.Ok ended = absurd ended
usage_settled left left' held held' sink_failed status.Usage ended = refl
usage_settled left left' held held' sink_failed status.BadWorkload ended = absurd ended
usage_settled left left' held held' sink_failed status.ReadFault ended = tt
usage_settled left left' held held' sink_failed status.WriteFault ended = tt
usage_settled left left' held held' sink_failed status.OutOfMemory ended = tt
usage_settled left left' held held' sink_failed status.TooLong ended = absurd ended

-- where a text is made it is Ok, or a failure
made_settled : (is : List ℕ → Type 0) (held held' : Option (List ℕ)) (sink_failed : Type 0) (result : Status)
    → IsMade is held held' sink_failed result → IsUnlessFailure status.Ok result
made_settled is held held' sink_failed _ (wrote _ text shown (whole written)) = refl
made_settled is held held' sink_failed _ (wrote _ text shown (front some failed)) = tt
made_settled is held held' sink_failed _ (wrote_nothing same) = tt

form_settled : (form : Option Form) (mappers : List (Option (List FailingCall))) (input : List ℕ) (left' held held' : Option (List ℕ))
    (source_failed sink_failed : Type 0) (result : Status) → FormEnds form mappers (Some input) left' held held' source_failed sink_failed result
    → IsUnlessFailure (form_status_of form input) result
form_settled None mappers input left' held held' source_failed sink_failed result ended =
    usage_settled (Some input) left' held held' sink_failed result ended
form_settled (Some Solo) mappers input left' held held' source_failed sink_failed result ended =
    read_settled (IsAnswer (IsEndFor mappers)) run_status (solo_tells mappers) (Some input) left' held held' source_failed sink_failed
    result ended
form_settled (Some Run) mappers input left' held held' source_failed sink_failed result ended =
    read_settled (IsAnswer (IsLeftFor mappers)) run_status (threads_tell mappers) (Some input) left' held held' source_failed sink_failed
    result ended
form_settled (Some Check) mappers input left' held held' source_failed sink_failed result ended =
    read_settled IsChecked check_status check_tells (Some input) left' held held' source_failed sink_failed result ended
form_settled (Some (Text start lines)) mappers input left' held held' source_failed sink_failed result ended =
    made_settled _ held held' sink_failed result ended.1
form_settled (Some (Summary start lines)) mappers input left' held held' source_failed sink_failed result ended =
    made_settled _ held held' sink_failed result ended.1

-- how the program ended is the status for the words and the input, or a failure
pub settled_by_end : (words : List (List ℕ)) (mappers : List (Option (List FailingCall))) (left left' held held' : Option (List ℕ))
    (source_failed sink_failed : Type 0) (result : Status) → Ends words mappers left left' held held' source_failed sink_failed result
    → IfSome left (λ input. IsUnlessFailure (status_of words input) result)
settled_by_end words mappers None left' held held' source_failed sink_failed result ended = tt
settled_by_end words mappers (Some input) left' held held' source_failed sink_failed result (by_form form is ended) =
    subst (λ (form : Option Form). IsUnlessFailure (form_status_of form input) result) (sym is)
    (form_settled form mappers input left' held held' source_failed sink_failed result ended)
settled_by_end words mappers (Some input) left' held held' source_failed sink_failed result (at_once memory left kept) =
    subst (λ (result : Status). IsUnlessFailure (status_of words input) result) (sym memory) tt
