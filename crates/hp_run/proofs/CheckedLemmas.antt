-- What a text that is read and not run is answered; and that the text of the generator is not refused.
use Rattle.std.proofs.Common.{◌≡◌, ℕ, List, refl, ap}
use Rattle.std.specs.Prelude.{None}
use Rattle.hp_base.specs.declared.status.Status.{Status}
use Rattle.hp_script.proofs.MovedFacts.MovedLemmas.{read_anywhere}
use Rattle.hp_script.specs.DrawnWords.Generated.{IsReadAsDrawn}
use Rattle.hp_script.specs.DrawnWords.GeneratedText.{generated_text}
use Rattle.hp_script.specs.Workloads.{reading_of}
use Rattle.hp_run.specs.Checking.{IsChecked, check_status}
use Rattle.hp_run.specs.Checking.IsChecked.{of_refusal, of_workload}
use Rattle.hp_run.specs.Refusals.{first_refusal, refusal_of}
use Rattle.hp_run.proofs.OutcomeLemmas.{IsTold, Tells}
use Rattle.hp_run.proofs.OutcomeLemmas.IsTold.{ok, refused}

check_told : (input : List ℕ) (ended : Status) (text : List ℕ) → IsChecked input ended text → IsTold ended
check_told input _ _ (of_refusal line kind bad) = refused
check_told input _ _ (of_workload workload read) = ok

check_goes : (input : List ℕ) (ended : Status) (text : List ℕ) → IsChecked input ended text → ended ≡ check_status input
check_goes input _ _ (of_refusal line kind bad) = rw (bad) refl
check_goes input _ _ (of_workload workload read) =
    let nowhere = read_anywhere (record { ref_ptr = read.at; now = input }) read.read read.whole in
    rw (nowhere.whole) refl

pub check_tells : Tells IsChecked check_status
check_tells = record { told = check_told; goes = check_goes }

-- the text of the generator is not refused
pub generated_done : (start lines : ℕ) → IsReadAsDrawn start lines (reading_of (generated_text start lines))
    → refusal_of (generated_text start lines) ≡ None
unfolding refusal_of
generated_done start lines is = ap first_refusal is.whole
