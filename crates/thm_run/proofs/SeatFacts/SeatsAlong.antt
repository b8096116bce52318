-- Behind each run there are as many participants as before.
use Rattle.std.proofs.Common.{◌≡◌, ◌∙◌, ℕ, length, refl}
use Rattle.std.proofs.lemmas.List.{length-set}
use Rattle.thm_run.specs.Together.{GlobalState, Runs, Steps}

step_count : {count : ℕ} {old new : GlobalState} → Steps count old new → length new.seats ≡ length old.seats
step_count (Steps.quietly at who old new there did) = length-set at.seats who new
step_count (Steps.mails at who old new step there did) = length-set at.seats who new
step_count (Steps.handles at who old new given there did kept armed) = length-set at.seats who new

pub count_along : {count : ℕ} {first now : GlobalState} → Runs count first now → length now.seats ≡ length first.seats
count_along (Runs.stands at) = refl
count_along (Runs.goes_on first mid last before step) = step_count step ∙ count_along before
