-- Steps that what lies in the mailboxes allows are a run, whatever lies in them; and runs go on one after another.
use Rattle.std.proofs.Common.{ℕ}
use Rattle.thm_run.specs.Together.{GlobalState, Runs, RunsByMail}

pub run_of : {count : ℕ} {first now : GlobalState} → RunsByMail count first now → Runs count first now
run_of (RunsByMail.stands at) = Runs.stands at
run_of (RunsByMail.goes_on first mid last before step is) = Runs.goes_on first mid last (run_of before) step

pub by_mail_then : (count : ℕ) (first mid last : GlobalState) → RunsByMail count first mid → RunsByMail count mid last
    → RunsByMail count first last
by_mail_then count first _ _ here (RunsByMail.stands at) = here
by_mail_then count first _ _ here (RunsByMail.goes_on start mid last runs step is) =
    RunsByMail.goes_on first mid last (by_mail_then count first start mid here runs) step is

pub runs_then : (count : ℕ) (first mid last : GlobalState) → Runs count first mid → Runs count mid last → Runs count first last
runs_then count first _ _ here (Runs.stands at) = here
runs_then count first _ _ here (Runs.goes_on start mid last runs step) =
    Runs.goes_on first mid last (runs_then count first start mid here runs) step
