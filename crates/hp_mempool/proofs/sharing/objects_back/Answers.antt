use Rattle.std.proofs.Common.{◌<◌, ℕ, List, [], ◌∷◌, length, sym, ap, ◌∙◌, arith}
use Rattle.hp_mempool.specs.declared.sharing.Job.{Job}
use Rattle.hp_mempool.specs.PassView.{PassView}
use Rattle.hp_mempool.specs.Working.{worker_pass}
use Rattle.hp_mempool.proofs.sharing.objects_back.Goals as goal

-- an element of a list that is not empty
one_of : (jobs : List Job) (k : ℕ) → k < length jobs → Job
one_of [] k below = absurd (omega (arith, below))
one_of (job ∷ jobs) k below = job

pub gathered-first-requires-clause-back : goal.gathered-first-requires-clause-back
gathered-first-requires-clause-back g c = λ worker d below.
    let jobs = c.in_ok-jobs.jobs.items in
    let count = c.in_ok-back.ensures.count in
    let within : worker < length jobs = omega (arith, count, below) in
    let job = one_of jobs worker within in
    let places = ap (λ (p : PassView). p.places) c.in_ok-jobs.ensures.first in
    c.in_ok-back.ensures.each worker job d within
    ∙ (c.in_ok-jobs.ensures.jobs worker job within ∙ ap (λ (n : ℕ). worker_pass c.in_ok-pool.pool n worker) (sym places))
