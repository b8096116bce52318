-- So many workers have a job.
use Rattle.std.proofs.Common.{◌≡◌, ◌≤◌, length, vec_capacity, vec_len}
use Rattle.hp_mempool.specs.Working.{AreJobs, left_pass}
use Rattle.hp_mempool.proofs.sharing.dealt.Given as goal

abbrev pub invariant-loop-worker : goal.invariant-loop-worker
invariant-loop-worker l = record {
  first : l.first ≡ left_pass l.pool l.initial.first.places l.worker;
  jobs : AreJobs l.pool l.initial.first.places l.jobs.items;
  count : vec_len l.jobs ≡ l.worker;
  long : length l.jobs.items ≡ l.worker;
  room : l.workers ≤ vec_capacity l.jobs;
}
