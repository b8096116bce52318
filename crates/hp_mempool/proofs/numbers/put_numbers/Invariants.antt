-- With the numbers that are left, all are put.
use Rattle.std.proofs.Common.{◌≡◌, drop}
use Rattle.crossbeam_queue.specs.Passes.{IsSamePass, ruled_capacity, view}
use Rattle.hp_mempool.specs.Views.{CanPut, after_puts}
use Rattle.hp_mempool.proofs.numbers.put_numbers.Given as goal

abbrev pub invariant-loop-number : goal.invariant-loop-number
invariant-loop-number g l = record {
  same : IsSamePass l.initial.token l.token;
  may : CanPut (ruled_capacity l.queue) (drop l.number-index l.numbers) (view l.token);
  rest : after_puts (drop l.number-index l.numbers) (view l.token) ≡ after_puts l.numbers (view l.initial.token);
}
