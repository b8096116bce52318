use Rattle.std.proofs.Common.{◌≡◌, length}
use Rattle.hp_proc.specs.Heaps.{sockets_of}
use Rattle.hp_run.proofs.OpeningLemmas.{AreOpened}
use Rattle.hp_run.proofs.opening.first_heaps.Given as goal

abbrev pub invariant-loop-index : goal.invariant-loop-index
invariant-loop-index l = record {
  count : length l.heaps.items ≡ l.index;
  opened : AreOpened (sockets_of l.fn.workload.pools.items) 0 l.heaps.items;
}
