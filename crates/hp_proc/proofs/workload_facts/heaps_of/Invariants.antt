use Rattle.hp_proc.proofs.SocketHeapLemmas.{AreHeapsBelow}
use Rattle.hp_proc.proofs.workload_facts.heaps_of.Given as goal

abbrev pub invariant-loop-socket : goal.invariant-loop-socket
invariant-loop-socket l = AreHeapsBelow l.fn.pools l.heaps.items l.socket
