use Rattle.std.proofs.Common.{ap}
use Rattle.hp_proc.specs.Contexts.{Said}
use Rattle.hp_proc.proofs.SocketHeapLemmas.{heaps_along}
use Rattle.hp_proc.proofs.workload_facts.WorkloadFacts.heaps.Goals as goal

pub returns : goal.returns
returns c =
    heaps_along c.self.inside.pools.now c.args.self.now.pools c.self.inside.heaps.items c.as_slice.result.now
    (ap (λ (said : Said). said.pools) c.self.view_is) c.as_slice.ensures.value c.self.invariant.0
