-- The rows rise after the first one.
use Rattle.std.proofs.Common.{arith, rules}
use Rattle.test_maps.proofs.BatchLemmas.{can_come_after}
use Rattle.test_maps.proofs.tests.batch.at_once.Goals as goal

pub map_first-come-requires : goal.map_first-come-requires
map_first-come-requires g c =
    can_come_after c.args.first.now _ _ _ _ (search rules) (search rules) (search rules) (omega arith) (search rules)
